-- What is reported of a line, and written.
use Rattle.std.proofs.Common.{◌≡◌, ◌∙◌, ◌⊎◌, inl, inr, ⊎_elim, ℕ, suc, ◌<◌, ◌≤◌, ◌+◌, ◌*◌, ◌^◌, List, [], ◌∷◌, ◌++◌, length, take, refl, ap, sym, subst, append-nil, length-append, arith, Err}
use Rattle.std.specs.Prelude.{Option}
use Rattle.std.proofs.lemmas.List.{take_all, take-append-le}
use Rattle.dg_words.specs.Counts.{Rose}
use Rattle.dg_base.specs.Outside.{Puts, PutsPrefix}
use Rattle.dg_base.proofs.OutsideLemmas.{Puts-join}
use Rattle.dg_outside.specs.Outside.{OutputState}
use Rattle.dg_end.specs.declared.ends.End.TheVariants as ends
use Rattle.dg_drip_replay.specs.Standing.{NetworkStands, AreKeyed}
use Rattle.dg_drip_replay.specs.declared.network.DripNetwork.{DripNetwork}
use Rattle.dg_drip_script.specs.Scripts.{DripItem, DripScript, with_drip_line, network_of, report_of}
use Rattle.dg_drip_script.specs.Sizes.{most_events}
use Rattle.dg_drip_script.specs.declared.line.DripLine.{DripLine}
use Rattle.dg_drip_run.specs.inner.Playing.{PlayerStands, IsPlaying, LinePlayed}
use Rattle.dg_drip_run.specs.Dripped.{played}
use Rattle.dg_drip_run.specs.inner.Lines.{TellsMore, DripLineStops}
use Rattle.dg_drip_run.specs.declared.player.Player.{Player}
use Rattle.dg_drip_run.specs.declared.player.PlayStop.{PlayStop}
use Rattle.dg_drip_run.specs.declared.player.PlayStop.TheVariants.{TooMany}

-- ---- prefixes

take_behind : (x y : List ℕ) (n : ℕ) → take (length x + n) (x ++ y) ≡ x ++ take n y
take_behind [] y n = let e : 0 + n ≡ n = omega arith in ap (λ (k : ℕ). take k y) e
take_behind (c ∷ x) y n =
    let e : length (c ∷ x) + n ≡ suc (length x + n) = omega arith in
    ap (λ (k : ℕ). take k (c ∷ (x ++ y))) e ∙ ap (λ (t : List ℕ). c ∷ t) (take_behind x y n)

pub front_behind : (a b c : Option (List ℕ)) (x y : List ℕ) → Puts a b x → PutsPrefix b c y → PutsPrefix a c (x ++ y)
front_behind a b c x y p q = (
  length x + q.0,
  (let within = q.1 in omega (arith, within, length-append x y)),
  subst (λ (t : List ℕ). Puts a c t) (sym (take_behind x y q.0)) (Puts-join a b c x (take q.0 y) p q.2),
)

pub front_more : (a b : Option (List ℕ)) (x y : List ℕ) → PutsPrefix a b x → PutsPrefix a b (x ++ y)
front_more a b x y p = (
  p.0,
  (let within = p.1 in omega (arith, within, length-append x y)),
  subst (λ (t : List ℕ). Puts a b t) (sym (take-append-le p.0 x y p.1)) p.2,
)

-- ---- a line

pub played_all : (t : DripScript) → length t.items ≤ most_events → played t ≡ t
played_all t few = ap (λ (is : List DripItem). record t { items = is }) (take_all most_events t.items few)

-- a player that reported all it kept
pub cleared_plays : (p q : Player) (s : DripScript) (before : List ℕ) → PlayerStands p s before → q.network ≡ p.network → q.standing ≡ p.standing → q.events ≡ p.events → q.text.items ≡ [] → PlayerStands q s (report_of s)
cleared_plays p q s before h network standing events text = record {
  standing = standing ∙ h.standing;
  stands = subst (λ (n : DripNetwork). NetworkStands n (network_of s)) (sym network) h.stands;
  nodes = ap (λ n. length n.nodes.items) network ∙ h.nodes;
  events = events ∙ h.events;
  few = h.few;
  moment = subst (λ (n : DripNetwork). n.moment ≤ length s.items * 2 ^ 32) (sym network) h.moment;
  keyed = subst (λ (n : DripNetwork). AreKeyed n.sent.items) (sym network) h.keyed;
  reported = ap (λ (t : List ℕ). report_of s ++ t) text ∙ append-nil (report_of s);
  first = h.first;
  early = h.early;
  below = h.below;
}

pub cleared_playing : (p q : Player) → IsPlaying p → q.network ≡ p.network → q.standing ≡ p.standing → q.events ≡ p.events → q.text.items ≡ [] → IsPlaying q
cleared_playing p q h network standing events text = (h.0, report_of h.0, cleared_plays p q h.0 h.1 h.2 network standing events text)

-- what such a player reports of a line that it played
pub tells : (q : Player) (s t : DripScript) (text : List ℕ) → PlayerStands q t (report_of s) → text ≡ q.text.items → TellsMore s t text
tells q s t text h is = ap (λ (u : List ℕ). report_of s ++ u) is ∙ (h.reported ∙ ap report_of (sym (played_all t h.few)))

pub line_ok : (q : Player) (s t : DripScript) (text : List ℕ) (old new : Option (List ℕ)) → PlayerStands q t (report_of s) → text ≡ q.text.items → Puts old new text
    → ((b : List ℕ) × PlayerStands q t b) × ((more : List ℕ) × TellsMore s t more × Puts old new more)
line_ok q s t text old new h is put = ((report_of s, h), (text, tells q s t text h is, put))

pub line_cut : (q : Player) (s t : DripScript) (text : List ℕ) (a b : OutputState) → PlayerStands q t (report_of s) → text ≡ q.text.items → Rose a.writes b.writes → PutsPrefix a.written b.written text → DripLineStops ends.WriteFault s t a b
line_cut q s t text a b h is rose put = (text, tells q s t text h is, put, rose)

-- ---- a line of too many events

full_of : (e : PlayStop) (p q : Player) (line : DripLine) (s : DripScript) (before : List ℕ) → e ≡ TooMany → LinePlayed (Err e) p q line → PlayerStands p s before
    → (most_events < length (with_drip_line s line).items) × PlayerStands q (played (with_drip_line s line)) before
full_of e p q line s before is ran h = let full : LinePlayed (Err TooMany) p q line = subst (λ (x : PlayStop). LinePlayed (Err x) p q line) is ran in full s before h

module _ (e : PlayStop) (p q : Player) (line : DripLine) (s : DripScript) (text : List ℕ) (a b : OutputState) (is : e ≡ TooMany) (ran : LinePlayed (Err e) p q line) (h : PlayerStands p s (report_of s)) (text_is : text ≡ q.text.items) where
  full_tells : TellsMore s (with_drip_line s line) text
  full_tells = ap (λ (u : List ℕ). report_of s ++ u) text_is ∙ (full_of e p q line s (report_of s) is ran h).1.reported

  pub line_full : Puts a.written b.written text → b.writes ≡ a.writes → DripLineStops ends.TooMany s (with_drip_line s line) a b
  line_full put same = (text, full_tells, put, same, (full_of e p q line s (report_of s) is ran h).0)

  pub full_cut : Rose a.writes b.writes → PutsPrefix a.written b.written text → DripLineStops ends.WriteFault s (with_drip_line s line) a b
  full_cut rose put = (text, full_tells, put, rose)

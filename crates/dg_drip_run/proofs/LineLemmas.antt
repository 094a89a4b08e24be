-- A line of a script, for a player.
use Rattle.std.proofs.Common.{◌≡◌, ◌∙◌, ℕ, ◌<◌, ◌≤◌, ◌*◌, ◌^◌, Bool, true, false, List, [], ◌∷◌, ◌++◌, length, take, ap, sym, subst, append_assoc, length-append, true≢false, arith, Result, Ok, Err}
use Rattle.std.specs.Prelude.{OnOk, OnErr, IsOk, if◌then◌else◌}
use Rattle.std.proofs.lemmas.List.{take_all, take-append-le}
use Rattle.std.specs.declared.alloc.AllocError.{AllocError}
use Rattle.dg_drip.specs.Network.{Network, start, run, are_drip_neighbours}
use Rattle.dg_drip_replay.specs.Standing.{NetworkStands, TimePasses, with_neighbours}
use Rattle.dg_drip_script.specs.Scripts.{DripItem, DripScript, begun_script, with_drip_line, with_items, network_of, drip_events_of, text_of_run}
use Rattle.dg_drip_script.specs.Sizes.{most_events}
use Rattle.dg_drip_script.specs.declared.line.DripLine.{DripLine}
use Rattle.dg_drip_script.specs.declared.line.DripLine.TheVariants.{Link}
use Rattle.dg_drip_script.specs.declared.line.Standing.{Standing}
use Rattle.dg_drip_run.specs.inner.Playing.{PlayerStands, IsPlaying, DripItemsPlayed, LinePlayed, AreBelow}
use Rattle.dg_drip_run.specs.declared.player.Player.{Player}
use Rattle.dg_drip_run.specs.declared.player.PlayStop.{PlayStop}
use Rattle.dg_drip_run.specs.declared.player.PlayStop.TheVariants.{TooMany, Memory}
use Rattle.dg_drip_run.proofs.RoundLemmas.{below_more}

-- ---- events

abbrev pub begun_player : Player → Player
begun_player p = record { network = p.network; standing = record { nodes = p.standing.nodes; begun = true }; events = p.events; text = p.text }

pub begun_plays : (p : Player) (s : DripScript) (before : List ℕ) → PlayerStands p s before → PlayerStands (begun_player p) (begun_script s) before
begun_plays p s before h =
    let at : ℕ → Standing = λ n. record { nodes = n; begun = true } in
    record {
      standing = ap at (ap (λ t. t.nodes) h.standing);
      stands = h.stands;
      nodes = h.nodes;
      events = h.events;
      few = h.few;
      moment = h.moment;
      keyed = h.keyed;
      reported = h.reported;
      first = h.first;
      early = λ not_yet. absurd (true≢false not_yet);
      below = h.below;
    }

pub begun_playing : (p : Player) → IsPlaying p → IsPlaying (begun_player p)
begun_playing p h = (begun_script h.0, h.1, begun_plays p h.0 h.1 h.2)

cut_front : (n : ℕ) (all a b : List DripItem) → all ≡ a ++ b → length a ≡ n → 0 < length b → (n < length all) × (take n all ≡ a)
cut_front n all a b parts long some = (
  omega (arith, ap length parts, length-append a b, long, some),
  ap (take n) parts ∙ (take-append-le n a b (omega (arith, long)) ∙ take_all n a (omega (arith, long))),
)

some_of : (i : DripItem) (is : List DripItem) → 0 < length (i ∷ is)
some_of i is = omega arith

pub events_played : (r : Result (Unit {0}) PlayStop) (p q : Player) (line : DripLine) (items : List DripItem)
    → ((s : DripScript) (before : List ℕ) → PlayerStands p s before → with_items (begun_script s) items ≡ with_drip_line s line) → DripItemsPlayed r (begun_player p) q items → LinePlayed r p q line
events_played (Ok u) p q line items same ran = λ s before h. subst (λ (t : DripScript). PlayerStands q t before) (same s before h) (ran (begun_script s) before (begun_plays p s before h))
events_played (Err TooMany) p q line items same ran = λ s before h.
    let f = ran (begun_script s) before (begun_plays p s before h) in
    let parts : s.items ++ items ≡ (s.items ++ f.front) ++ f.next ∷ f.back = ap (λ (is : List DripItem). s.items ++ is) f.parts ∙ sym (append_assoc s.items f.front (f.next ∷ f.back)) in
    let c = cut_front most_events (s.items ++ items) (s.items ++ f.front) (f.next ∷ f.back) parts f.full (some_of f.next f.back) in
    subst (λ (t : DripScript). (most_events < length t.items) × PlayerStands q (record t { items = take most_events t.items }) before) (same s before h)
    (c.0, subst (λ (is : List DripItem). PlayerStands q (record (begun_script s) { items = is }) before) (sym c.1) f.after)
events_played (Err Memory) p q line items same ran = tt

-- ---- a link

link_plays : (p q : Player) (s : DripScript) (before : List ℕ) (a b : ℕ) → PlayerStands p s before → NetworkStands q.network (with_neighbours (network_of s) a b) → TimePasses p.network q.network 0
    → p.standing.begun ≡ false → a < p.standing.nodes → b < p.standing.nodes → q.standing ≡ p.standing → q.events ≡ p.events → q.text.items ≡ p.text.items
    → PlayerStands q (with_drip_line s (Link a b)) before
link_plays p q s before a b h stands passes early less few standing events text =
    by_flag (are_drip_neighbours s.links a b) (subst (λ (w : Network). NetworkStands q.network (with_neighbours w a b)) (behind s.links) stands)
  where
    nodes_is : p.standing.nodes ≡ s.nodes
    nodes_is = ap (λ t. t.nodes) h.standing

    none : s.items ≡ []
    none = h.early (sym (ap (λ t. t.begun) h.standing) ∙ early)

    behind : (links : List (ℕ × ℕ)) → run (start links) (drip_events_of s.items) ≡ start links
    behind links = ap (λ (is : List DripItem). run (start links) (drip_events_of is)) none

    told_none : (links : List (ℕ × ℕ)) → text_of_run (start links) s.items ≡ []
    told_none links = ap (text_of_run (start links)) none

    moved : q.network.moment ≤ length s.items * 2 ^ 32
    moved = subst (λ (m : ℕ). m ≤ length s.items * 2 ^ 32) (sym passes.moment) (let m = h.moment in omega (arith, m))

    with_links : (links : List (ℕ × ℕ)) → NetworkStands q.network (start links) → AreBelow s.nodes links → PlayerStands q (record s { links = links }) before
    with_links links k below = record {
      standing = standing ∙ h.standing;
      stands = subst (λ (w : Network). NetworkStands q.network w) (sym (behind links)) k;
      nodes = passes.nodes ∙ h.nodes;
      events = events ∙ h.events;
      few = h.few;
      moment = moved;
      keyed = passes.keyed;
      reported = ap (λ t. before ++ t) text ∙ (h.reported ∙ (told_none s.links ∙ sym (told_none links)));
      first = λ zero_nodes. absurd (let bad : p.standing.nodes ≡ 0 = nodes_is ∙ zero_nodes in omega (arith, less, bad));
      early = h.early;
      below = below;
    }

    by_flag : (x : Bool) → NetworkStands q.network (if x then start s.links else record (start s.links) { links = s.links ++ (a, b) ∷ [] }) → PlayerStands q (if x then s else record s { links = s.links ++ (a, b) ∷ [] }) before
    by_flag true k = with_links s.links k h.below
    by_flag false k = with_links (s.links ++ (a, b) ∷ []) k (below_more s.nodes s.links a b h.below (omega (arith, less, nodes_is)) (omega (arith, few, nodes_is)))

pub link_played : (r : Result (Unit {0}) PlayStop) (d : Result (Unit {0}) AllocError) (p q : Player) (a b : ℕ) → OnOk r (IsOk d) → OnErr r (r ≡ Err Memory)
    → ((w : Network) → NetworkStands p.network w → OnOk d (NetworkStands q.network (with_neighbours w a b))) → OnOk d (TimePasses p.network q.network 0)
    → p.standing.begun ≡ false → a < p.standing.nodes → b < p.standing.nodes → q.standing ≡ p.standing → q.events ≡ p.events → q.text.items ≡ p.text.items → LinePlayed r p q (Link a b)
link_played (Ok u) (Ok v) p q a b ok stop links passes early less few standing events text = λ s before h.
    link_plays p q s before a b h (links (network_of s) h.stands) passes early less few standing events text
link_played (Ok u) (Err e) p q a b ok stop links passes early less few standing events text = absurd (true≢false (sym ok))
link_played (Err TooMany) d p q a b ok stop links passes early less few standing events text = absurd (let e = stop in cc)
link_played (Err Memory) d p q a b ok stop links passes early less few standing events text = tt

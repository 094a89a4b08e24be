-- A service of one mote over other boards.
use Rattle.std.proofs.Common.{◌≡◌, ℕ, zero, suc, ◌+◌, ◌<◌, ◌≤◌, List, [], ◌∷◌, length, replicate, set, refl, ap, sym, subst, ⊎_elim, arith}
use Rattle.std.specs.Prelude.{slice_get, slice_index_or, Some, None}
use Rattle.std.proofs.Math.ListN.{length-set}
use Rattle.std.proofs.lemmas.Bool.{cases_lt}
use Rattle.dg_nor.specs.Device.{Device}
use Rattle.dg_volume.specs.Stands.{IsVolume}
use Rattle.dg_seed.specs.Draws.{generator_of}
use Rattle.dg_serve.specs.Services.{Part, Begins, Moment}
use Rattle.dg_serve.specs.Standings.{Standing, StandsFor, StandsReady, ServedParts}
use Rattle.dg_serve.proofs.BoardLemmas.{get_set_same, got_within}
use Rattle.dg_serve.proofs.EventLemmas.{same_of}
use Rattle.dg_serve.proofs.LoopLemmas.{still_under_way}
use Rattle.dg_serve.proofs.OpenLemmas.{many_in}
use Rattle.dg_serve.proofs.PlayLemmas.{off_stands}
use Rattle.dg_serve.proofs.StartLemmas.{first_moment, stands_first, stores_of}
use Rattle.dg_single.specs.Overs.{Owns, over, Seat, ReadyOver, IsUnderWayOver}

-- ---- boards

pub set_again : {A : Type 0} (xs : List A) (i : ℕ) (a b : A) → set (set xs i a) i b ≡ set xs i b
set_again [] i a b = refl
set_again (x ∷ xs) zero a b = refl
set_again (x ∷ xs) (suc i) a b = ap (λ l. x ∷ l) (set_again xs i a b)

pub owns_next : (motes mote : ℕ) (d e : Device) (boards : List Device) → Owns motes mote d boards → Owns motes mote e (set boards mote e)
owns_next motes mote d e boards o = record {
  is = get_set_same boards mote e (got_within boards mote d o.is);
  enough = let n = length-set boards mote e in omega (arith, n, o.enough);
}

-- all boards are alike
pub alike : ℕ → Device → List Device
alike motes d = replicate motes d

got_alike : (n m : ℕ) (d : Device) → m < n → slice_get (replicate n d) m ≡ Some d
got_alike zero m d h = absurd (omega arith)
got_alike (suc n) zero d h = refl
got_alike (suc n) (suc m) d h = got_alike n m d (omega arith)

pub owns_alike : (motes mote : ℕ) (d : Device) → mote < motes → Owns motes mote d (replicate motes d)
owns_alike motes mote d known = record { is = got_alike motes mote d known; enough = let n = many_in d motes in omega (arith, n) }

within_alike : (n m : ℕ) (d a : Device) → slice_get (replicate n d) m ≡ Some a → a ≡ d
within_alike zero m d a was = absurd cc
within_alike (suc n) zero d a was = sym (same_of (Some d) d a refl was)
within_alike (suc n) (suc m) d a was = within_alike n m d a was

-- ---- more motes began, which are off

-- the board of a mote that is off may count as that of a mote that began, if it is a volume
pub more_on : (motes low high : ℕ) (links : List (ℕ × ℕ)) (first : List Device) (s : Moment) (p : Standing) → low ≤ high → high ≤ motes
    → ((m : ℕ) (a : Device) → low ≤ m → m < high → slice_get first m ≡ Some a → IsVolume a.image) → ((m : ℕ) → low ≤ m → slice_index_or p.service.motes.items m None ≡ None)
    → StandsFor motes low links 0 first s p → StandsFor motes high links 0 first s p
more_on motes low high links first s p rises within volumes off st = record {
  moment = st.moment;
  reading = st.reading;
  draws = st.draws;
  clock = st.clock;
  inboxes = st.inboxes;
  linked = st.linked;
  wide = st.wide;
  sites = st.sites;
  count = st.count;
  timely = st.timely;
  on = λ m a b below was now.
      ⊎_elim
      (λ less. st.on m a b less was now)
      (λ more.
      let x = st.off m a b more (omega (arith, below, within)) was now in
      let v = volumes m a more below was in
      (v, off_stands a b (slice_index_or p.service.motes.items m None) s.world m (off m more) x v))
      (cases_lt m low);
  off = λ m a b out known was now. st.off m a b (omega (arith, out, rises)) known was now;
}

-- ---- it is under way

pub ready_more : (motes low high : ℕ) (p : Standing) → low ≤ high → StandsReady motes low p → StandsReady motes high p
ready_more motes low high p rises r = record { motes_are = r.motes_are; boards = r.boards; addressees = r.addressees; reading = r.reading; off = λ m out. r.off m (omega (arith, out, rises)) }

-- once its mote began
pub under_way : (x : Seat) (d e : Device) (p q : Standing) (limit : ℕ) → x.mote < x.motes → ReadyOver x 0 d p → p.service.timeline.moment ≡ 0 → q.service.timeline.moment < limit
    → ((boards : List Device) → Owns x.motes x.mote d boards → ServedParts x.motes x.mote (x.mote + 1) x.links (Begins x.mote ∷ []) (over p boards) (over q (set boards x.mote e)))
    → IsUnderWayOver x limit e q
under_way x d e p q limit known ready moment early goes =
    let boards : List Device = replicate x.motes d in
    let owns = owns_alike x.motes x.mote d known in
    let went = goes boards owns in
    let volume : IsVolume d.image = went.volumes x.mote d (omega arith) (omega arith) owns.is in
    let all : (m : ℕ) (a : Device) → slice_get boards m ≡ Some a → IsVolume a.image = λ m a was. subst (λ (y : Device). IsVolume y.image) (sym (within_alike x.motes m d a was)) volume in
    let stores = stores_of x.motes boards owns.enough (λ m a h was. all m a was) in
    let from : Standing = over p boards in
    let to : Standing = over q (set boards x.mote e) in
    let s = first_moment [] x.links stores.0 p.service.timeline.reading p.clock (generator_of p.service.timeline.draws) p.inboxes in
    let off = stands_first x.motes x.links [] stores.0 p.service.timeline.reading p.clock (generator_of p.service.timeline.draws) p.inboxes from stores.1 moment refl refl refl refl in
    let before = more_on x.motes 0 x.mote x.links boards s from (omega arith) (omega (arith, known)) (λ m a low high was. all m a was) (λ m out. (ready boards owns).off m out) off in
    let y = went.run boards s before in
    let behind = more_on x.motes (x.mote + 1) x.motes x.links boards y.0 to (omega (arith, known)) (omega arith) (λ m a low high was. all m a was) (λ m out. went.ready.off m out) y.2 in
    record {
      boards = set boards x.mote e;
      owns = owns_next x.motes x.mote d e boards owns;
      way = record { ready = ready_more x.motes (x.mote + 1) x.motes to (omega (arith, known)) went.ready; early = early; some = (boards, y.0, behind) };
    }

-- and it stays so
pub still_over : (x : Seat) (parts : List Part) (limit more : ℕ) (d e : Device) (p q : Standing) (way : IsUnderWayOver x limit d p) → ServedParts x.motes x.motes x.motes x.links parts (over p way.boards) (over q (set way.boards x.mote e)) → q.service.timeline.moment < more → IsUnderWayOver x more e q
still_over x parts limit more d e p q way went early = record {
  boards = set way.boards x.mote e;
  owns = owns_next x.motes x.mote d e way.boards way.owns;
  way = still_under_way x.motes x.links parts limit more (over p way.boards) (over q (set way.boards x.mote e)) went way.way early;
}

-- what is ready over some boards is so over all
pub ready_over : (motes begun : ℕ) (p : Standing) (some other : List Device) → StandsReady motes begun (over p some) → motes ≤ length other → StandsReady motes begun (over p other)
ready_over motes begun p some other r enough = record { motes_are = r.motes_are; boards = enough; addressees = r.addressees; reading = r.reading; off = r.off }

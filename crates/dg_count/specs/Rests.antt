-- What a counter has seen stays seen while nothing is made on the boards of the motes: the law of a watcher.
use Rattle.std.proofs.Common.{◌≡◌, ℕ, ◌<◌, false, List, get_or, subst, arith}
use Rattle.std.specs.Prelude.{slice_get, Some}
use Rattle.std.proofs.lemmas.Option.{slice_get-get_or, slice_get_within}
use Rattle.dg_nor.specs.Device.{Device, MadeMore}
use Rattle.dg_nor.proofs.DeviceLemmas.{MadeMore_then}
use Rattle.dg_rules.specs.Runs.{Played}
use Rattle.dg_replay.specs.Shown.{HaveRested}
use Rattle.dg_events.specs.Made.{operations_at}
use Rattle.dg_count.specs.Chips.{counts_by, Placement, HaveMade}

-- the operations that were made before
pub have_rested : (p : Placement) (motes : ℕ) (old new : List Device) (events : List Played) → HaveRested motes old new
    → HaveMade p motes old events → HaveMade p motes new events
have_rested p motes old new events rested was = (was.0, λ m b lt there awake. still m b lt there (before m b lt there awake))
  where
    before : (m : ℕ) (b : Device) → m < motes → slice_get new m ≡ Some b → b.stopped ≡ false
        → (a : Device) × (slice_get old m ≡ Some a) × (a.stopped ≡ false) × MadeMore 0 a.made b.made
    before m b lt there awake =
        let is = slice_get-get_or old m b (omega (arith, slice_get_within new m b there, rested.count)) in
        let r = rested.rests m (get_or old m b) b lt is there awake in
        (get_or old m b, is, r.0, r.1)

    still : (m : ℕ) (b : Device) → m < motes → slice_get new m ≡ Some b
        → (a : Device) × (slice_get old m ≡ Some a) × (a.stopped ≡ false) × MadeMore 0 a.made b.made
        → MadeMore (operations_at m events) (Some (counts_by p.formatted m)) b.made
    still m b lt there (a, is, awake, none) =
        subst (λ (k : ℕ). MadeMore k (Some (counts_by p.formatted m)) b.made) (omega arith)
        (MadeMore_then (operations_at m events) 0 (Some (counts_by p.formatted m)) a.made b.made (was.1 m a lt is awake) none)

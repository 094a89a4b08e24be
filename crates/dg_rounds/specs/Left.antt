-- The events that an iterator still has to yield (docs/SCRIPTS.md, "Sweeps that are enough").
use Rattle.std.specs.Prelude.{ℕ, List, [], ◌++◌, drop, Option, Some, None}
use Rattle.dg_base.specs.declared.events.Event.{Event}
use Rattle.dg_rounds.specs.Rounds.{round, sweep}
use Rattle.dg_rounds.specs.declared.rounds.RoundEvents.{RoundEvents}
use Rattle.dg_rounds.specs.declared.sweeps.SweepEvents.{SweepEvents}

unfoldable pub left_of_round : RoundEvents → List Event
left_of_round r = drop r.given (round r.a r.b)

-- the round back over a link, if it is still to come
abbrev pub way_back : Option (ℕ × ℕ) → List Event
way_back None = []
way_back (Some l) = round l.1 l.0

unfoldable pub left_of_sweep : SweepEvents → List Event
left_of_sweep s = left_of_round s.current ++ (way_back s.back ++ sweep s.links.now)

use Rattle.std.proofs.Common.{◌≡◌, ◌<◌, true, false, take}
use Rattle.dg_rounds.specs.LinkPaths.{IsLinked}
use Rattle.dg_rounds.specs.Marks.{Spreads, unmarked}
use Rattle.dg_rounds.proofs.distances.spread.Given as goal

abbrev pub invariant-loop-a : goal.invariant-loop-a
invariant-loop-a l = record {
  spreads : Spreads (IsLinked (take l.a-index l.links)) l.level l.initial.levels l.levels;
  more : l.marked ≡ true → unmarked l.levels < unmarked l.initial.levels;
  none : l.marked ≡ false → l.levels ≡ l.initial.levels;
}

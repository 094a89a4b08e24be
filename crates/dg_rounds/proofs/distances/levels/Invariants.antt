use Rattle.std.proofs.Common.{◌≡◌, ◌+◌, ◌<◌, vec_len}
use Rattle.dg_rounds.specs.Marks.{unmarked}
use Rattle.dg_rounds.proofs.WayLemmas.{Reached}
use Rattle.dg_rounds.proofs.distances.levels.Given as goal

abbrev pub invariant-loop-level : goal.invariant-loop-level
invariant-loop-level l = record {
  len : vec_len l.levels ≡ l.motes;
  reached : Reached l.links l.from l.level l.levels.items;
  room : l.level + unmarked l.levels.items < l.motes;
}

abbrev pub decreases-loop-level : goal.decreases-loop-level
decreases-loop-level l = unmarked l.levels.items

use Rattle.std.proofs.Common.{map}
use Rattle.dg_meter.specs.Meters.{metered_device}
use Rattle.dg_world.proofs.FinishLemmas.{ReadTo}
use Rattle.dg_cost.proofs.looking.look_again.Given as goal

-- the boards so far were only read
abbrev pub invariant-loop-index : goal.invariant-loop-index
invariant-loop-index g l = record {
  read : ReadTo l.index (map (metered_device g.N.Nor.device) l.initial.boards.items) (map (metered_device g.N.Nor.device) l.boards.items);
}

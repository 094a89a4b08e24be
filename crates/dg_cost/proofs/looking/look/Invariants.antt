use Rattle.std.proofs.Common.{◌≡◌, length, map}
use Rattle.dg_meter.specs.Meters.{metered_device}
use Rattle.dg_world.proofs.FinishLemmas.{ReadTo}
use Rattle.dg_cost.proofs.LookingLemmas.{ReadsFirst}
use Rattle.dg_cost.proofs.looking.look.Given as goal

-- the boards so far were read
abbrev pub invariant-loop-index : goal.invariant-loop-index
invariant-loop-index g l = record {
  boards : length l.boards.items ≡ length l.initial.boards.items;
  given : length l.given.items ≡ l.index;
  read : ReadTo l.index (map (metered_device g.N.Nor.device) l.initial.boards.items) (map (metered_device g.N.Nor.device) l.boards.items);
  reads : ReadsFirst l.index l.given.items (map (metered_device g.N.Nor.device) l.boards.items);
}

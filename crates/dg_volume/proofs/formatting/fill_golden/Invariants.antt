use Rattle.std.proofs.Common.{◌≡◌, ◌*◌}
use Rattle.dg_nor.specs.Chip.{Touches}
use Rattle.dg_nor.specs.Device.{Ran}
use Rattle.dg_slot.specs.Layout.{page_operations, header_sector, slot_end}
use Rattle.dg_slot.specs.Jobs.{IsOpen, outline_of_slot}
use Rattle.dg_volume.specs.Store.{golden_row, held_to}
use Rattle.dg_volume.proofs.formatting.fill_golden.Given as goal

abbrev pub invariant-loop-p : goal.invariant-loop-p
invariant-loop-p g l =
    let old = g.N.Nor.device l.fn.nor in
    let now = g.N.Nor.device l.nor in
    record {
      is_open : IsOpen now.image l.open (held_to (golden_row l.name l.golden) l.p);
      golden : (outline_of_slot l.open).image ≡ 0;
      ran : Ran (page_operations * l.p) old now;
      touches : Touches (header_sector 0) (slot_end 0) old.image now.image;
    }

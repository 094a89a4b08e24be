use Rattle.std.proofs.Common.{◌≤◌, ◌-◌}
use Rattle.dg_words.specs.Cells.{part}
use Rattle.dg_nor.specs.Chip.{sector}
use Rattle.dg_object.specs.Descriptor.{RestFits}
use Rattle.dg_object.specs.Sizes.{page_size, head_size}
use Rattle.dg_nor.specs.Reads.{Looked}
use Rattle.dg_slot.proofs.descriptor.rest_fits.Given as goal

abbrev pub invariant-loop-at : goal.invariant-loop-at
invariant-loop-at g l =
    let old = g.N.Nor.device l.fn.nor in
    record {
      behind : head_size ≤ l.at;
      within : l.at ≤ page_size;
      fits : RestFits l.first.pages head_size (part (sector old.image l.index) head_size (l.at - head_size));
      looked : Looked old (g.N.Nor.device l.nor);
    }

abbrev pub decreases-loop-at : goal.decreases-loop-at
decreases-loop-at g l = page_size - l.at

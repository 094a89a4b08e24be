use Rattle.std.proofs.Common.{◌≡◌, ◌+◌, ◌*◌, min}
use Rattle.dg_words.specs.Cells.{part, overwritten}
use Rattle.dg_base.specs.Crc.{crc_more}
use Rattle.dg_nor.specs.Sizes.{sector_size}
use Rattle.dg_nor.specs.Chip.{sector, blank, Touches}
use Rattle.dg_nor.specs.Device.{Ran}
use Rattle.dg_boot.specs.Sizes.{copy_piece_size}
use Rattle.dg_boot.proofs.pieces.copy_page.Given as goal

abbrev pub invariant-loop-k : goal.invariant-loop-k
invariant-loop-k g l =
    let old = g.N.Nor.device l.fn.nor in
    let now = g.N.Nor.device l.nor in
    record {
      copied : sector now.image l.to ≡ overwritten (blank sector_size) 0 (part (sector old.image l.from) 0 (copy_piece_size * l.k));
      summed : l.crc ≡ crc_more l.fn.before (part (sector old.image l.from) 0 (min (copy_piece_size * l.k) l.count));
      touches : Touches l.to (l.to + 1) old.image now.image;
      ran : Ran (1 + l.k) old now;
    }

use Rattle.std.proofs.Common.{◌≡◌, ℕ, ◌+◌, ◌-◌, ◌*◌, ◌<◌, map, take}
use Rattle.std.specs.List.{range_with_len}
use Rattle.dg_words.specs.Lists.{concatenated}
use Rattle.dg_base.specs.Crc.{crc_of, crc_more}
use Rattle.dg_nor.specs.Chip.{Touches}
use Rattle.dg_nor.specs.Device.{Ran}
use Rattle.dg_slot.specs.Layout.{page_size, page_sector, program_sector, program_end}
use Rattle.dg_slot.specs.Pages.{page_in}
use Rattle.dg_volume.specs.Sizes.{copy_operations}
use Rattle.dg_boot.proofs.loading.copy_pages.Given as goal

-- the checksum so far, continued over what is left, is that of all
abbrev pub invariant-loop-p : goal.invariant-loop-p
invariant-loop-p g l =
    let old = g.N.Nor.device l.fn.nor in
    let now = g.N.Nor.device l.nor in
    let page = λ (q : ℕ). page_in old.image (page_sector l.image q) in
    record {
      copied : (q : ℕ) → q < l.p + 1 → page_in now.image (program_sector q) ≡ page_in old.image (page_sector l.image q);
      summed : crc_more l.crc (take (l.length - page_size * l.p) (concatenated (map page (range_with_len (l.p + 1) (l.p-end - l.p))))) ≡ crc_of (take l.length (concatenated (map page (range_with_len 1 l.p-end))));
      touches : Touches (program_sector 0) program_end old.image now.image;
      ran : Ran (copy_operations * (l.p + 1)) old now;
    }

use Rattle.std.proofs.Common.{◌≡◌, ℕ, ◌+◌, ◌-◌, ◌*◌, map, take}
use Rattle.std.specs.List.{range_with_len}
use Rattle.dg_words.specs.Lists.{concatenated}
use Rattle.dg_base.specs.Crc.{crc_of, crc_more}
use Rattle.dg_nor.specs.Reads.{Looked}
use Rattle.dg_slot.specs.Layout.{page_size, program_sector}
use Rattle.dg_slot.specs.Pages.{page_in}
use Rattle.dg_boot.proofs.loading.image_crc.Given as goal

-- the checksum so far, continued over what is left, is that of all
abbrev pub invariant-loop-p : goal.invariant-loop-p
invariant-loop-p g l =
    let old = g.N.Nor.device l.fn.nor in
    let page = λ (q : ℕ). page_in old.image (program_sector q) in
    record {
      summed : crc_more l.crc (take (l.length - page_size * l.p) (concatenated (map page (range_with_len (l.p + 1) (l.p-end - l.p))))) ≡ crc_of (take l.length (concatenated (map page (range_with_len 1 l.p-end))));
      looked : Looked old (g.N.Nor.device l.nor);
    }

use Rattle.std.proofs.Common.{◌≡◌, ℕ, List, ◌+◌, ◌-◌, ◌*◌, ◌++◌, map, take}
use Rattle.std.specs.List.{range_with_len}
use Rattle.sha2.specs.Hashers.{Holds256}
use Rattle.dg_words.specs.Lists.{concatenated}
use Rattle.dg_base.specs.Crc.{crc_of}
use Rattle.dg_nor.specs.Reads.{Looked}
use Rattle.dg_slot.specs.Layout.{page_size}
use Rattle.dg_slot.specs.Pages.{page_in}
use Rattle.dg_inspect.proofs.pages.see_bytes.Given as goal

-- the bytes so far, and those that are left after them, are all
abbrev pub invariant-loop-p : goal.invariant-loop-p
invariant-loop-p g l =
    let old = g.N.Nor.device l.fn.nor in
    let page = λ (q : ℕ). page_in old.image (l.first + q) in
    record {
      summed : (m : List ℕ) × Holds256 l.hasher m × (l.crc ≡ crc_of m)
          × (m ++ take (l.length - page_size * l.p) (concatenated (map page (range_with_len (l.p + 1) (l.p-end - l.p)))) ≡ take l.length (concatenated (map page (range_with_len 1 l.p-end))));
      looked : Looked old (g.N.Nor.device l.nor);
    }

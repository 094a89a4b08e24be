use Rattle.std.proofs.Common.{◌≡◌, ◌-◌, ◌*◌, ◌≤◌, length}
use Rattle.std.specs.List.{flat_map, range_with_len}
use Rattle.dg_nor.specs.Reads.{Looked}
use Rattle.dg_slot.specs.Layout.{page_size, page_sector}
use Rattle.dg_slot.specs.Pages.{page_in}
use Rattle.dg_tool.proofs.pages.read_data.Given as goal

-- the pages so far
abbrev pub invariant-loop-page : goal.invariant-loop-page
invariant-loop-page g l =
    let old = g.N.Nor.device l.initial.nor in
    record {
      pages : l.bytes.items ≡ flat_map (λ p. page_in old.image (page_sector l.image p)) (range_with_len 1 (l.page - 1));
      count : length l.bytes.items ≡ page_size * (l.page - 1);
      some : 1 ≤ l.page;
      looked : Looked old (g.N.Nor.device l.nor);
    }

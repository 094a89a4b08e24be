use Rattle.std.proofs.Common.{◌≡◌, ℕ, ◌+◌}
use Rattle.std.specs.FinSet as set
use Rattle.dg_nor.specs.Reads.{Looked}
use Rattle.dg_slot.specs.Pages.{page_in}
use Rattle.dg_inspect.proofs.PageLemmas.{is_bad}
use Rattle.dg_inspect.proofs.pages.unsound_pages.Given as goal

-- the pages before this one that are unsound
abbrev pub invariant-loop-page : goal.invariant-loop-page
invariant-loop-page g l =
    let old = g.N.Nor.device l.fn.nor in
    record {
      marked : (q : ℕ) → set.contains l.unsound q ≡ is_bad (λ p. page_in old.image (l.first + p)) l.page q;
      looked : Looked old (g.N.Nor.device l.nor);
    }

use Rattle.std.proofs.Common.{◌≡◌, ℕ, ◌+◌, ◌<◌}
use Rattle.dg_slot.specs.Pages.{page_in}
use Rattle.dg_inspect.specs.Chip.{still_device}
use Rattle.dg_compare.proofs.pages.compare_pages.Given as goal

-- each page before this one is equal
abbrev pub invariant-loop-page : goal.invariant-loop-page
invariant-loop-page l = (q : ℕ) → q < l.page → page_in (still_device l.one).image (l.first + q) ≡ page_in (still_device l.other).image (l.first + q)

use Rattle.dg_inspect.specs.Chip.{still_device}
use Rattle.dg_compare.proofs.AlikeLemmas.{shown_some, shared_kept}
use Rattle.std.proofs.Common.{◌≡◌, ℕ, ◌≤◌, min, ap, ◌∙◌, arith}
use Rattle.dg_slot.specs.Layout.{most_pages}
use Rattle.dg_compare.proofs.kept.shared_pages.Goals as goal

pub returns : goal.returns
returns c a b keeps keeps_other shown other =
    let x = c.in-Some.kept in
    let y = c.in-Some-other_kept.other_kept in
    let h = shown_some a c.args.kept.now x c.in-Some.is shown in
    let g = shown_some b c.args.other_kept.now y c.in-Some-other_kept.is other in
    shared_kept (still_device c.args.one.now).image (still_device c.args.other.now).image c.args.image c.page_sector.result c.min-count.result a b h.0 g.0 x y c.compare_pages.result c.page_sector.ensures h.1 g.1 h.2 g.2 keeps keeps_other
    c.if-kept-other_kept.false (c.min-count.ensures ∙ ap (λ n. min n most_pages) c.min-both.ensures) c.compare_pages.ensures

use Rattle.std.proofs.Common.{◌≡◌, ℕ, List, ap, ◌∙◌, arith}
use Rattle.std.specs.Prelude.{◌==◌, ◌+◌}
use Rattle.dg_base.specs.Crc.{crc_of}
use Rattle.dg_slot.specs.Pages.{page_in}
use Rattle.dg_inspect.proofs.pages.has_kept_crc.Goals as goal

pub returns-clause-same : goal.returns-clause-same
returns-clause-same g c =
    let first = c.in_ok-kept.ensures in
    let place : c.args.first + c.from.result ≡ c.args.first + c.args.page = omega arith in
    ap (λ (k : ℕ). k == c.in_ok-kept.kept) (c.in_ok-found.ensures.crc ∙ ap (λ (x : List ℕ). crc_of (page_in x (c.args.first + c.from.result))) first.ends.same_image
    ∙ ap (λ (k : ℕ). crc_of (page_in (g.N.Nor.device c.args.nor.now).image k)) place)
    ∙ ap (λ (k : ℕ). crc_of (page_in (g.N.Nor.device c.args.nor.now).image (c.args.first + c.args.page)) == k) first.crc

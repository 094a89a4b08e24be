use Rattle.std.proofs.Common.{◌∙◌, ap, sym}
use Rattle.sha2.specs.Sha256.{sha256}
use Rattle.dg_slot.specs.Layout.{page_sector}
use Rattle.dg_slot.specs.Pages.{page_in}
use Rattle.dg_chain.specs.Checking.{field_of, is_same}
use Rattle.dg_chain.proofs.StepLemmas.{not_false, passes}
use Rattle.dg_chain.proofs.checking.pass_page.Goals as goal

pub returns-clause-passes : goal.returns-clause-passes
returns-clause-passes g c =
    let image = (g.N.Nor.device c.args.nor.now).image in
    let read = c.in_ok-read_page.ensures.bytes in
    let digest = c.digest-found.ensures ∙ ap sha256 (c.as_slice.ensures ∙ read) in (
      passes c.args.kept.now c.args.page (page_in image (page_sector c.args.image c.args.page)) c.digest-found.result digest (not_false (is_same c.digest-found.result c.args.kept.now) (sym c.ne.ensures ∙ c.if-ne.false)),
      c.field_of.ensures ∙ ap field_of read,
    )

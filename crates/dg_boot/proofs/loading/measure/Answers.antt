use Rattle.std.proofs.Common.{◌≡◌, ℕ, List, sym, ap, ◌∙◌, refl}
use Rattle.dg_base.specs.Crc.{crc_of}
use Rattle.dg_object.specs.Object.{content, pages_for}
use Rattle.dg_object.specs.Records.{details_of}
use Rattle.dg_slot.specs.Pages.{program}
use Rattle.dg_boot.proofs.LoadLemmas.{app_measured}
use Rattle.dg_boot.proofs.loading.measure.Goals as goal

pub returns-clause-measured : goal.returns-clause-measured
returns-clause-measured g c app holds =
    let image = (g.N.Nor.device c.args.nor.now).image in
    let first = c.in_ok-descriptor.ensures in
    let d = details_of c.in_ok-descriptor.descriptor in
    let pages : pages_for d.length ≡ d.pages = sym first.descriptor.head.range.pages in
    let crc = c.in_ok-crc.ensures.crc ∙ ap (λ (i : List ℕ). crc_of (content d.length (program i (pages_for d.length)))) first.ends.same_image ∙ ap (λ n. crc_of (content d.length (program image n))) pages in
    let stood = app_measured image app d _ holds first.descriptor refl refl crc in
    (stood.measures, stood.memory)

use Rattle.std.proofs.Common.{◌≡◌, ℕ, ◌<◌, List, refl, sym, ap, ◌∙◌, subst}
use Rattle.dg_base.specs.Crc.{crc_of}
use Rattle.dg_object.specs.Object.{content, pages_for}
use Rattle.dg_object.specs.Descriptor.{IsDescriptor}
use Rattle.dg_object.specs.Records.{details_of}
use Rattle.dg_slot.specs.Layout.{page_sector, program_sector}
use Rattle.dg_slot.specs.Pages.{page_in, slot_pages}
use Rattle.dg_boot.proofs.LoadLemmas.{whole_image, loads}
use Rattle.dg_boot.proofs.loading.load.Goals as goal

pub returns-clause-loaded : goal.returns-clause-loaded
returns-clause-loaded g c h keeps whole =
    let image = (g.N.Nor.device c.args.nor.now).image in
    let i = c.args.image in
    let first = c.in_ok-descriptor.ensures in
    let d = details_of c.in_ok-descriptor.descriptor in
    let described : IsDescriptor (page_in image (page_sector i 0)) d = subst (λ (k : ℕ). IsDescriptor (page_in image k) d) c.page_sector.ensures first.descriptor in
    let pages : pages_for d.length ≡ d.pages = sym first.descriptor.head.range.pages in
    let copied = subst (λ (n : ℕ). (p : ℕ) → p < n → page_in (g.N.Nor.device c.copy_pages.new.nor).image (program_sector p) ≡ page_in (g.N.Nor.device c.read_descriptor.new.nor).image (page_sector i p)) pages c.in_ok-crc.ensures.pages in
    let crc = c.in_ok-crc.ensures.crc ∙ ap (λ (x : List ℕ). crc_of (content d.length (slot_pages x i (pages_for d.length)))) first.ends.same_image ∙ ap (λ n. crc_of (content d.length (slot_pages image i n))) pages in
    let done = loads image (g.N.Nor.device c.copy_pages.new.nor).image i h d _ (whole_image image i h keeps whole) described (λ p l. copied p l ∙ ap (λ (x : List ℕ). page_in x (page_sector i p)) first.ends.same_image) refl refl crc in
    (done.holds, done.measures, done.memory)

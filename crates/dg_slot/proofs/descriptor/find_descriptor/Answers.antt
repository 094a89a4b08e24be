use Rattle.std.proofs.Common.{◌≡◌, ◌≤◌, ◌-◌, List, ℕ, refl, length, subst, sym, ◌∙◌, arith}
use Rattle.std.proofs.lemmas.Bool.{false≢true}
use Rattle.dg_words.specs.Cells.{part}
use Rattle.dg_object.specs.Sizes.{page_size, head_size}
use Rattle.dg_nor.specs.Chip.{sector}
use Rattle.dg_nor.proofs.ChipLemmas.{length-sector}
use Rattle.dg_object.specs.Descriptor.{Details, RestFits}
use Rattle.dg_object.specs.Records.{details_of}
use Rattle.dg_slot.proofs.DescriptorLemmas.{descriptor_whole, descriptor_head, descriptor_rest, one_descriptor}
use Rattle.dg_slot.proofs.descriptor.find_descriptor.Goals as goal

pub returns-in_default-clause-none : goal.returns-in_default-clause-none
returns-in_default-clause-none g c _ d h =
    let image = (g.N.Nor.device c.args.nor.now).image in
    let chip = g.met.N.Nor.is_chip c.args.nor.now in
    let whole : length (sector image c.args.index) ≡ 2048 = length-sector image c.args.index chip.cells c.requires in
    let none = rw c.in_default.is at c.in_ok-first.ensures.none in
    none refl d (descriptor_head (sector image c.args.index) d (omega arith) h)

pub returns-then-branch-clause-descriptor : goal.returns-then-branch-clause-descriptor
returns-then-branch-clause-descriptor g c =
    let index = c.args.index in
    let image = (g.N.Nor.device c.args.nor.now).image in
    let cells = sector image index in
    let chip = g.met.N.Nor.is_chip c.args.nor.now in
    let whole : length cells ≡ 2048 = length-sector image index chip.cells c.requires in
    let long : page_size ≤ length cells = omega arith in
    let first = c.in-Some.first.descriptor in
    let head = rw c.in-Some.is at c.in_ok-first.ensures.head in
    let rest : RestFits first.pages head_size (part cells head_size (page_size - head_size)) =
    subst (λ (x : List ℕ). RestFits first.pages head_size (part (sector x index) head_size (page_size - head_size))) c.in_ok-first.ensures.ends.same_image (c.in_ok-rest_fits.ensures.fits.0 c.if-branch.true) in
    descriptor_whole cells (details_of first) long head.0 rest

pub returns-else-branch-clause-none : goal.returns-else-branch-clause-none
returns-else-branch-clause-none g c _ d h =
    let index = c.args.index in
    let image = (g.N.Nor.device c.args.nor.now).image in
    let cells = sector image index in
    let chip = g.met.N.Nor.is_chip c.args.nor.now in
    let whole : length cells ≡ 2048 = length-sector image index chip.cells c.requires in
    let long : page_size ≤ length cells = omega arith in
    let first = c.in-Some.first.descriptor in
    let head = rw c.in-Some.is at c.in_ok-first.ensures.head in
    let same : d ≡ details_of first = one_descriptor cells (details_of first) d long head.0 h in
    let fits : RestFits first.pages head_size (part cells head_size (page_size - head_size)) = subst (λ (e : Details). RestFits e.pages head_size (part cells head_size (page_size - head_size))) same (descriptor_rest cells d long h) in
    let there = subst (λ (x : List ℕ). RestFits first.pages head_size (part (sector x index) head_size (page_size - head_size))) (sym c.in_ok-first.ensures.ends.same_image) fits in
    absurd (false≢true (sym c.if-branch.false ∙ c.in_ok-rest_fits.ensures.fits.1 there))

use Rattle.std.proofs.Common.{◌≡◌, ℕ, ◌<◌, length, arith, rules, sym, subst}
use Rattle.dg_nor.specs.Chip.{sector}
use Rattle.dg_nor.proofs.ChipLemmas.{length-sector}
use Rattle.dg_object.specs.Descriptor.{IsDescriptor}
use Rattle.dg_object.specs.Records.{details_of}
use Rattle.dg_slot.specs.Layout.{page_sector}
use Rattle.dg_slot.specs.Pages.{page_in}
use Rattle.dg_chain.proofs.StepLemmas.{counted}
use Rattle.dg_chain.proofs.checking.count_of.Goals as goal

pub returns-clause-count : goal.returns-clause-count
returns-clause-count g c h kept =
    let image = (g.N.Nor.device c.args.nor.now).image in
    let d = c.in-Some.first.descriptor in
    let whole : length (sector image (page_sector c.args.image 0)) ≡ 2048 = length-sector image (page_sector c.args.image 0) (g.met.N.Nor.is_chip c.args.nor.now).cells (omega arith) in
    let read = rw c.in-Some.is at c.in_ok-first.ensures.descriptor in
    let is : IsDescriptor (page_in image (page_sector c.args.image 0)) (details_of d) = subst (λ (k : ℕ). IsDescriptor (page_in image k) (details_of d)) c.page_sector.ensures read.0 in
    counted image c.args.image c.requires.whole.0 h (details_of d) (omega (arith, whole)) c.requires.whole.1 c.requires.whole.2 is kept

-- page 0 of a slot that is whole is a descriptor
pub returns-in_default-clause-stopped : goal.returns-in_default-clause-stopped
returns-in_default-clause-stopped g c =
    let image = (g.N.Nor.device c.args.nor.now).image in
    let whole = c.requires.whole in
    let some : 0 < length whole.0.complete = omega (arith, whole.2, whole.1.header.some) in
    let has = (whole.1.first some).described in
    let is : IsDescriptor (page_in image c.page_sector.result) has.0 = subst (λ (k : ℕ). IsDescriptor (page_in image k) has.0) (sym c.page_sector.ensures) has.1 in
    absurd (c.in_ok-first.ensures.none (search rules) has.0 is)

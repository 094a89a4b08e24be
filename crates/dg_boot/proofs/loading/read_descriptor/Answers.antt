use Rattle.std.proofs.Common.{◌≡◌, ℕ, List, length, sym, subst, arith}
use Rattle.dg_nor.specs.Sizes.{sector_size}
use Rattle.dg_nor.specs.Chip.{sector}
use Rattle.dg_nor.proofs.ChipLemmas.{length-sector}
use Rattle.dg_object.specs.Descriptor.{Details, IsHead, IsDescriptor}
use Rattle.dg_object.specs.Records.{details_of}
use Rattle.dg_slot.specs.Pages.{page_in}
use Rattle.dg_boot.proofs.DescriptorLemmas.{ok_of, ok_value, descriptor_head}
use Rattle.dg_boot.proofs.loading.read_descriptor.Goals as goal

pub unwrap-requires : goal.unwrap-requires
unwrap-requires g c =
    let image = (g.N.Nor.device c.args.nor.now).image in
    let chip = g.met.N.Nor.is_chip c.args.nor.now in
    let cells = sector image c.args.index in
    let whole : length cells ≡ sector_size = length-sector image c.args.index chip.cells c.requires.in_chip in
    let d = c.requires.described in
    let head : IsHead c.read_in.new.into d.0 = subst (λ (x : List ℕ). IsHead x d.0) (sym c.in_ok-read_in.ensures.bytes) (descriptor_head cells d.0 (omega arith) d.1) in
    ok_of _ c.head.result (c.head.ensures.found d.0 head)

pub returns-clause-descriptor : goal.returns-clause-descriptor
returns-clause-descriptor g c =
    let image = (g.N.Nor.device c.args.nor.now).image in
    let chip = g.met.N.Nor.is_chip c.args.nor.now in
    let cells = sector image c.args.index in
    let whole : length cells ≡ sector_size = length-sector image c.args.index chip.cells c.requires.in_chip in
    let d = c.requires.described in
    let head : IsHead c.read_in.new.into d.0 = subst (λ (x : List ℕ). IsHead x d.0) (sym c.in_ok-read_in.ensures.bytes) (descriptor_head cells d.0 (omega arith) d.1) in
    let same : details_of c.unwrap.result ≡ d.0 = ok_value (λ r. details_of r ≡ d.0) c.head.result c.unwrap.result c.unwrap.ensures (c.head.ensures.found d.0 head) in
    subst (λ (e : Details). IsDescriptor (page_in image c.args.index) e) (sym same) d.1

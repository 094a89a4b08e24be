use Rattle.std.proofs.Common.{◌≡◌, ℕ, ◌++◌, ◌*◌, ◌<◌, length, ap, ◌∙◌, arith}
use Rattle.dg_words.specs.Cells.{part}
use Rattle.dg_nor.specs.Sizes.{sectors}
use Rattle.dg_nor.specs.Chip.{sector}
use Rattle.dg_nor.proofs.ChipLemmas.{length-sector}
use Rattle.dg_slot.specs.Layout.{packet_size, page_size, page_sector}
use Rattle.dg_nor.proofs.ReadLemmas.{Looked-none, Looked_then}
use Rattle.dg_tool.proofs.PageLemmas.{packet_none, packet_more, page_grown}
use Rattle.dg_tool.proofs.ReadLemmas.{reads_err}
use Rattle.dg_tool.proofs.pages.push_page.Goals as goal

pub loop-packet-init : goal.loop-packet-init
loop-packet-init g c = record { packets = packet_none c.args.bytes.now.items (sector (g.N.Nor.device c.args.nor.now).image (page_sector c.args.image c.args.page)); looked = Looked-none _ }

pub loop-packet-preserved : goal.loop-packet-preserved
loop-packet-preserved g c =
    let i = c.loop-packet.invariant in
    let image = (g.N.Nor.device c.args.nor.now).image in
    let chip = g.met.N.Nor.is_chip c.args.nor.now in
    let cells = sector image (page_sector c.args.image c.args.page) in
    let there : page_sector c.args.image c.args.page < sectors = omega (arith, c.requires.known_image, c.requires.known_page) in
    let whole : length cells ≡ 2048 = length-sector image (page_sector c.args.image c.args.page) chip.cells there in
    record {
      packets = packet_more _ _ _ cells _ c.loop-packet.packet i.packets (ap (λ x. sector x (page_sector c.args.image c.args.page)) i.looked.same_image) c.in_ok-push_packet.ensures.packet (omega (arith, whole, c.loop-packet-test.true));
      looked = Looked_then i.looked c.in_ok-push_packet.ensures.ends;
    }

pub returns-in_err-push_packet-clause-ends : goal.returns-in_err-push_packet-clause-ends
returns-in_err-push_packet-clause-ends g c = reads_err ℕ c.from_residual.result c.in_err-push_packet.field-0.0 _ _ _ c.from_residual.ensures.1 c.loop-packet.invariant.looked c.in_err-push_packet.ensures.ends

pub returns-clause-grown : goal.returns-clause-grown
returns-clause-grown g c =
    let i = c.loop-packet.invariant in
    let image = (g.N.Nor.device c.args.nor.now).image in
    let chip = g.met.N.Nor.is_chip c.args.nor.now in
    let cells = sector image (page_sector c.args.image c.args.page) in
    let there : page_sector c.args.image c.args.page < sectors = omega (arith, c.requires.known_image, c.requires.known_page) in
    let whole : length cells ≡ 2048 = length-sector image (page_sector c.args.image c.args.page) chip.cells there in
    let last : packet_size * c.loop-packet.packet ≡ page_size = omega (arith, c.loop-packet-test.false, c.loop-packet.auto.packet-end) in
    page_grown _ _ cells (omega (arith, whole)) (i.packets ∙ ap (λ (n : ℕ). c.args.bytes.now.items ++ part cells 0 n) last)

pub returns-clause-page : goal.returns-clause-page
returns-clause-page g c =
    let cells = sector (g.N.Nor.device c.args.nor.now).image (page_sector c.args.image c.args.page) in
    let last : packet_size * c.loop-packet.packet ≡ page_size = omega (arith, c.loop-packet-test.false, c.loop-packet.auto.packet-end) in
    c.loop-packet.invariant.packets ∙ ap (λ (n : ℕ). c.args.bytes.now.items ++ part cells 0 n) last

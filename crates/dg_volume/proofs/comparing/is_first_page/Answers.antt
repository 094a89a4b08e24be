use Rattle.std.proofs.Common.{◌≡◌, ℕ, List, length, sym, ap, ◌∙◌, arith}
use Rattle.std.specs.Cmp.Lexicographic.{other_text}
use Rattle.dg_nor.specs.Chip.{sector}
use Rattle.dg_slot.specs.Layout.{page_size, page_sector}
use Rattle.dg_slot.specs.Pages.{page_in, packet_in}
use Rattle.dg_volume.specs.Filling.{packet_of}
use Rattle.dg_volume.proofs.CompareLemmas.{bytes_same, bytes_other, page_same, packet_same}
use Rattle.dg_volume.proofs.comparing.is_first_page.Goals as goal

pub returns-then-not-branch-clause-same : goal.returns-then-not-branch-clause-same
returns-then-not-branch-clause-same g c =
    let old = (g.N.Nor.device c.args.nor.now).image in
    let k = page_sector c.args.image 0 in
    let q = c.loop-packet.packet in
    let same = c.loop-packet.invariant.looked.same_image in
    let here : packet_in old k q ≡ packet_of c.args.page.now q → ⊥ =
    λ e. other_text (packet_in (g.N.Nor.device c.loop-packet.nor).image k q) (packet_of c.args.page.now q) (sym c.if-not-branch.true ∙ c.in_ok-is_packet.ensures.same) (ap (λ (x : List ℕ). packet_in x k q) same ∙ e) in
    sym (bytes_other (page_in old k) c.args.page.now (λ e. here (packet_same (sector old k) c.args.page.now q (omega (arith, c.loop-packet-test.true)) e)))

pub returns-clause-same : goal.returns-clause-same
returns-clause-same g c =
    let old = (g.N.Nor.device c.args.nor.now).image in
    let k = page_sector c.args.image 0 in
    let long : length c.args.page.now ≡ page_size = omega arith in
    sym (bytes_same (page_in old k) c.args.page.now (page_same (sector old k) c.args.page.now long (λ q h. c.loop-packet.invariant.same q (omega (arith, h, c.loop-packet-test.false)))))

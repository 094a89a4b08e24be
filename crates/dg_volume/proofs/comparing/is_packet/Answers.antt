use Rattle.std.proofs.Common.{◌≡◌, ℕ, ◌+◌, ◌-◌, ◌*◌, List, take, drop, ap, ◌∙◌, arith}
use Rattle.dg_words.specs.Cells.{part}
use Rattle.dg_words.proofs.CellLemmas.{between-part}
use Rattle.dg_slot.specs.Layout.{packet_size, page_sector}
use Rattle.dg_slot.specs.Pages.{packet_in}
use Rattle.dg_volume.specs.Changes.{same_bytes}
use Rattle.dg_volume.proofs.comparing.is_packet.Goals as goal

pub returns-clause-same : goal.returns-clause-same
returns-clause-same g c =
    let there = packet_in (g.N.Nor.device c.args.nor.now).image (page_sector c.args.image 0) c.args.packet in
    let from = packet_size * c.from-from.result in
    let size : from + packet_size - from ≡ packet_size = omega arith in
    let piece = between-part c.args.page.now from (from + packet_size) packet_size size ∙ ap (λ (q : ℕ). part c.args.page.now (packet_size * q) packet_size) c.from-from.ensures in
    c.eq.ensures ∙ ap (λ (xs : List ℕ). same_bytes xs (take (from + packet_size - from) (drop from c.args.page.now))) c.in_ok-read_packet.ensures.bytes ∙ ap (same_bytes there) piece

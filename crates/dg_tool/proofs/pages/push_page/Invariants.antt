use Rattle.std.proofs.Common.{◌≡◌, ◌++◌, ◌*◌}
use Rattle.dg_words.specs.Cells.{part}
use Rattle.dg_nor.specs.Chip.{sector}
use Rattle.dg_nor.specs.Reads.{Looked}
use Rattle.dg_slot.specs.Layout.{packet_size, page_sector}
use Rattle.dg_tool.proofs.pages.push_page.Given as goal

-- the packets so far are appended
abbrev pub invariant-loop-packet : goal.invariant-loop-packet
invariant-loop-packet g l =
    let old = g.N.Nor.device l.initial.nor in
    record {
      packets : l.bytes.items ≡ l.initial.bytes.items ++ part (sector old.image (page_sector l.image l.page)) 0 (packet_size * l.packet);
      looked : Looked old (g.N.Nor.device l.nor);
    }

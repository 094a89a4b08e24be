use Rattle.std.proofs.Common.{◌≡◌, ℕ, ◌*◌, ◌<◌, false}
use Rattle.dg_nor.specs.Device.{Took}
use Rattle.dg_nor.specs.Reads.{Looked}
use Rattle.dg_slot.specs.Layout.{packet_size, page_sector}
use Rattle.dg_slot.specs.Pages.{packet_in}
use Rattle.dg_volume.specs.Filling.{packet_of}
use Rattle.dg_volume.proofs.comparing.is_first_page.Given as goal

abbrev pub invariant-loop-packet : goal.invariant-loop-packet
invariant-loop-packet g l =
    let old = g.N.Nor.device l.fn.nor in
    record {
      same : (q : ℕ) → q < l.packet → packet_in old.image (page_sector l.image 0) q ≡ packet_of l.page q;
      looked : Looked old (g.N.Nor.device l.nor);
      awake : 0 < l.packet → old.stopped ≡ false;
      took : Took (packet_size * l.packet) old (g.N.Nor.device l.nor);
    }

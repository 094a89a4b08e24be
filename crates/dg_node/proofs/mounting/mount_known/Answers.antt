use Rattle.dg_node.proofs.KnownLemmas.{mount_done}
use Rattle.dg_node.proofs.mounting.mount_known.Goals as goal

pub returns-clause-done : goal.returns-clause-done
returns-clause-done g c =
    let e = c.mount.ensures in
    mount_done c.mount.result _ _ e.mounted e.volume e.free e.looked e.same_image e.not_a_volume e.refused e.stopped

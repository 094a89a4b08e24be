use Rattle.std.proofs.Common.{Some, sym, ap, ◌∙◌}
use Rattle.dg_control.specs.declared.snapshot.SlotState.TheVariants.{Live}
use Rattle.dg_volume.proofs.remounting.remount_slot.Goals as goal

pub returns-in_ok-remount_live-in-Live-clause-kept : goal.returns-in_ok-remount_live-in-Live-clause-kept
returns-in_ok-remount_live-in-Live-clause-kept g c =
    let found = c.in_ok-remount_live-in-Live.ensures.kept in
    (Some found.0, record { state = c.in-Live.is ∙ ap Live (sym found.1); keeps = found.2 }, ap Some found.3)

use Rattle.std.proofs.Common.{◌∙◌}
use Rattle.dg_nor.specs.Trail.{last}
use Rattle.dg_nor.proofs.DeviceLemmas.{OnErr_from}
use Rattle.dg_object.specs.Records.{outline_of}
use Rattle.dg_slot.specs.Layout.{header_sector, slot_end}
use Rattle.dg_volume.specs.Trails.{drop_trail}
use Rattle.dg_volume.proofs.TakeLemmas.{on_ok, on_err, take_first, take_then, take_acted, but_control, but_then}
use Rattle.dg_volume.proofs.volume.Volume.replace.Goals as goal

pub returns-in_err-give_up-clause-stopped : goal.returns-in_err-give_up-clause-stopped
returns-in_err-give_up-clause-stopped g c = OnErr_from c.from_residual.result (λ s mounted. take_first s (outline_of c.args.profile.now) _ _ (c.in_err-give_up.ensures.stopped s mounted))

pub begin-requires-clause-mounted : goal.begin-requires-clause-mounted
begin-requires-clause-mounted g c = (last (drop_trail c.requires.mounted.0 c.args.profile.now.image), (c.in_ok-give_up.ensures.acted c.requires.mounted.0 c.requires.mounted.1).mounted)

pub returns-clause-acted : goal.returns-clause-acted
returns-clause-acted g c = on_ok c.begin.result (λ acted s mounted.
    let first = c.in_ok-give_up.ensures.acted s mounted in
    take_acted s (outline_of c.args.profile.now) _ _ _ c.give_up.new.self _ first (acted (last (drop_trail s c.args.profile.now.image)) first.mounted)) c.begin.ensures.acted

pub returns-clause-others : goal.returns-clause-others
returns-clause-others g c i other = c.begin.ensures.others i other ∙ c.give_up.ensures.lent i

pub returns-clause-touches : goal.returns-clause-touches
returns-clause-touches g c = but_then (header_sector c.args.profile.now.image) (slot_end c.args.profile.now.image) _ _ _ (but_control _ _ _ _ c.give_up.ensures.touches) c.begin.ensures.touches

pub returns-clause-stopped : goal.returns-clause-stopped
returns-clause-stopped g c = on_err c.begin.result (λ stopped s mounted.
    let first = c.in_ok-give_up.ensures.acted s mounted in
    take_then s (outline_of c.args.profile.now) _ _ _ c.give_up.new.self first (stopped (last (drop_trail s c.args.profile.now.image)) first.mounted)) c.begin.ensures.stopped

use Rattle.std.proofs.Common.{rules, sym, ◌∙◌}
use Rattle.dg_volume.specs.Store.{held}
use Rattle.dg_nor.proofs.ReadLemmas.{Looked_then, ReadStopped_after}
use Rattle.dg_volume.proofs.RemountLemmas.{remounted, keeps_again, golden_live, took_all, took_control}
use Rattle.dg_volume.proofs.volume.Volume.remount.Goals as goal

pub remount-requires-clause-controls : goal.remount-requires-clause-controls
remount-requires-clause-controls g c =
    let volume = c.requires.volume in
    (volume.1.snapshot, volume.0.room, volume.1.controls)

pub remount_slots-requires : goal.remount_slots-requires
remount_slots-requires g c =
    let volume = c.requires.volume in
    record {
      keeps = λ i known. (
        held volume.0 i,
        keeps_again (g.N.Nor.device c.args.nor.now).image _ c.in_ok-control.control c.now-snapshot.result volume.0 volume.1 c.in_ok-control.ensures.mounted c.now-snapshot.ensures c.in_ok-control.ensures.ends.same_image i known,
      );
    }

pub returns-in_err-kept-clause-stopped : goal.returns-in_err-kept-clause-stopped
returns-in_err-kept-clause-stopped g c = search (rules, ReadStopped_after)

pub returns-clause-looked : goal.returns-clause-looked
returns-clause-looked g c = Looked_then c.in_ok-control.ensures.ends c.in_ok-kept.ensures.ends

pub returns-in_err-control-clause-took : goal.returns-in_err-control-clause-took
returns-in_err-control-clause-took g c n most = took_control (g.N.Nor.device c.args.nor.now).image n most (c.in_err-control.ensures.took most.torn most.has_torn)

pub returns-in_err-kept-clause-took : goal.returns-in_err-kept-clause-took
returns-in_err-kept-clause-took g c n most =
    took_all (g.N.Nor.device c.args.nor.now).image c.in_ok-control.control c.now-snapshot.result n c.in_ok-control.ensures.mounted c.now-snapshot.ensures most (c.in_ok-control.ensures.took most.torn most.has_torn) c.in_err-kept.ensures.took

pub returns-clause-took : goal.returns-clause-took
returns-clause-took g c n most =
    took_all (g.N.Nor.device c.args.nor.now).image c.in_ok-control.control c.now-snapshot.result n c.in_ok-control.ensures.mounted c.now-snapshot.ensures most (c.in_ok-control.ensures.took most.torn most.has_torn) c.in_ok-kept.ensures.took

pub returns-clause-mounted : goal.returns-clause-mounted
returns-clause-mounted g c s stands =
    remounted (g.N.Nor.device c.args.nor.now).image _ _ c.now-snapshot.result s stands c.in_ok-control.ensures.mounted c.now-snapshot.ensures c.in_ok-control.ensures.ends.same_image c.in_ok-kept.ensures.kept

pub returns-clause-volume : goal.returns-clause-volume
returns-clause-volume g c =
    let volume = c.requires.volume in (
      volume.0,
      remounted (g.N.Nor.device c.args.nor.now).image _ _ c.now-snapshot.result volume.0 volume.1 c.in_ok-control.ensures.mounted c.now-snapshot.ensures c.in_ok-control.ensures.ends.same_image c.in_ok-kept.ensures.kept,
    )

pub returns-clause-awake : goal.returns-clause-awake
returns-clause-awake g c =
    let volume = c.requires.volume in
    let golden = golden_live (g.N.Nor.device c.args.nor.now).image _ c.in_ok-control.control c.now-snapshot.result volume.0 volume.1 c.in_ok-control.ensures.mounted c.now-snapshot.ensures c.in_ok-control.ensures.ends.same_image in
    sym c.in_ok-control.ensures.ends.ran.stopped ∙ c.in_ok-kept.ensures.awake golden

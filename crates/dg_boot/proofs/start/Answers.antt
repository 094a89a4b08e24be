use Rattle.std.proofs.Common.{Err, ap}
use Rattle.dg_volume.specs.Start.{boot}
use Rattle.dg_volume.proofs.BeginLemmas.{boot_begins}
use Rattle.dg_boot.proofs.BootLemmas.{boots_looked, mounted_looked, read_stops}
use Rattle.dg_boot.proofs.StartLemmas.{all_started, all_run_on, boot_lacks, boot_stops, fault_no_volume, fault_stopped}
use Rattle.dg_boot.proofs.ConsistentLemmas.{boots_consistent, read_consistent, all_sound}
use Rattle.dg_boot.proofs.start.Goals as goal

pub returns-in_err-volume-clause-not_a_volume : goal.returns-in_err-volume-clause-not_a_volume
returns-in_err-volume-clause-not_a_volume g c is =
    let same = ap Err (fault_no_volume c.from_residual.result c.in_err-volume.field-0.0 c.from_residual.ensures.1 is) in
    (c.in_err-volume.ensures.not_a_volume same, c.in_err-volume.ensures.refused same)

pub returns-in_err-volume-clause-stopped : goal.returns-in_err-volume-clause-stopped
returns-in_err-volume-clause-stopped g c is s stands =
    let same = ap Err (fault_stopped c.from_residual.result c.in_err-volume.field-0.0 c.from_residual.ensures.1 is) in
    read_stops s (boot c.args.kind s).trail _ _ (boot_begins c.args.kind s) stands (c.in_err-volume.ensures.stopped same)

pub returns-clause-started : goal.returns-clause-started
returns-clause-started g c =
    let looked = c.in_ok-volume.ensures.looked in
    all_started c.start_mounted.result (boot c.args.kind) _ _ (λ s stands.
    boots_looked c.start_mounted.result (boot c.args.kind s) _ _ _ looked (c.start_mounted.ensures.boots s (mounted_looked s _ _ c.in_ok-volume.volume looked (c.in_ok-volume.ensures.mounted s stands))))

pub returns-clause-runs_on : goal.returns-clause-runs_on
returns-clause-runs_on g c =
    let looked = c.in_ok-volume.ensures.looked in
    all_run_on c.start_mounted.result (boot c.args.kind) _ _ (λ s stands.
    boots_looked c.start_mounted.result (boot c.args.kind s) _ _ _ looked (c.start_mounted.ensures.boots s (mounted_looked s _ _ c.in_ok-volume.volume looked (c.in_ok-volume.ensures.mounted s stands))))

pub returns-clause-no_image : goal.returns-clause-no_image
returns-clause-no_image g c is s stands =
    let looked = c.in_ok-volume.ensures.looked in
    boot_lacks c.start_mounted.result (boot c.args.kind s) _ _ is
    (boots_looked c.start_mounted.result (boot c.args.kind s) _ _ _ looked (c.start_mounted.ensures.boots s (mounted_looked s _ _ c.in_ok-volume.volume looked (c.in_ok-volume.ensures.mounted s stands))))

pub returns-clause-stopped : goal.returns-clause-stopped
returns-clause-stopped g c is s stands =
    let looked = c.in_ok-volume.ensures.looked in
    boot_stops c.start_mounted.result (boot c.args.kind s) _ _ is
    (boots_looked c.start_mounted.result (boot c.args.kind s) _ _ _ looked (c.start_mounted.ensures.boots s (mounted_looked s _ _ c.in_ok-volume.volume looked (c.in_ok-volume.ensures.mounted s stands))))

pub returns-in_err-volume-clause-consistent : goal.returns-in_err-volume-clause-consistent
returns-in_err-volume-clause-consistent g c golden s stands here = read_consistent golden s _ _ c.in_err-volume.ensures.same_image stands here

pub returns-clause-sound : goal.returns-clause-sound
returns-clause-sound g c =
    let looked = c.in_ok-volume.ensures.looked in
    all_sound c.start_mounted.result (boot c.args.kind) _ _ (λ golden s here. c.trails_keep_consistency.ensures.starts golden c.args.kind s here) (λ s stands.
    boots_looked c.start_mounted.result (boot c.args.kind s) _ _ _ looked (c.start_mounted.ensures.boots s (mounted_looked s _ _ c.in_ok-volume.volume looked (c.in_ok-volume.ensures.mounted s stands))))

pub returns-clause-consistent : goal.returns-clause-consistent
returns-clause-consistent g c golden s stands here =
    let looked = c.in_ok-volume.ensures.looked in
    boots_consistent golden c.start_mounted.result (boot c.args.kind s) _ _ (c.trails_keep_consistency.ensures.boot golden c.args.kind s here)
    (boots_looked c.start_mounted.result (boot c.args.kind s) _ _ _ looked (c.start_mounted.ensures.boots s (mounted_looked s _ _ c.in_ok-volume.volume looked (c.in_ok-volume.ensures.mounted s stands))))

pub returns-clause-no_volume : goal.returns-clause-no_volume
returns-clause-no_volume g c is none = absurd (none c.in_ok-volume.ensures.volume.0 c.in_ok-volume.ensures.volume.1.stands)

use Rattle.std.proofs.Common.{sym, subst, ◌∙◌}
use Rattle.std.specs.Prelude.{◌==◌}
use Rattle.dg_nor.specs.Trail.{last}
use Rattle.dg_slot.specs.Layout.{program_sector, program_end}
use Rattle.dg_volume.specs.Sizes.{short_starts}
use Rattle.dg_volume.specs.Store.{Store}
use Rattle.dg_volume.specs.Trails.{committing}
use Rattle.dg_volume.specs.Start.{behind, kept_boot, waived_once}
use Rattle.dg_volume.proofs.ActLemmas.{stops_first}
use Rattle.dg_boot.specs.Ends.{BootOutcome}
use Rattle.dg_boot.proofs.BeginLemmas.{kept_begins}
use Rattle.dg_boot.proofs.BootLemmas.{stopped_boots, boots_then, TouchesBut-commit, TouchesBut_then}
use Rattle.dg_boot.proofs.CaseLemmas.{waived_room}
use Rattle.dg_boot.proofs.starting.start_waived.Goals as goal

pub returns-in_err-waive-clause-boots : goal.returns-in_err-waive-clause-boots
returns-in_err-waive-clause-boots g c s m =
    let t = committing s (waived_once s) in
    let b = kept_boot (waived_once s) (s.gesture == short_starts) in
    let k = kept_begins (waived_once s) (s.gesture == short_starts) in
    stopped_boots c.from_residual.result (behind t b) _ _ c.from_residual.ensures.1
    (stops_first t b.trail _ _ k.works (waived_room s ∙ sym k.first) (c.in_err-waive.ensures.goes s m))

pub start_kept-requires-clause-mounted : goal.start_kept-requires-clause-mounted
start_kept-requires-clause-mounted g c =
    let m = c.requires.mounted in
    (last (committing m.0 (waived_once m.0)), (c.in_ok-waive.ensures.goes m.0 m.1).acted.mounted)

pub returns-clause-boots : goal.returns-clause-boots
returns-clause-boots g c s m =
    let t = committing s (waived_once s) in
    let b = kept_boot (waived_once s) (s.gesture == short_starts) in
    let k = kept_begins (waived_once s) (s.gesture == short_starts) in
    let went = c.in_ok-waive.ensures.goes s m in
    let P : Store → Type 0 = λ x. BootOutcome c.start_kept.result (kept_boot x (x.gesture == short_starts)) (g.N.Nor.device c.waive.new.nor) (g.N.Nor.device c.start_kept.new.nor) in
    let there = subst P (waived_room s) (c.start_kept.ensures.boots (last t) went.acted.mounted) in
    boots_then c.start_kept.result t b _ _ _ c.waive.new.volume (waived_room s ∙ sym k.first) went there

pub returns-clause-touches : goal.returns-clause-touches
returns-clause-touches g c = TouchesBut_then (TouchesBut-commit (program_sector 0) program_end c.in_ok-waive.ensures.touches) c.start_kept.ensures.touches

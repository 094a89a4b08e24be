use Rattle.std.proofs.Common.{sym}
use Rattle.dg_nor.specs.Trail.{last}
use Rattle.dg_slot.specs.Layout.{program_sector, program_end}
use Rattle.dg_volume.specs.Start.{boot, boot_counted, count_trail}
use Rattle.dg_volume.proofs.ActLemmas.{stops_first}
use Rattle.dg_boot.proofs.BeginLemmas.{counted_begins}
use Rattle.dg_boot.proofs.BootLemmas.{stopped_boots, boots_then, TouchesBut-commit, TouchesBut_then}
use Rattle.dg_boot.proofs.starting.start_mounted.Goals as goal

pub returns-in_err-count_start-clause-boots : goal.returns-in_err-count_start-clause-boots
unfolding boot
returns-in_err-count_start-clause-boots g c s m =
    let t = count_trail c.args.cause s in
    let k = counted_begins (last t) in
    stopped_boots c.from_residual.result (boot c.args.cause s) _ _ c.from_residual.ensures.1
    (stops_first t (boot_counted (last t)).trail _ _ k.works (sym k.first) (c.in_err-count_start.ensures.goes s m))

pub start_counted-requires-clause-mounted : goal.start_counted-requires-clause-mounted
start_counted-requires-clause-mounted g c =
    let m = c.requires.mounted in
    (last (count_trail c.args.cause m.0), (c.in_ok-count_start.ensures.goes m.0 m.1).acted.mounted)

pub returns-clause-boots : goal.returns-clause-boots
unfolding boot
returns-clause-boots g c s m =
    let t = count_trail c.args.cause s in
    let k = counted_begins (last t) in
    let went = c.in_ok-count_start.ensures.goes s m in
    boots_then c.start_counted.result t (boot_counted (last t)) _ _ _ c.count_start.new.volume (sym k.first) went (c.start_counted.ensures.boots (last t) went.acted.mounted)

pub returns-clause-touches : goal.returns-clause-touches
returns-clause-touches g c = TouchesBut_then (TouchesBut-commit (program_sector 0) program_end c.in_ok-count_start.ensures.touches) c.start_counted.ensures.touches

-- What is reported of a step, and how it leaves its board.
use Rattle.std.proofs.Common.{◌≡◌, ℕ, List, [], ◌++◌, refl, sym, subst}
use Rattle.std.specs.Prelude.{Option, Some, None, Result, Ok, Err, IsErrAnd}
use Rattle.std.proofs.lemmas.List.{append-nil}
use Rattle.dg_nor.specs.Device.{Device}
use Rattle.dg_nor.specs.Fuse.{beneath_of}
use Rattle.dg_nor.specs.Reads.{Looked, ReadStopped}
use Rattle.dg_volume.specs.Stands.{Stands}
use Rattle.dg_nor.proofs.DeviceLemmas.{Endures-same, MadeMore-none}
use Rattle.dg_nor.proofs.MaskLemmas.{Endures_ran, Endures_halts}
use Rattle.dg_volume.specs.Store.{Store}
use Rattle.dg_script.specs.declared.report.Report.{Report}
use Rattle.dg_world.specs.inner.ChipReports.{change_lines}
use Rattle.dg_node.specs.Reports.{IsReportOf}
use Rattle.dg_world.specs.inner.Steps.{BoardOnlyRead, BoardRead, CutChangesAre, CutReported, CutRead}
use Rattle.dg_node.specs.declared.report.ChipReport.{ChipReport}
use Rattle.dg_world.proofs.ChipReportLemmas.{changes_same, changes_are_reported}
use Rattle.dg_world.specs.declared.outcome.Fault.{Fault}
use Rattle.dg_world.specs.declared.outcome.Fault.TheVariants as fault
use Rattle.dg_volume.specs.declared.volume.MountFault.{MountFault}
use Rattle.dg_volume.specs.declared.volume.MountFault.TheVariants as mount_fault
use Rattle.dg_node.specs.Known.{MountDone}
use Rattle.dg_world.specs.inner.Faults.{fault_of_mount}
use Rattle.dg_world.proofs.CountLemmas.{steady_ran, steady_same}

-- ---- reads

pub looked_read : (a b : Device) → Looked a b → BoardOnlyRead a b
looked_read a b l = record { same_image = l.same_image; endures = Endures_ran l.ran }

stopped_read : (a b : Device) → ReadStopped a b → BoardOnlyRead a b
stopped_read a b r = record { same_image = r.same_image; endures = Endures_halts r.halts }

same_read : (a : Device) → BoardOnlyRead a a
same_read a = record { same_image = refl; endures = Endures-same (beneath_of a) }

-- ---- what a cut changed

pub changes_appended : (m : ℕ) (before after : ChipReport) (t : Store) (start end : List Report) → IsReportOf after t → end ≡ start ++ change_lines m before after → CutChangesAre m (Some before) t start end
changes_appended m before after t start end is_report told = record { lines = change_lines m before after; tells = λ k s trail leaves was. changes_are_reported m before after s t was is_report; report_now = told }

-- nothing that is reported may have changed
pub nothing_changed : (m : ℕ) (before : Option ChipReport) (t : Store) (told : List Report) → before ≡ None → CutChangesAre m before t told told
nothing_changed m before t told none =
    subst (λ (o : Option ChipReport). CutChangesAre m o t told told) (sym none)
    (record { lines = []; tells = λ k s trail leaves same. sym (changes_same m s t (same k t leaves)); report_now = sym (append-nil told) })

pub something_changed : (m : ℕ) (before : Option ChipReport) (x : ChipReport) (t : Store) (start end : List Report) → before ≡ Some x → CutChangesAre m (Some x) t start end → CutChangesAre m before t start end
something_changed m before x t start end some told = subst (λ (o : Option ChipReport). CutChangesAre m o t start end) (sym some) told

-- they were found by a read
abbrev pub ReadAndTold : {T : Type 0} → Result T Fault → ℕ → Option ChipReport → Store → Device → Device → List Report → List Report → Type 0
ReadAndTold r m before t a b start end = CutReported r m before t start end × CutRead r a b

pub read_told : {T : Type 0} (y : T) (m : ℕ) (before : Option ChipReport) (t : Store) (a b : Device) (start end : List Report) → CutChangesAre m before t start end → Looked a b → ReadAndTold {T = T} (Ok y) m before t a b start end
read_told y m before t a b start end changes looked = (changes, record { read = looked_read a b looked; stays = steady_ran looked.ran; made = looked.ran.made })

pub unread_told : {T : Type 0} (y : T) (m : ℕ) (before : Option ChipReport) (t : Store) (a : Device) (told : List Report) → before ≡ None → ReadAndTold {T = T} (Ok y) m before t a a told told
unread_told y m before t a told none = (nothing_changed m before t told none, record { read = same_read a; stays = steady_same a; made = MadeMore-none a.made })

stopped_told : (T : Type 0) (f : Fault) (m : ℕ) (before : Option ChipReport) (t : Store) (a b : Device) (told : List Report) → (f ≡ fault.Stopped) × ReadStopped a b → ReadAndTold {T = T} (Err f) m before t a b told told
stopped_told T f m before t a b told x =
    let P : Fault → Type 0 = λ y. ReadAndTold {T = T} (Err y) m before t a b told told in
    subst P (sym x.0) (refl, (x.1.halts.stopped, stopped_read a b x.1))

pub reading_stopped : {T : Type 0} (r : Result T Fault) (f : Fault) (m : ℕ) (before : Option ChipReport) (t : Store) (a b : Device) (told : List Report) → IsErrAnd r (λ e. e ≡ f) → (f ≡ fault.Stopped) × ReadStopped a b → ReadAndTold r m before t a b told told
reading_stopped (Ok u) f m before t a b told is x = absurd is
reading_stopped {T} (Err e) f m before t a b told is x =
    let P : Fault → Type 0 = λ y. ReadAndTold {T = T} (Err y) m before t a b told told in
    subst P (sym is) (stopped_told T f m before t a b told x)

failed_by : (T U : Type 0) (f : Fault) (m : ℕ) (before : Option ChipReport) (t : Store) (a b : Device) (start end : List Report) → ReadAndTold {T = T} (Err f) m before t a b start end → ReadAndTold {T = U} (Err f) m before t a b start end
failed_by T U fault.Stopped m before t a b start end told = told
failed_by T U fault.NotAVolume m before t a b start end told = absurd told.0
failed_by T U fault.NoImage m before t a b start end told = absurd told.0

pub as_failed : {T U : Type 0} (r : Result T Fault) (q : Result U Fault) (f : Fault) (m : ℕ) (before : Option ChipReport) (t : Store) (a b : Device) (start end : List Report) → r ≡ Err f → IsErrAnd q (λ e. e ≡ f) → ReadAndTold r m before t a b start end → ReadAndTold q m before t a b start end
as_failed r (Ok y) f m before t a b start end is same told = absurd same
as_failed {T} {U} r (Err e) f m before t a b start end is same told =
    let here : ReadAndTold {T = T} (Err f) m before t a b start end = subst (λ (z : Result T Fault). ReadAndTold z m before t a b start end) is told in
    subst (λ (z : Fault). ReadAndTold {T = U} (Err z) m before t a b start end) (sym same) (failed_by T U f m before t a b start end here)

-- a board that is a volume and was not mounted is stopped
pub mount_stopped : (f : MountFault) (s : Store) (a b : Device) → Stands a.image s → MountDone (Err f) a b → (fault_of_mount f ≡ fault.Stopped) × ReadStopped a b
mount_stopped mount_fault.Stopped s a b stands x = (refl, x)
mount_stopped mount_fault.NotAVolume s a b stands x = absurd (x.0 s stands)

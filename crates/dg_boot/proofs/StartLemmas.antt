-- What a start returns, if its volume is mounted, and if it is not.
use Rattle.std.proofs.Common.{◌≡◌, ℕ, Result, Ok, Err, IfOk, OnOk, refl, ap, subst}
use Rattle.std.specs.Prelude.{IsErrOf, IsErrAnd}
use Rattle.dg_nor.specs.Device.{Device, Ran}
use Rattle.dg_nor.specs.Trail.{operations}
use Rattle.dg_nor.specs.Reads.{Looked}
use Rattle.dg_volume.specs.Store.{Store}
use Rattle.dg_volume.specs.Stands.{Stands}
use Rattle.dg_volume.specs.Start.{Boot}
use Rattle.dg_volume.specs.Acts.{Stops}
use Rattle.dg_volume.specs.declared.volume.MountFault.{MountFault}
use Rattle.dg_volume.specs.declared.volume.MountFault.TheVariants as mount
use Rattle.dg_boot.specs.Started.{Starts, NoImageFound}
use Rattle.dg_boot.specs.Ends.{BootOutcome}
use Rattle.dg_boot.specs.Faults.{boot_fault_of}
use Rattle.dg_boot.specs.declared.Started.{Started}
use Rattle.dg_boot.specs.declared.BootFault.{BootFault}
use Rattle.dg_boot.specs.declared.BootFault.TheVariants as faults

-- ---- a mounted volume

-- this is the outcome of the start from every store that the chip stands for
abbrev pub AllBoot : Result Started BootFault → (Store → Boot) → Device → Device → Type 0
AllBoot r b x y = (s : Store) → Stands x.image s → BootOutcome r (b s) x y

pub all_started : (r : Result Started BootFault) (b : Store → Boot) (x y : Device) → AllBoot r b x y → IfOk r (λ told. (s : Store) → Stands x.image s → Starts (b s) x y told)
all_started (Ok told) b x y h = λ s stands. (h s stands).0
all_started (Err e) b x y h = tt

looked_by : (b : Boot) (x y : Device) (told : Started) → BootOutcome (Ok told) b x y → operations b.trail ≡ 0 → Looked x y
looked_by b x y told h none = record { same_image = h.1 none; ran = subst (λ (n : ℕ). Ran n x y) none h.0.acted.ran }

pub all_run_on : (r : Result Started BootFault) (b : Store → Boot) (x y : Device) → AllBoot r b x y → OnOk r ((s : Store) → Stands x.image s → operations (b s).trail ≡ 0 → Looked x y)
all_run_on (Ok told) b x y h = λ s stands none. looked_by (b s) x y told (h s stands) none
all_run_on (Err e) b x y h = tt

at_fault : (r : Result Started BootFault) (e : BootFault) (b : Boot) (x y : Device) → IsErrOf r e → BootOutcome r b x y → BootOutcome (Err e) b x y
at_fault r e b x y is h = subst (λ (q : Result Started BootFault). BootOutcome q b x y) is h

pub boot_lacks : (r : Result Started BootFault) (b : Boot) (x y : Device) → IsErrOf r faults.NoImage → BootOutcome r b x y → NoImageFound b x y
boot_lacks r b x y is h = at_fault r faults.NoImage b x y is h

pub boot_stops : (r : Result Started BootFault) (b : Boot) (x y : Device) → IsErrOf r faults.Stopped → BootOutcome r b x y → Stops b.trail x y
boot_stops r b x y is h = at_fault r faults.Stopped b x y is h

-- ---- a chip that was not mounted

fault_is : (r : Result Started BootFault) (f : BootFault) → IsErrAnd r (λ e. e ≡ f) → r ≡ Err f
fault_is (Ok told) f h = absurd h
fault_is (Err e) f h = ap (λ (x : BootFault). Err x) h

pub fault_no_volume : (r : Result Started BootFault) (e : MountFault) → IsErrAnd r (λ x. x ≡ boot_fault_of e) → IsErrOf r faults.NotAVolume → e ≡ mount.NotAVolume
fault_no_volume r mount.Stopped h is = let same = fault_is r faults.Stopped h in absurd cc
fault_no_volume r mount.NotAVolume h is = refl

pub fault_stopped : (r : Result Started BootFault) (e : MountFault) → IsErrAnd r (λ x. x ≡ boot_fault_of e) → IsErrOf r faults.Stopped → e ≡ mount.Stopped
fault_stopped r mount.Stopped h is = refl
fault_stopped r mount.NotAVolume h is = let same = fault_is r faults.NotAVolume h in absurd cc

use Rattle.std.proofs.Common.{◌≡◌, ℕ, ◌<◌, true, false, List, Option, IsSomeAnd, None, Result, Err, refl, ap, sym, subst, ◌∙◌, arith, get_or}
use Rattle.std.proofs.lemmas.Result.{err_from_is_err_and}
use Rattle.dg_control.specs.Store.{Controls}
use Rattle.dg_control.specs.Mounted.{control_snapshot, control_room, IsControlOf}
use Rattle.dg_control.specs.declared.faults.MountFault.{MountFault as ControlFault}
use Rattle.dg_control.specs.declared.faults.MountFault.TheVariants as control
use Rattle.dg_control.specs.declared.snapshot.Snapshot.{Snapshot}
use Rattle.dg_control.specs.declared.snapshot.SlotState.TheVariants.{Dirty}
use Rattle.dg_slot.specs.Kept.{Held}
use Rattle.dg_volume.specs.Sizes.{images, golden_version}
use Rattle.dg_volume.specs.Store.{Store, App, held}
use Rattle.dg_volume.specs.Told.{told}
use Rattle.dg_volume.specs.Stands.{Stands, kept_at, IsMounted}
use Rattle.dg_volume.specs.Reading.{SlotKeeps, ProgramHolds, volume_mount_fault}
use Rattle.dg_volume.specs.declared.volume.Kept.{Kept}
use Rattle.dg_volume.specs.declared.volume.MountFault.{MountFault}
use Rattle.dg_volume.specs.declared.volume.MountFault.TheVariants.{Stopped, NotAVolume}
use Rattle.dg_volume.specs.declared.volume.Volume.{Volume}
use Rattle.dg_volume.proofs.StoreLemmas.{slot_of, program_of, one_held}
use Rattle.dg_volume.proofs.MountLemmas.{golden_told, mounted_at, mounted_each}
use Rattle.dg_volume.proofs.volume.Volume.mount.Goals as goal

fault_back : {T : Type 0} (r : Result T MountFault) (e : MountFault) (f : ControlFault) → r ≡ Err NotAVolume → r ≡ Err e → e ≡ volume_mount_fault f → f ≡ control.NotAVolume
fault_back r e control.NotAVolume p q s = refl
fault_back r e control.Stopped p q s =
    let h : e ≡ NotAVolume = cc in
    let k : Stopped ≡ NotAVolume = sym s ∙ h in
    absurd cc

same_fault : {T U : Type 0} (r : Result T MountFault) (e f : MountFault) → r ≡ Err NotAVolume → r ≡ Err e → e ≡ f → ◌≡◌ {A = Result U MountFault} (Err f) (Err NotAVolume)
same_fault r e f p q s = let h : e ≡ NotAVolume = cc in ap Err (sym s ∙ h)

-- the slots and program memory of a store that the chip stands for, as its control was read
stands_slot : (c d : List ℕ) (s : Store) (p r : Snapshot) (room : ℕ) → Controls c p room → r ≡ p → d ≡ c → Stands c s → (i : ℕ) → i < images → SlotKeeps d i (get_or r.slots i Dirty) (held s i)
stands_slot c d s p r room controls e f stands i known =
    subst (λ (x : List ℕ). SlotKeeps x i (get_or r.slots i Dirty) (held s i)) (sym f)
    (subst (λ (x : Snapshot). SlotKeeps c i (get_or x.slots i Dirty) (held s i)) (sym e) (slot_of c s p room controls stands i known))

stands_program : (c d : List ℕ) (s : Store) (p r : Snapshot) (room : ℕ) → Controls c p room → r ≡ p → d ≡ c → Stands c s → ProgramHolds d r.program s.app
stands_program c d s p r room controls e f stands =
    subst (λ (x : List ℕ). ProgramHolds x r.program s.app) (sym f) (subst (λ (x : Snapshot). ProgramHolds c x.program s.app) (sym e) (program_of c s p room controls stands))

pub returns-in_err-control-clause-not_a_volume : goal.returns-in_err-control-clause-not_a_volume
returns-in_err-control-clause-not_a_volume g c is s stands =
    let p = err_from_is_err_and c.from_residual.result c.from_residual.ensures.1 in
    c.in_err-control.ensures.not_a_volume (ap Err (fault_back c.from_residual.result p.0 c.in_err-control.field-0.0 is p.1 p.2)) stands.snapshot s.room stands.controls

pub returns-in_err-kept-clause-not_a_volume : goal.returns-in_err-kept-clause-not_a_volume
returns-in_err-kept-clause-not_a_volume g c is s stands =
    let image = (g.N.Nor.device c.args.nor.now).image in
    let v = c.in_ok-control.control in
    let p = err_from_is_err_and c.from_residual-in_err-kept.result c.from_residual-in_err-kept.ensures.1 in
    let none = c.in_err-kept.ensures.none (same_fault c.from_residual-in_err-kept.result p.0 c.in_err-kept.field-0.0 is p.1 p.2) in
    none.2 (held s none.0) (stands_slot image _ s (control_snapshot v) c.now-snapshot.result (control_room v) c.in_ok-control.ensures.controls c.now-snapshot.ensures c.in_ok-control.ensures.same_image stands none.0 none.1)

pub returns-then-not-is_golden-clause-not_a_volume : goal.returns-then-not-is_golden-clause-not_a_volume
returns-then-not-is_golden-clause-not_a_volume g c is s stands =
    let image = (g.N.Nor.device c.args.nor.now).image in
    let v = c.in_ok-control.control in
    let r = c.now-snapshot.result in
    let read = c.in_ok-kept.ensures.kept 0 (omega arith) in
    let there = stands_slot image _ s (control_snapshot v) r (control_room v) c.in_ok-control.ensures.controls c.now-snapshot.ensures c.in_ok-control.ensures.same_image stands 0 (omega arith) in
    let first : read.0 ≡ held s 0 = one_held _ 0 (get_or r.slots 0 Dirty) read.0 (held s 0) read.1 there in
    let told_here : get_or c.in_ok-kept.kept 0 None ≡ told (held s 0) = read.2 ∙ ap told first in
    let yes = c.if-not-is_golden.ensures.1 (subst (λ (k : Option Kept). IsSomeAnd k (λ k. (k.version ≡ golden_version) × (k.done ≡ k.pages))) (sym told_here) (golden_told (held s 0) stands.contains.golden.whole)) in
    let no : false ≡ true = yes in
    absurd cc

pub returns-in_err-mount_program-clause-not_a_volume : goal.returns-in_err-mount_program-clause-not_a_volume
returns-in_err-mount_program-clause-not_a_volume g c is s stands =
    let image = (g.N.Nor.device c.args.nor.now).image in
    let v = c.in_ok-control.control in
    let p = err_from_is_err_and c.from_residual-in_err-mount_program.result c.from_residual-in_err-mount_program.ensures.1 in
    let same = c.in_ok-kept.ensures.ends.same_image ∙ c.in_ok-control.ensures.same_image in
    c.in_err-mount_program.ensures.none (same_fault c.from_residual-in_err-mount_program.result p.0 c.in_err-mount_program.field-0.0 is p.1 p.2) s.app
    (stands_program image _ s (control_snapshot v) c.now-snapshot.result (control_room v) c.in_ok-control.ensures.controls c.now-snapshot.ensures same stands)

-- what was read, on the chip as it was before the reads
is_mounted : (c d e : List ℕ) (v : Volume) (r : Snapshot) → IsControlOf c v.control → r ≡ control_snapshot v.control → d ≡ c → e ≡ c
    → ((i : ℕ) → i < images → (h : Option Held) × SlotKeeps d i (get_or r.slots i Dirty) h × (kept_at v i ≡ told h))
    → IsSomeAnd (kept_at v 0) (λ k. (k.version ≡ golden_version) × (k.done ≡ k.pages)) → (app : Option App) × ProgramHolds e r.program app → IsMounted c v
is_mounted c d e v r control now same_d same_e found golden app =
    mounted_at c v control
    (λ i h.
    let x = found i h in (
      x.0,
      (subst (λ (p : Snapshot). SlotKeeps c i (get_or p.slots i Dirty) x.0) now (subst (λ (y : List ℕ). SlotKeeps y i (get_or r.slots i Dirty) x.0) same_d x.1), x.2),
    ))
    golden
    (app.0, subst (λ (p : Snapshot). ProgramHolds c p.program app.0) now (subst (λ (y : List ℕ). ProgramHolds y r.program app.0) same_e app.1))

pub returns-clause-volume : goal.returns-clause-volume
returns-clause-volume g c =
    let same = c.in_ok-control.ensures.same_image in
    is_mounted (g.N.Nor.device c.args.nor.now).image _ _ _ c.now-snapshot.result c.in_ok-control.ensures.mounted c.now-snapshot.ensures same (c.in_ok-kept.ensures.ends.same_image ∙ same)
    c.in_ok-kept.ensures.kept (c.if-not-is_golden.ensures.0 refl) c.in_ok-mount_program.ensures.app

pub returns-clause-mounted : goal.returns-clause-mounted
returns-clause-mounted g c s stands =
    let same = c.in_ok-control.ensures.same_image in
    mounted_each (g.N.Nor.device c.args.nor.now).image _
    (is_mounted (g.N.Nor.device c.args.nor.now).image _ _ _ c.now-snapshot.result c.in_ok-control.ensures.mounted c.now-snapshot.ensures same (c.in_ok-kept.ensures.ends.same_image ∙ same)
    c.in_ok-kept.ensures.kept (c.if-not-is_golden.ensures.0 refl) c.in_ok-mount_program.ensures.app)
    s stands

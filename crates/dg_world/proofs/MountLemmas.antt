-- Boards that are mounted one after the other.
use Rattle.std.proofs.Common.{◌≡◌, ◌≢◌, ℕ, zero, suc, ◌+◌, ◌<◌, ◌≤◌, inl, inr, false, List, [], ◌∷◌, length, refl, ap, sym, ◌∙◌, subst, arith}
use Rattle.std.specs.Prelude.{Some, Result, Err, slice_get}
use Rattle.std.proofs.lemmas.Bool.{cases_eq}
use Rattle.dg_nor.specs.Device.{Device, WorkedOrStopped}
use Rattle.dg_nor.specs.Fuse.{beneath_of}
use Rattle.dg_nor.specs.Reads.{ReadStopped}
use Rattle.dg_volume.specs.Store.{Store}
use Rattle.dg_volume.specs.Stands.{Stands, IsVolume, IsNoVolume}
use Rattle.dg_rules.specs.Begins.{store_of}
use Rattle.dg_world.specs.Counts.{AreSteady, AreAwake, IsSteady}
use Rattle.dg_world.specs.Mounted.{StandFor, MountedTo, MountStops, NoVolumeAt}
use Rattle.dg_world.specs.declared.mount.MountStopped.{MountStopped}
use Rattle.dg_world.specs.declared.mount.MountStopped.TheVariants.{Flash, NotAVolume}
use Rattle.dg_world.proofs.BoardLemmas.{Used, same_some}
use Rattle.dg_world.proofs.EndureLemmas.{stay_awake}
use Rattle.dg_world.proofs.FormatLemmas.{unused, is_now, differs_from_kept, calm_more}
use Rattle.dg_world.proofs.FinishLemmas.{ReadTo, read_more}

-- the first n boards are volumes, and were not stopped
pub record AreMounted (n : ℕ) (old new : List Device) : Type 0 where
  pub read : ReadTo n old new
  pub volumes : (m : ℕ) (d : Device) → m < n → slice_get new m ≡ Some d → IsVolume d.image
  pub awake : (m : ℕ) (d : Device) → m < n → slice_get old m ≡ Some d → d.stopped ≡ false
  pub calm : AreSteady old new

-- one more board was mounted
pub mounted_more : (n : ℕ) (old now new : List Device) (d e : Device) → AreMounted n old now → Used n now new d e → WorkedOrStopped 0 (beneath_of d) (beneath_of e) → e.image ≡ d.image → d.stopped ≡ false → IsSteady d e
    → IsVolume e.image → AreMounted (n + 1) old new
mounted_more n old now new d e to used kept same awake stays volume =
    record {
      read = read_more n old now new d e to.read used kept same;
      volumes = λ m x h here. elim (cases_eq m n) [
        | inl at ↦ subst (λ (y : Device). IsVolume y.image) (same_some e x (sym (is_now n now new d e used) ∙ ap (slice_get new) (sym at) ∙ here)) volume
        | inr other ↦ to.volumes m x (omega (arith, h, other)) (sym (differs_from_kept n m now new d e used other) ∙ here)
      ];
      awake = λ m x h here. elim (cases_eq m n) [
        | inl at ↦ subst (λ (y : Device). y.stopped ≡ false) (same_some d x (sym (unused n old now new d e to.read.first used) ∙ ap (slice_get old) (sym at) ∙ here)) awake
        | inr other ↦ to.awake m x (omega (arith, h, other)) here
      ];
      calm = calm_more n old now new d e to.read.first used to.calm stays;
    }

-- ---- the next board cannot be used

mounted_to : (n : ℕ) (old now new : List Device) (d e : Device) → AreMounted n old now → Used n now new d e → MountedTo n old new
mounted_to n old now new d e to used = record {
  volumes = λ m x h here. let other : m ≢ n = omega (arith, h) in to.volumes m x h (sym (differs_from_kept n m now new d e used other) ∙ here);
  awake = to.awake;
  behind = λ m h. let other : m ≢ n = omega (arith, h) in differs_from_kept n m now new d e used other ∙ to.read.first.others m (omega (arith, h));
}

pub mount_stops : (n motes : ℕ) (old now new : List Device) (d e : Device) → AreMounted n old now → Used n now new d e → ReadStopped d e → n < motes → MountStops n motes old new
mount_stops n motes old now new d e to used stopped known = record {
  known = known;
  before = d;
  after = e;
  was = unused n old now new d e to.read.first used;
  is = is_now n now new d e used;
  stopped = stopped.halts.stopped;
  cause = stopped.halts.cause;
  mounted = mounted_to n old now new d e to used;
}

pub no_volume_at : (n motes : ℕ) (old now new : List Device) (d e : Device) → AreMounted n old now → Used n now new d e → IsNoVolume d.image → n < motes → NoVolumeAt n motes old new
no_volume_at n motes old now new d e to used none known = record {
  known = known;
  before = d;
  was = unused n old now new d e to.read.first used;
  no_volume = none;
  mounted = mounted_to n old now new d e to used;
}

-- ---- what they stand for

gathered : (n : ℕ) (ds : List Device) → n ≤ length ds → AreAwake n ds → ((m : ℕ) (d : Device) → m < n → slice_get ds m ≡ Some d → IsVolume d.image) → (stores : List Store) × StandFor n stores ds
gathered zero ds few awake volumes = ([], record { count = refl; each = λ m d h here. absurd (omega (arith, h)); awake = awake })
gathered (suc n) [] few awake volumes = absurd (omega (arith, few))
gathered (suc n) (x ∷ xs) few awake volumes =
    let first = volumes zero x (omega arith) refl in
    let rest = gathered n xs (omega (arith, few)) (λ m d h here. awake (suc m) d (omega (arith, h)) here) (λ m d h here. volumes (suc m) d (omega (arith, h)) here) in
    (first.0 ∷ rest.0, record { count = ap suc rest.1.count; each = each first.0 first.1 rest.0 rest.1; awake = awake })
  where
    each : (s : Store) → Stands x.image s → (stores : List Store) → StandFor n stores xs → (m : ℕ) (d : Device) → m < suc n → slice_get (x ∷ xs) m ≡ Some d → Stands d.image (store_of (s ∷ stores) m)
    each s stands stores rest zero d h here = subst (λ (y : Device). Stands y.image s) (same_some x d here) stands
    each s stands stores rest (suc m) d h here = rest.each m d (omega (arith, h)) here

pub stand_for : (n : ℕ) (old new : List Device) → n ≤ length new → AreMounted n old new → (stores : List Store) × StandFor n stores new
stand_for n old new few to = gathered n new few (stay_awake n old new to.read.first.count to.calm to.awake) to.volumes

-- ---- which board it was

same_flash : (a b : ℕ) → (let x : Result (Unit {0}) MountStopped = Err (Flash a) in x ≡ Err (Flash b)) → a ≡ b
same_flash a b e = cc

same_no_volume : (a b : ℕ) → (let x : Result (Unit {0}) MountStopped = Err (NotAVolume a) in x ≡ Err (NotAVolume b)) → a ≡ b
same_no_volume a b e = cc

pub stops_there : (a b motes : ℕ) (old new : List Device) → (let x : Result (Unit {0}) MountStopped = Err (Flash a) in x ≡ Err (Flash b)) → MountStops a motes old new → MountStops b motes old new
stops_there a b motes old new is stops = subst (λ (k : ℕ). MountStops k motes old new) (same_flash a b is) stops

pub none_there : (a b motes : ℕ) (old new : List Device) → (let x : Result (Unit {0}) MountStopped = Err (NotAVolume a) in x ≡ Err (NotAVolume b)) → NoVolumeAt a motes old new → NoVolumeAt b motes old new
none_there a b motes old new is none = subst (λ (k : ℕ). NoVolumeAt k motes old new) (same_no_volume a b is) none

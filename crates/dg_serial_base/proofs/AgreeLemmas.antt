-- With honest frames a base mote agrees with its table, however it ends.
use Rattle.std.proofs.Common.{◌≡◌, ℕ, suc, ◌*◌, ◌≤◌, Bool, true, List, [], ◌∷◌, ◌++◌, sym, subst, arith}
use Rattle.std.proofs.Math.Nat.{mul-suc}
use Rattle.std.specs.Prelude.{Option, Some, None, Result, Ok, Err, IsSomeAnd}
use Rattle.std.specs.List.{AllByRecursion}
use Rattle.dg_base.specs.declared.answers.Status.{Status}
use Rattle.dg_outside.specs.Outside.{Outside}
use Rattle.dg_end.specs.declared.ends.End.{End}
use Rattle.dg_end.specs.declared.ends.End.TheVariants as ends
use Rattle.dg_nor.specs.Device.{Device}
use Rattle.dg_nor.specs.Trail.{Trail, Leaves}
use Rattle.dg_nor.specs.Through.{Through}
use Rattle.dg_object.specs.Object.{Row}
use Rattle.dg_volume.specs.Store.{Store, IsNear}
use Rattle.dg_volume.specs.Stands.{Stands}
use Rattle.dg_volume.specs.Table.{IsTable}
use Rattle.dg_volume.specs.Acts.{Stops}
use Rattle.dg_mote.specs.Model.{MoteState}
use Rattle.dg_mote.specs.Effects.{tick_effect, frame_effect, reset_effect}
use Rattle.dg_mote.specs.Agreement.{IsHonest}
use Rattle.dg_mote.specs.Well.{StoreIsWell, IsWell, EffectIsWell}
use Rattle.dg_serial_base.specs.BaseEvents.{Base, At, BaseEvent, Hears, Ticks, moment_at, powered, power_effect, effect_of, after_base_event, BaseEventsRun}
use Rattle.dg_serial_base.specs.inner.Words.{draw_at}
use Rattle.dg_serial_base.specs.Based.{BaseCame, FlashStopped, AtPower, Later, BaseEndsBy, Based}
use Rattle.dg_serial_base.specs.Agreeing.{HonestBaseEvent, StandsWell}
use Rattle.dg_serial_base.specs.inner.Words.{HonestLine, ChipAgrees}

-- what is known of motes that agree
pub record Laws : Type 0 where
  pub later : (table : List Row) (m : MoteState) (s : Store) (now then : ℕ) → now ≤ then → IsWell table m s now → IsWell table m s then
  pub ticked : (table : List Row) (m : MoteState) (s : Store) (now word : ℕ) → IsTable table → IsWell table m s now → EffectIsWell table (tick_effect m s now word) now
  pub heard : (table : List Row) (m : MoteState) (s : Store) (now word : ℕ) (bytes : List ℕ) → IsTable table → IsHonest table bytes → IsWell table m s now → EffectIsWell table (frame_effect m s now word bytes) now
  pub reset : (table : List Row) (s : Store) (id now word : ℕ) (wide : Bool) → IsTable table → StoreIsWell table s → EffectIsWell table (reset_effect s id wide now word) now
  pub stopped : (table : List Row) (t : Trail Store) (k : ℕ) (s : Store) → Through (StoreIsWell table) t → Leaves IsNear t k s → StoreIsWell table s

pub some_well : (P : MoteState → Type 0) (o : Option MoteState) (m : MoteState) → o ≡ Some m → IsSomeAnd o P → P m
some_well P o m e p = subst (λ (x : Option MoteState). IsSomeAnd x P) e p

any_well : (P : MoteState → Type 0) (o : Option MoteState) → IsSomeAnd o P → (m : MoteState) × P m
any_well P None p = absurd p
any_well P (Some m) p = (m, p)

next_moment : (step events : ℕ) → step * events ≤ step * suc events
next_moment step events = let e = mul-suc step events in omega (arith, e)

module _ (laws : Laws) (table : List Row) (is : IsTable table) (b : Base) where
  base_event_well : (a : At) (m : MoteState) (d : BaseEvent) → HonestBaseEvent table d → IsWell table m a.store (b.step * a.events) → EffectIsWell table (effect_of b m a d) (moment_at b a.events)
  base_event_well a m (Hears bytes) honest well =
      laws.heard table m a.store (moment_at b a.events) (draw_at b a.events) bytes is honest (laws.later table m a.store (b.step * a.events) (moment_at b a.events) (next_moment b.step a.events) well)
  base_event_well a m Ticks honest well =
      laws.ticked table m a.store (moment_at b a.events) (draw_at b a.events) is (laws.later table m a.store (b.step * a.events) (moment_at b a.events) (next_moment b.step a.events) well)

  well_run : (ds : List BaseEvent) → AllByRecursion (HonestBaseEvent table) ds → (a z : At) → StandsWell table b a → BaseEventsRun b a ds z → StandsWell table b z
  unfolding BaseEventsRun
  well_run [] honest a z well r = subst (StandsWell table b) (sym r) well
  well_run (d ∷ ds) honest a z well r =
      well_run ds honest.1 (after_base_event b r.0 a d) z (base_event_well a r.0 d honest.0 (some_well (λ m. IsWell table m a.store (b.step * a.events)) a.mote r.0 r.1 well)).mote r.2

  powered_well : (s : Store) → StoreIsWell table s → StandsWell table b (powered b s)
  powered_well s well = (laws.reset table s b.id (moment_at b 0) (draw_at b 0) true is well).mote

  pub run_well : (s : Store) (done : List BaseEvent) (there : At) → StoreIsWell table s → AllByRecursion (HonestBaseEvent table) done → BaseEventsRun b (powered b s) done there → StandsWell table b there
  run_well s done there well honest r = well_run done honest (powered b s) there (powered_well s well) r

  all_front : (xs ys : List BaseEvent) → AllByRecursion (HonestBaseEvent table) (xs ++ ys) → AllByRecursion (HonestBaseEvent table) xs
  all_front [] ys h = tt
  all_front (x ∷ xs) ys h = (h.0, all_front xs ys h.1)

  all_back : (xs ys : List BaseEvent) → AllByRecursion (HonestBaseEvent table) (xs ++ ys) → AllByRecursion (HonestBaseEvent table) ys
  all_back [] ys h = h
  all_back (x ∷ xs) ys h = all_back xs ys h.1

  module _ (s : Store) (well : StoreIsWell table s) (input : List ℕ) (honest : HonestLine table input) where
    parts_honest : (c : BaseCame b s input) → AllByRecursion (HonestBaseEvent table) (c.done ++ c.rest)
    parts_honest c = subst (λ (ds : List BaseEvent). AllByRecursion (HonestBaseEvent table) ds) (sym c.parts) honest

    came_well : (c : BaseCame b s input) → StandsWell table b c.there
    came_well c = run_well s c.done c.there well (all_front c.done c.rest (parts_honest c)) c.run

    came_agrees : (c : BaseCame b s input) (image : List ℕ) → Stands image c.there.store → ChipAgrees table image
    came_agrees c image stands =
        (c.there.store, stands, (any_well (λ m. IsWell table m c.there.store (b.step * c.there.events)) c.there.mote (came_well c)).1.store)

    stop_agrees : (t : Trail Store) (old new : Device) → Through (StoreIsWell table) t → Stops t old new → ChipAgrees table new.image
    stop_agrees t old new way x = (x.leaves.store, x.leaves.stands_for, laws.stopped table t x.done x.leaves.store way x.leaves.allowed)

    flash_agrees : (text : List ℕ) (old new : Device) → FlashStopped b s input text old new → ChipAgrees table new.image
    flash_agrees text old new (AtPower between none stands stops) =
        stop_agrees (power_effect b s).trail between new (laws.reset table s b.id (moment_at b 0) (draw_at b 0) true is well).way stops
    flash_agrees text old new (Later c between m d more on rest same stands stops) =
        let h : AllByRecursion (HonestBaseEvent table) (d ∷ more) = subst (λ (ds : List BaseEvent). AllByRecursion (HonestBaseEvent table) ds) rest (all_back c.done c.rest (parts_honest c)) in
        stop_agrees (effect_of b m c.there d).trail between new
        (base_event_well c.there m d h.0 (some_well (λ x. IsWell table x c.there.store (b.step * c.there.events)) c.there.mote m on (came_well c))).way stops

    ends_agree : (r : Result (Unit {0}) End) (text : List ℕ) (old new : Device) → BaseEndsBy r b s input text old new → ChipAgrees table new.image
    ends_agree (Err ends.FlashFault) text old new e = flash_agrees text old new e
    ends_agree (Ok u) text old new e = came_agrees e.0 new.image e.2
    ends_agree (Err end) text old new e = came_agrees e.0 new.image e.2

pub based_agrees : Laws → (status : Status) (b : Base) (s : Store) (old new : Device) (x y : Outside) (z : Based status b s old new x y) (table : List Row) → IsTable table → StoreIsWell table s → HonestLine table z.line.input → ChipAgrees table new.image
based_agrees laws status b s old new x y z table is well honest = ends_agree laws table is b s well z.line.input honest z.outcome z.line.text old new z.line.by

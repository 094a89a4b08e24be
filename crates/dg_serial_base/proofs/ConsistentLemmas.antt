-- Whatever bytes its line brings, a base mote over a consistent chip leaves it consistent, however it ends.
use Rattle.std.proofs.Common.{◌≡◌, ◌≢◌, ℕ, Bool, true, List, [], ◌∷◌, length, take, Option, Some, None, IfSome, sym, ap, subst, ◌∙◌}
use Rattle.std.specs.Prelude.{Result, Ok, Err, IsSome, IsSomeAnd}
use Rattle.dg_base.specs.Sizes.{most_input}
use Rattle.dg_base.specs.declared.answers.Status.{Status}
use Rattle.dg_base.specs.declared.answers.Status.TheVariants as statuses
use Rattle.dg_outside.specs.Outside.{OutputState, Outside}
use Rattle.dg_end.specs.Lines.{outcome_status, finish_line}
use Rattle.dg_end.specs.Writes.{WritesEnd}
use Rattle.dg_end.specs.declared.ends.End.{End}
use Rattle.dg_end.specs.declared.ends.End.TheVariants as ends
use Rattle.dg_end.proofs.AnswerLemmas.{written_status}
use Rattle.dg_nor.specs.Device.{Device}
use Rattle.dg_nor.specs.Trail.{Trail, Leaves, last, joined}
use Rattle.dg_nor.specs.Through.{Through}
use Rattle.dg_nor.proofs.ThroughLemmas.{Through-joined, Through-last}
use Rattle.dg_object.specs.Object.{Row}
use Rattle.dg_volume.specs.Sizes.{images}
use Rattle.dg_volume.specs.Store.{Store, IsNear}
use Rattle.dg_volume.specs.Stands.{Stands}
use Rattle.dg_volume.specs.Acts.{Stops}
use Rattle.dg_volume.specs.Start.{Runs, boot, sound, app_of}
use Rattle.dg_volume.specs.Ends.{OnTheWay, Boots}
use Rattle.dg_volume.specs.RowLaws.{RowLaws}
use Rattle.dg_volume.specs.Consistent.{Consistent, IsSoundApp}
use Rattle.dg_volume.specs.declared.volume.StartCause.{StartCause}
use Rattle.dg_volume.specs.declared.volume.StartCause.TheVariants as cause
use Rattle.dg_mote.specs.Model.{MoteState, MoteStep}
use Rattle.dg_mote.specs.Ticks.{tick_of}
use Rattle.dg_mote.specs.Hears.{heard_of}
use Rattle.dg_mote.specs.Effects.{Effect, boot_by, boots, reset_effect, silent, tick_by, tick_effect, frame_effect}
use Rattle.dg_mote.specs.Consistency.{AsksForKnown, StoreIsConsistent, TurnIsConsistent, ChipIsConsistent}
use Rattle.dg_mote.specs.declared.mote.Did.{Did}
use Rattle.dg_mote.specs.declared.mote.Did.TheVariants.{Sent, Idle, Restart}
use Rattle.dg_mote.proofs.KeepLemmas.{through_then, through_both}
use Rattle.dg_serial_base.specs.BaseEvents.{Base, At, BaseEvent, Hears, Ticks, moment_at, powered, power_effect, effect_of, after_base_event, base_events_of, BaseEventsRun}
use Rattle.dg_serial_base.specs.inner.Words.{draw_at}
use Rattle.dg_serial_base.specs.Based.{BaseCame, FlashStopped, AtPower, Later, BaseEndsBy, Based}
use Rattle.dg_serial_base.specs.Consistency.{BaseStartsSound, AllStartSound, BaseStaysConsistent}
use Rattle.dg_serial_base.proofs.AgreeLemmas.{some_well}

-- what is known of volumes, of starts and of motes
pub record Laws (golden : Row) : Type 0 where
  pub boots : (cause : StartCause) (s : Store) → Consistent golden s → Through (Consistent golden) (boot cause s).trail
  pub starts : (cause : StartCause) (s : Store) → Consistent golden s → IfSome (boot cause s).runs (λ r. IsSoundApp golden (app_of r))
  pub ends : (cause : StartCause) (s : Store) → Boots s (boot cause s)
  pub row : RowLaws golden
  pub found : (cause : StartCause) (s : Store) → sound s 0 ≡ true → IsSome (boot cause s).runs
  pub ticked : (m : MoteState) (s : Store) (now word : ℕ) → StoreIsConsistent golden s → AsksForKnown m.mode → TurnIsConsistent golden (tick_of m s now word)
  pub heard : (m : MoteState) (s : Store) (now word : ℕ) (bytes : List ℕ) → StoreIsConsistent golden s → AsksForKnown m.mode → TurnIsConsistent golden (heard_of m s now word bytes)
  pub stopped : (t : Trail Store) (k : ℕ) (s : Store) → Through (StoreIsConsistent golden) t → Leaves IsNear t k s → StoreIsConsistent golden s

module _ (golden : Row) (laws : Laws golden) where
  abbrev P : Store → Type 0
  P = StoreIsConsistent golden

  abbrev HasSlots : Store → Type 0
  HasSlots s = length s.kept ≡ images

  -- an event goes through consistent stores, starts what is sound, and leaves a mote that asks for a known image, if for any
  record Holds (e : Effect) : Type 0 where
    pub way : Through P e.trail
    pub starts : BaseStartsSound golden e
    pub mote : IsSomeAnd e.mote (λ m. AsksForKnown m.mode)

  -- ---- starts

  boot_way : (k : StartCause) (s : Store) → P s → Through P (boot k s).trail
  boot_way k s p =
      let b = boot k s in
      through_then (λ x. Consistent golden x × HasSlots x) P (λ x h. record { count = h.1; consistent = h.0 }) b.trail
      (through_both (Consistent golden) HasSlots b.trail (laws.boots k s p.consistent)
      (through_then (OnTheWay s b.runs) HasSlots (λ x on. ap length on.kept ∙ p.count) b.trail (laws.ends k s).way))

  boot_by_holds : (o : Option Runs) (t : Trail Store) (id : ℕ) (wide : Bool) (now word : ℕ) → IsSome o → IfSome o (λ r. IsSoundApp golden (app_of r)) → Through P t → Holds (boot_by o t id wide now word)
  boot_by_holds None t id wide now word some starts way = absurd cc
  boot_by_holds (Some r) t id wide now word some starts way = record { way = way; starts = starts; mote = tt }

  boots_hold : (k : StartCause) (s : Store) (id : ℕ) (wide : Bool) (now word : ℕ) → P s → Holds (boots k s id wide now word)
  boots_hold k s id wide now word p =
      let b = boot k s in
      boot_by_holds b.runs b.trail id wide now word (laws.found k s (laws.row.is_sound s 0 p.consistent.golden)) (laws.starts k s p.consistent) (boot_way k s p)

  reset_holds : (s : Store) (id : ℕ) (wide : Bool) (now word : ℕ) → P s → Holds (reset_effect s id wide now word)
  unfolding reset_effect
  reset_holds s id wide now word p = boots_hold cause.Power s id wide now word p

  -- ---- ticks and frames

  joined_holds : (t : Trail Store) (e : Effect) → Through P t → Holds e → Holds (record e { trail = joined t e.trail })
  joined_holds t e way h = record { way = Through-joined P t e.trail way h.way; starts = h.starts; mote = h.mote }

  tick_by_holds : (a : Did) (step : MoteStep Did) (now word : ℕ) → TurnIsConsistent golden step → Holds (tick_by a step now word)
  tick_by_holds Restart step now word h =
      let s = last step.trail in
      joined_holds step.trail (boots cause.Order s step.mote.id step.mote.wide now word) h.way
      (boots_hold cause.Order s step.mote.id step.mote.wide now word (Through-last P step.trail h.way))
  tick_by_holds Sent step now word h = record { way = h.way; starts = tt; mote = h.asks }
  tick_by_holds Idle step now word h = record { way = h.way; starts = tt; mote = h.asks }

  tick_holds : (m : MoteState) (s : Store) (now word : ℕ) → P s → AsksForKnown m.mode → Holds (tick_effect m s now word)
  unfolding tick_effect
  tick_holds m s now word p asks = tick_by_holds (tick_of m s now word).answer (tick_of m s now word) now word (laws.ticked m s now word p asks)

  silent_holds : {A : Type 0} (step : MoteStep A) → TurnIsConsistent golden step → Holds (silent step)
  silent_holds step h = record { way = h.way; starts = tt; mote = h.asks }

  frame_holds : (m : MoteState) (s : Store) (now word : ℕ) (bytes : List ℕ) → P s → AsksForKnown m.mode → Holds (frame_effect m s now word bytes)
  unfolding frame_effect
  frame_holds m s now word bytes p asks = silent_holds (heard_of m s now word bytes) (laws.heard m s now word bytes p asks)

  -- ---- the events of a line

  module _ (b : Base) where
    -- the mote is on, asks for a known image, if for any, and its chip is consistent
    record IsKnown (a : At) : Type 0 where
      pub store : P a.store
      pub mote : IsSomeAnd a.mote (λ m. AsksForKnown m.mode)

    base_event_holds : (a : At) (m : MoteState) (d : BaseEvent) → P a.store → AsksForKnown m.mode → Holds (effect_of b m a d)
    base_event_holds a m (Hears bytes) p asks = frame_holds m a.store (moment_at b a.events) (draw_at b a.events) bytes p asks
    base_event_holds a m Ticks p asks = tick_holds m a.store (moment_at b a.events) (draw_at b a.events) p asks

    asks_of : (a : At) (m : MoteState) → IsKnown a → a.mote ≡ Some m → AsksForKnown m.mode
    asks_of a m known e = some_well (λ m. AsksForKnown m.mode) a.mote m e known.mote

    base_event_of : (a : At) (m : MoteState) (d : BaseEvent) → IsKnown a → a.mote ≡ Some m → Holds (effect_of b m a d)
    base_event_of a m d known e = base_event_holds a m d known.store (asks_of a m known e)

    after_known : (a : At) (m : MoteState) (d : BaseEvent) → Holds (effect_of b m a d) → IsKnown (after_base_event b m a d)
    after_known a m d h = record { store = Through-last P (effect_of b m a d).trail h.way; mote = h.mote }

    run_known : (ds : List BaseEvent) (a z : At) → IsKnown a → BaseEventsRun b a ds z → IsKnown z
    unfolding BaseEventsRun
    run_known [] a z known r = subst IsKnown (sym r) known
    run_known (d ∷ ds) a z known r = run_known ds (after_base_event b r.0 a d) z (after_known a r.0 d (base_event_of a r.0 d known r.1)) r.2

    all_sound : (ds : List BaseEvent) (a : At) → IsKnown a → AllStartSound golden b a ds
    unfolding AllStartSound
    all_sound [] a known = tt
    all_sound (d ∷ ds) a known = λ m e.
        let h = base_event_of a m d known e in
        (h.starts, all_sound ds (after_base_event b m a d) (after_known a m d h))

    module _ (s : Store) (p : P s) where
      power_holds : Holds (power_effect b s)
      power_holds = reset_holds s b.id true (moment_at b 0) (draw_at b 0) p

      powered_known : IsKnown (powered b s)
      powered_known = record { store = Through-last P (power_effect b s).trail power_holds.way; mote = power_holds.mote }

      module _ (input : List ℕ) where
        came_known : (c : BaseCame b s input) → IsKnown c.there
        came_known c = run_known c.done (powered b s) c.there powered_known c.run

        came_chip : (c : BaseCame b s input) (image : List ℕ) → Stands image c.there.store → ChipIsConsistent golden image
        came_chip c image stands = record { store = c.there.store; stands = stands; consistent = (came_known c).store }

        stop_chip : (t : Trail Store) (old new : Device) → Through P t → Stops t old new → ChipIsConsistent golden new.image
        stop_chip t old new way x = record { store = x.leaves.store; stands = x.leaves.stands_for; consistent = laws.stopped t x.done x.leaves.store way x.leaves.allowed }

        flash_chip : (text : List ℕ) (old new : Device) → FlashStopped b s input text old new → ChipIsConsistent golden new.image
        flash_chip text old new (AtPower between none stands stops) = stop_chip (power_effect b s).trail between new power_holds.way stops
        flash_chip text old new (Later c between m d more on rest same stands stops) =
            stop_chip (effect_of b m c.there d).trail between new (base_event_of c.there m d (came_known c) on).way stops

        ends_chip : (r : Result (Unit {0}) End) (text : List ℕ) (old new : Device) → BaseEndsBy r b s input text old new → ChipIsConsistent golden new.image
        ends_chip (Err ends.FlashFault) text old new e = flash_chip text old new e
        ends_chip (Ok u) text old new e = came_chip e.0 new.image e.2
        ends_chip (Err end) text old new e = came_chip e.0 new.image e.2

        is_on : (o : Option MoteState) → IsSomeAnd o (λ m. AsksForKnown m.mode) → o ≡ None → ⊥
        is_on None some e = some
        is_on (Some m) some e = absurd cc

        -- no line comes to a start without an image
        none_by : (r : Result (Unit {0}) End) (text : List ℕ) (old new : Device) → BaseEndsBy r b s input text old new → statuses.NoImage ≢ outcome_status r
        none_by (Ok u) text old new e is = cc
        none_by (Err ends.NoImage) text old new e is = is_on e.0.there.mote (came_known e.0).mote e.1.0
        none_by (Err end) text old new e is = cc

        never_none : (status : Status) (r : Result (Unit {0}) End) (text : List ℕ) (old new : Device) (u v : OutputState) → BaseEndsBy r b s input text old new → WritesEnd status r u v → status ≢ statuses.NoImage
        never_none status r text old new u v e told is =
            none_by r text old new e (sym is ∙ written_status status (outcome_status r) (finish_line r) u v told (λ w. let x : statuses.NoImage ≡ statuses.WriteFault = sym is ∙ w in cc) (λ m. let x : statuses.NoImage ≡ statuses.Memory = sym is ∙ m in cc))

pub based_consistent : (golden : Row) → Laws golden → (status : Status) (b : Base) (s : Store) (old new : Device) (x y : Outside) (z : Based status b s old new x y) → StoreIsConsistent golden s → BaseStaysConsistent golden status b s z.line.input new.image
based_consistent golden laws status b s old new x y z p = record {
  power = (power_holds golden laws b s p).starts;
  base_events = all_sound golden laws b (base_events_of (take most_input z.line.input)) (powered b s) (powered_known golden laws b s p);
  found = never_none golden laws b s p z.line.input status z.outcome z.line.text old new z.between y.output z.line.by z.told;
  chip = ends_chip golden laws b s p z.line.input z.outcome z.line.text old new z.line.by;
}

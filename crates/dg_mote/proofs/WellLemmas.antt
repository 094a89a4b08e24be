-- Motes that agree and are timely, through ticks, frames and starts.
use Rattle.std.proofs.Common.{◌≡◌, ℕ, Bool, List, length, Option, Some, None, IsSomeAnd, sym, ap, subst, ◌∙◌}
use Rattle.dg_nor.specs.Trail.{Trail, last, joined, Leaves}
use Rattle.dg_nor.specs.Through.{Through}
use Rattle.dg_nor.proofs.TrailLemmas.{last-joined}
use Rattle.dg_nor.proofs.ThroughLemmas.{Through-joined, Through-last, Leaves-through}
use Rattle.dg_object.specs.Object.{Row}
use Rattle.dg_volume.specs.Sizes.{images}
use Rattle.dg_volume.specs.Store.{Store, IsNear}
use Rattle.dg_volume.specs.Trails.{BeginsAt, clear_trail}
use Rattle.dg_volume.specs.Start.{Runs, boot}
use Rattle.dg_volume.specs.Ends.{OnTheWay, Boots}
use Rattle.dg_volume.specs.Agreement.{Agrees}
use Rattle.dg_volume.specs.declared.volume.StartCause.{StartCause}
use Rattle.dg_volume.specs.declared.volume.StartCause.TheVariants as cause
use Rattle.dg_mote.specs.Model.{MoteState, MoteStep}
use Rattle.dg_mote.specs.Ticks.{tick_of}
use Rattle.dg_mote.specs.Hears.{heard_of}
use Rattle.dg_mote.specs.Agreement.{ModeAgrees}
use Rattle.dg_mote.specs.Effects.{Effect, boot_by, boots, reset_effect, silent, tick_by, tick_effect, frame_effect}
use Rattle.dg_mote.specs.Timely.{Timely}
use Rattle.dg_mote.specs.Well.{StoreIsWell, IsWell, TurnIsWell, EffectIsWell, SendsHonest}
use Rattle.dg_mote.specs.declared.mote.Did.{Did}
use Rattle.dg_mote.specs.declared.mote.Did.TheVariants.{Sent, Idle, Restart}
use Rattle.dg_mote.proofs.StartLemmas.{BootLaws, boot_starts}
use Rattle.dg_mote.proofs.KeepLemmas.{Keeps, through_then}
use Rattle.dg_mote.proofs.WellStores.{both_well, clear_well}
use Rattle.dg_mote.proofs.TickLemmas.{tick_keeps}
use Rattle.dg_mote.proofs.SilentLemmas.{heard_silent}
use Rattle.dg_mote.proofs.TimelyLemmas.{timely_begins, timely_ticked, timely_heard}

-- ---- steps

pub turn_well : {A : Type 0} (table : List Row) (step : MoteStep A) (now : ℕ) → Keeps (StoreIsWell table) table step → Timely step.mote now → TurnIsWell table step now
turn_well table step now k t = record { way = k.way; mote = record { store = Through-last (StoreIsWell table) step.trail k.way; mode = k.mode; timely = t }; sent = k.sent }

pub ticks_well : (table : List Row) → ((s : Store) → Agrees table s → Through (Agrees table) (clear_trail s)) → (m : MoteState) (s : Store) (now word : ℕ) → IsWell table m s now → TurnIsWell table (tick_of m s now word) now
ticks_well table clear m s now word w =
    turn_well table (tick_of m s now word) now (tick_keeps (StoreIsWell table) (clear_well table clear) table s w.store w.store.agrees now word m w.mode) (timely_ticked m s now word w.timely)

pub hears_well : (table : List Row) (m : MoteState) (s : Store) (now word : ℕ) (bytes : List ℕ)
    → Through (StoreIsWell table) (heard_of m s now word bytes).trail × ModeAgrees table (last (heard_of m s now word bytes).trail) (heard_of m s now word bytes).mote.mode
    → IsWell table m s now → TurnIsWell table (heard_of m s now word bytes) now
hears_well table m s now word bytes kept w =
    let step = heard_of m s now word bytes in
    turn_well table step now (record { way = kept.0; mode = kept.1; sent = subst (SendsHonest table) (sym (heard_silent m s now word bytes)) tt }) (timely_heard m s now word bytes w.timely)

-- ---- what a stop leaves

near_well : (table : List Row) (a s : Store) → StoreIsWell table a → IsNear a s → StoreIsWell table s
near_well table a s w near =
    let like : StoreIsWell table (record a { room = s.room }) = record { count = w.count; agrees = record { golden = w.agrees.golden; kept = w.agrees.kept; app = w.agrees.app } } in
    subst (λ (x : Store). StoreIsWell table x) (sym near.same) like

pub stopped_well : (table : List Row) (t : Trail Store) (k : ℕ) (s : Store) → Through (StoreIsWell table) t → Leaves IsNear t k s → StoreIsWell table s
stopped_well table t k s way left = Leaves-through IsNear (StoreIsWell table) (near_well table) t k s way left

-- ---- starts

-- what lower crates promise of starts
pub record StartLaws (table : List Row) : Type 0 where
  pub way : (k : StartCause) (s : Store) → Agrees table s → Through (Agrees table) (boot k s).trail
  pub ends : (k : StartCause) (s : Store) → Boots s (boot k s)
  pub begins : (k : StartCause) (s : Store) → BeginsAt s (boot k s).trail
  pub boots : BootLaws table

begins_by : (o : Option Runs) (s : Store) (t : Trail Store) (id : ℕ) (wide : Bool) (now word : ℕ) → BeginsAt s t → BeginsAt s (boot_by o t id wide now word).trail
begins_by None s t id wide now word b = b
begins_by (Some r) s t id wide now word b = b

module _ (table : List Row) (laws : StartLaws table) where
  start_well : (k : StartCause) (s : Store) → StoreIsWell table s → Through (StoreIsWell table) (boot k s).trail
  start_well k s w =
      both_well table (boot k s).trail (laws.way k s w.agrees)
      (through_then (OnTheWay s (boot k s).runs) (λ t. length t.kept ≡ images) (λ t way. ap length way.kept ∙ w.count) (boot k s).trail (laws.ends k s).way)

  pub boots_well : (k : StartCause) (s : Store) (id : ℕ) (wide : Bool) (now word : ℕ) → StoreIsWell table s → EffectIsWell table (boots k s id wide now word) now
  boots_well k s id wide now word w =
      let found = boot_starts table laws.boots k s w.agrees in
      let way = start_well k s w in
      let started : EffectIsWell table (boot_by (Some found.0) (boot k s).trail id wide now word) now =
      record { way = way; mote = record { store = Through-last (StoreIsWell table) (boot k s).trail way; mode = tt; timely = timely_begins id now word wide }; started = found.2; sent = tt } in
      subst (λ (o : Option Runs). EffectIsWell table (boot_by o (boot k s).trail id wide now word) now) (sym found.1) started

  pub reset_well : (s : Store) (id : ℕ) (wide : Bool) (now word : ℕ) → StoreIsWell table s → EffectIsWell table (reset_effect s id wide now word) now
  unfolding reset_effect
  reset_well s id wide now word w = boots_well cause.Power s id wide now word w

  joined_well : (t : Trail Store) (e : Effect) (now : ℕ) → Through (StoreIsWell table) t → BeginsAt (last t) e.trail → EffectIsWell table e now → EffectIsWell table (record e { trail = joined t e.trail }) now
  joined_well t e now way begins w =
      record {
        way = Through-joined (StoreIsWell table) t e.trail way w.way;
        started = w.started;
        mote = subst (λ (x : Store). IsSomeAnd e.mote (λ m. IsWell table m x now)) (sym (last-joined t e.trail (sym begins.first))) w.mote;
        sent = w.sent;
      }

  pub tick_by_well : (a : Did) (step : MoteStep Did) (now word : ℕ) → TurnIsWell table step now → EffectIsWell table (tick_by a step now word) now
  tick_by_well Restart step now word w =
      let s = last step.trail in
      joined_well step.trail (boots cause.Order s step.mote.id step.mote.wide now word) now w.way
      (begins_by (boot cause.Order s).runs s (boot cause.Order s).trail step.mote.id step.mote.wide now word (laws.begins cause.Order s))
      (boots_well cause.Order s step.mote.id step.mote.wide now word w.mote.store)
  tick_by_well Sent step now word w = record { way = w.way; mote = w.mote; started = tt; sent = w.sent }
  tick_by_well Idle step now word w = record { way = w.way; mote = w.mote; started = tt; sent = w.sent }

pub tick_effect_well : (table : List Row) → StartLaws table → (m : MoteState) (s : Store) (now word : ℕ) → TurnIsWell table (tick_of m s now word) now → EffectIsWell table (tick_effect m s now word) now
unfolding tick_effect
tick_effect_well table laws m s now word w = tick_by_well table laws (tick_of m s now word).answer (tick_of m s now word) now word w

silent_well : {A : Type 0} (table : List Row) (step : MoteStep A) (now : ℕ) → TurnIsWell table step now → EffectIsWell table (silent step) now
silent_well table step now w = record { way = w.way; mote = w.mote; started = tt; sent = tt }

pub frame_effect_well : (table : List Row) (m : MoteState) (s : Store) (now word : ℕ) (bytes : List ℕ) → TurnIsWell table (heard_of m s now word bytes) now → EffectIsWell table (frame_effect m s now word bytes) now
unfolding frame_effect
frame_effect_well table m s now word bytes w = silent_well table (heard_of m s now word bytes) now w

-- What a mote does with a message that it hears is what it does with the frame of the message.
use Rattle.std.proofs.Common.{◌≡◌, ℕ, List, Option, Some, None, Result, Ok, Err, IfOk, OnOk, OnErr, refl, sym, subst}
use Rattle.std.specs.Prelude.{IfNone}
use Rattle.dg_nor.specs.Device.{Device}
use Rattle.dg_nor.specs.Trail.{Trail, Leaves}
use Rattle.dg_nor.specs.Through.{Through}
use Rattle.dg_nor.specs.declared.device.Stopped.{Stopped}
use Rattle.dg_frame.specs.declared.Message.{Message}
use Rattle.dg_object.specs.Object.{Row}
use Rattle.dg_volume.specs.Store.{Store, IsNear}
use Rattle.dg_volume.specs.Acts.{Stops}
use Rattle.dg_mote.specs.Model.{MoteState, MoteStep}
use Rattle.dg_mote.specs.Hears.{on_message, heard_of}
use Rattle.dg_mote.specs.Hearing.{StaysIf}
use Rattle.dg_mote.specs.Motes.{IsMote, Done}
use Rattle.dg_mote.specs.Consistency.{StoreIsConsistent, TurnIsConsistent, ChipIsConsistent, MoteIsConsistent, AsksForKnown}
use Rattle.dg_mote.specs.declared.mote.Heard.{Heard}
use Rattle.dg_mote.specs.declared.mote.Heard.TheVariants as heard
use Rattle.dg_mote.specs.declared.mote.Mote.{Mote}
use Rattle.dg_mote.proofs.ConsistentLemmas.{turn_consistent, stop_consistent, on_each, on_each_err}

-- what holds of no answer, where there is none
pub if_none_by : {A : Type 0} (o : Option A) (P : Type 0) → ((x : A) → o ≡ Some x → ⊥) → IfNone o P → P
if_none_by None P never p = p
if_none_by (Some x) P never p = absurd (never x refl)

-- what holds anyway holds if a frame is refused or dropped
pub stays_anyway : (h : Heard) (P : Type 0) → P → StaysIf h P
stays_anyway (heard.Refused fault) P p = p
stays_anyway heard.Dropped P p = p
stays_anyway heard.Noted P p = tt
stays_anyway heard.Same P p = tt
stays_anyway heard.Other P p = tt
stays_anyway (heard.Asks image page) P p = tt
stays_anyway (heard.Serves image page) P p = tt
stays_anyway heard.Merged P p = tt
stays_anyway (heard.Took packet) P p = tt
stays_anyway (heard.Sealed image page) P p = tt
stays_anyway (heard.Bad image page) P p = tt

-- a mote of this kind hears the frame as the message
abbrev pub IsHeardAs : Mote → (now word : ℕ) → List ℕ → Message → Type 0
IsHeardAs v now word bytes x =
    (m : MoteState) (s : Store) → m.id ≡ v.id → m.wide ≡ v.wide → heard_of m s now word bytes ≡ on_message m s now word x

pub heard_done : (r : Result Heard Stopped) (a b : Device) (v u : Mote) (now word : ℕ) (bytes : List ℕ) (x y : Message) → IsHeardAs v now word bytes x → x ≡ y
    → IfOk r (λ h. (m : MoteState) (s : Store) → IsMote a.image v m s → Done (on_message m s now word y) a b u h)
    → IfOk r (λ h. (m : MoteState) (s : Store) → IsMote a.image v m s → Done (heard_of m s now word bytes) a b u h)
heard_done (Ok h) a b v u now word bytes x y same e done = λ m s is.
    subst (λ (t : MoteStep Heard). Done t a b u h) (sym (same m s (sym is.id) (sym is.wide)))
    (subst (λ (z : Message). Done (on_message m s now word z) a b u h) (sym e) (done m s is))
heard_done (Err f) a b v u now word bytes x y same e done = tt

pub heard_stops : (r : Result Heard Stopped) (a b : Device) (v : Mote) (now word : ℕ) (bytes : List ℕ) (x y : Message) → IsHeardAs v now word bytes x → x ≡ y
    → OnErr r ((m : MoteState) (s : Store) → IsMote a.image v m s → Stops (on_message m s now word y).trail a b)
    → OnErr r ((m : MoteState) (s : Store) → IsMote a.image v m s → Stops (heard_of m s now word bytes).trail a b)
heard_stops (Ok h) a b v now word bytes x y same e stops = tt
heard_stops (Err f) a b v now word bytes x y same e stops = λ m s is.
    subst (λ (t : MoteStep Heard). Stops t.trail a b) (sym (same m s (sym is.id) (sym is.wide)))
    (subst (λ (z : Message). Stops (on_message m s now word z).trail a b) (sym e) (stops m s is))

-- ---- consistent chips stay so

module _ (law : (golden : Row) (m : MoteState) (s : Store) (now word : ℕ) (bytes : List ℕ) → StoreIsConsistent golden s → AsksForKnown m.mode → TurnIsConsistent golden (heard_of m s now word bytes)) where
  pub heard_keeps_consistent : (r : Result Heard Stopped) (a b : Device) (v u : Mote) (now word : ℕ) (bytes : List ℕ)
      → IfOk r (λ h. (m : MoteState) (s : Store) → IsMote a.image v m s → Done (heard_of m s now word bytes) a b u h)
      → OnOk r ((golden : Row) → MoteIsConsistent golden a.image v → MoteIsConsistent golden b.image u)
  heard_keeps_consistent r a b v u now word bytes done =
      on_each _ r (λ golden. turn_consistent golden (λ m s. heard_of m s now word bytes) (λ m s. law golden m s now word bytes) r a b v u done)

  pub heard_stops_consistent : ((golden : Row) (t : Trail Store) (k : ℕ) (s : Store) → Through (StoreIsConsistent golden) t → Leaves IsNear t k s → StoreIsConsistent golden s)
      → (r : Result Heard Stopped) (a b : Device) (v : Mote) (now word : ℕ) (bytes : List ℕ)
      → OnErr r ((m : MoteState) (s : Store) → IsMote a.image v m s → Stops (heard_of m s now word bytes).trail a b)
      → OnErr r ((golden : Row) → MoteIsConsistent golden a.image v → ChipIsConsistent golden b.image)
  heard_stops_consistent stopped r a b v now word bytes stops =
      on_each_err _ r (λ golden. stop_consistent golden (λ m s. heard_of m s now word bytes) (λ m s. law golden m s now word bytes) (stopped golden) r a b v stops)

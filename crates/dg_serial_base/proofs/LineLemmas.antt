-- A base mote plays the bytes of its line.
use Rattle.std.proofs.Common.{◌≡◌, ℕ, List, [], ◌∷◌, ◌++◌, ap, sym, ◌∙◌, subst, append_assoc}
use Rattle.std.specs.Prelude.{Option, None, Result}
use Rattle.dg_nor.specs.Device.{Device}
use Rattle.dg_serial.specs.Line.{SerialItem, items}
use Rattle.dg_serial.specs.Reading.{FrameReading, items_told, Feeds}
use Rattle.dg_serial.specs.declared.unstuffing.Fed.{Fed}
use Rattle.dg_serial_base.specs.BaseEvents.{BaseEvent, Hears, Ticks, base_events_of}
use Rattle.dg_serial_base.specs.inner.Standing.{base_events_of_items}
use Rattle.dg_serial_base.specs.inner.Standing.{Outset, CodeAt, code_at, base_event_left, BaseEventsHalted, CompletedOn, ContinueEnds, DoneOne, BaseEventFails}
use Rattle.dg_serial_base.specs.declared.running.Running.{Running}
use Rattle.dg_end.specs.declared.ends.End.{End}
use Rattle.dg_serial_base.proofs.RunLemmas.{base_events_goes}
use Rattle.dg_serial_base.proofs.WriteLemmas.{puts_nothing}
use Rattle.dg_serial_base.proofs.BaseEventLemmas.{base_event_halts, halted_more, sent_goes}

pub went_along : (a : Outset) (x y : List BaseEvent) (now : CodeAt) → x ≡ y → CompletedOn a x now → CompletedOn a y now
went_along a x y now e w = subst (λ (all : List BaseEvent). CompletedOn a all now) e w

pub halted_along : (why : End) (a : Outset) (x y : List BaseEvent) (now : Option (List ℕ)) (new : Device) → x ≡ y → BaseEventsHalted why a x now new → BaseEventsHalted why a y now new
halted_along why a x y now new e h = subst (λ (all : List BaseEvent). BaseEventsHalted why a all now new) e h

pub goes_along : {T : Type 0} (r : Result T End) (a : Outset) (x y : List BaseEvent) (now : CodeAt) → x ≡ y → ContinueEnds r a x now → ContinueEnds r a y now
goes_along r a x y now e g = subst (λ (all : List BaseEvent). ContinueEnds r a all now) e g

-- ---- frames

-- a frame that was heard sends nothing
pub hear_goes : (a : Outset) (done : List BaseEvent) (bytes : List ℕ) (old : CodeAt) (u : Running) (new : Device) (went : CompletedOn a done old)
    → DoneOne a.base a.store done (Hears bytes) went.there (base_event_left u new None) → CompletedOn a (done ++ Hears bytes ∷ []) (code_at old.written u new)
hear_goes a done bytes old u new went one = sent_goes a done (Hears bytes) went.there old.written old.written went.put went.fits (base_event_left u new None) tt one (puts_nothing old.written)

pub hear_halts : (why : End) (a : Outset) (done : List BaseEvent) (bytes : List ℕ) (old : CodeAt) (new : Device) (went : CompletedOn a done old)
    → BaseEventFails why a.base a.store done (Hears bytes) went.there new → BaseEventsHalted why a (done ++ Hears bytes ∷ Ticks ∷ []) old.written new
hear_halts why a done bytes old new went x =
    halted_along why a ((done ++ Hears bytes ∷ []) ++ Ticks ∷ []) (done ++ Hears bytes ∷ Ticks ∷ []) old.written new (append_assoc done (Hears bytes ∷ []) (Ticks ∷ []))
    (halted_more why a (done ++ Hears bytes ∷ []) (Ticks ∷ []) old.written new (base_event_halts why a done (Hears bytes) went.there old.mote old.chip.image old.written new went.stood went.put went.fits x))

pub pass_halts : (why : End) (a : Outset) (done : List BaseEvent) (old : CodeAt) (new : Device) (went : CompletedOn a done old)
    → BaseEventFails why a.base a.store done Ticks went.there new → BaseEventsHalted why a (done ++ Ticks ∷ []) old.written new
pass_halts why a done old new went x = base_event_halts why a done Ticks went.there old.mote old.chip.image old.written new went.stood went.put went.fits x

-- ---- bytes

pub base_events_longer : (stream : List ℕ) (byte : ℕ) (fed : Fed) (line : FrameReading) → Feeds stream byte fed line → base_events_of stream ++ base_events_of_items (items_told fed) ≡ base_events_of (stream ++ byte ∷ [])
base_events_longer stream byte fed line f = sym (ap base_events_of_items f.items ∙ base_events_goes (items stream) (items_told fed))

abbrev pub GoOn : Type 0
GoOn = (stream more : List ℕ) → (later : List SerialItem) × (items (stream ++ more) ≡ items stream ++ later)

pub halted_line : GoOn → (why : End) (a : Outset) (stream more : List ℕ) (now : Option (List ℕ)) (new : Device) → BaseEventsHalted why a (base_events_of stream) now new → BaseEventsHalted why a (base_events_of (stream ++ more)) now new
halted_line law why a stream more now new h =
    let l = law stream more in
    halted_along why a (base_events_of stream ++ base_events_of_items l.0) (base_events_of (stream ++ more)) now new (sym (ap base_events_of_items l.1 ∙ base_events_goes (items stream) l.0))
    (halted_more why a (base_events_of stream) (base_events_of_items l.0) now new h)

pub halted_front : GoOn → (why : End) (a : Outset) (x more y : List ℕ) (now : Option (List ℕ)) (new : Device) → x ++ more ≡ y → BaseEventsHalted why a (base_events_of x) now new → BaseEventsHalted why a (base_events_of y) now new
halted_front law why a x more y now new e h = subst (λ (z : List ℕ). BaseEventsHalted why a (base_events_of z) now new) e (halted_line law why a x more now new h)

-- How playing goes on, by what its parts answered.
use Rattle.std.proofs.Common.{◌≡◌, ℕ, ◌+◌, ◌<◌, List, [], ◌∷◌, ◌++◌, length, take, drop, get_or, refl, ap, sym, ◌∙◌, subst, append_assoc}
use Rattle.std.proofs.lemmas.List.{take-append-drop, take_more}
use Rattle.std.specs.Prelude.{Option, IfSome, Result, Ok, Err}
use Rattle.dg_nor.specs.Device.{Device}
use Rattle.dg_volume.specs.Store.{Store}
use Rattle.dg_serial.specs.Line.{stuffed_line, IsOnLine}
use Rattle.dg_serial.specs.Reading.{FrameReading, items_told, Feeds}
use Rattle.dg_serial.specs.declared.unstuffing.Fed.{Fed}
use Rattle.dg_serial_base.specs.BaseEvents.{Base, At, BaseEvent, Ticks, base_events_of}
use Rattle.dg_serial_base.specs.inner.Standing.{base_events_of_items}
use Rattle.dg_serial_base.specs.inner.Standing.{Calm, CountsBy, Counts, Outset, CodeAt, code_at, LineAt, BaseEventLeft, WritesBy, ReadsBy, ReadCounts, one_if, DoneOne, BaseEventFails, SendFails, SendEnds, BaseEventsHalted, CompletedOn, ContinueEnds, StreamPlayed, StreamEnds}
use Rattle.dg_end.specs.declared.ends.End.{End}
use Rattle.dg_end.specs.declared.ends.End.TheVariants as ends
use Rattle.dg_serial_base.proofs.BaseEventLemmas.{sent_goes, send_fails}
use Rattle.dg_serial_base.proofs.LineLemmas.{GoOn, went_along, halted_along, base_events_longer, halted_front}

-- ---- a tick

pub pass_goes : (r : Result (Unit {0}) End) (a : Outset) (done : List BaseEvent) (old : CodeAt) (now : Option (List ℕ)) (left : BaseEventLeft) (went : CompletedOn a done old)
    → IfSome left.frame IsOnLine → DoneOne a.base a.store done Ticks went.there left → SendEnds r (stuffed_line (one_if left.frame)) old.written now → ContinueEnds r a (done ++ Ticks ∷ []) (code_at now left.mote left.chip)
pass_goes (Ok x) a done old now left went frame one w = sent_goes a done Ticks went.there old.written now went.put went.fits left frame one w
pass_goes (Err why) a done old now left went frame one w = send_fails a done Ticks went.there old.written now went.put went.fits why left frame one w

-- a write stops no chip
send_calm : (why : End) (text : List ℕ) (before now : Option (List ℕ)) (a b : Device) → Calm a b → SendFails why text before now → CountsBy why a b
send_calm ends.FlashFault text before now a b calm w = absurd w
send_calm end text before now a b calm w = calm

pub send_counts : (r : Result (Unit {0}) End) (text : List ℕ) (before now : Option (List ℕ)) (a b : Device) → Calm a b → SendEnds r text before now → Counts r a b
send_counts (Ok x) text before now a b calm w = calm
send_counts (Err why) text before now a b calm w = send_calm why text before now a b calm w

-- an event that failed wrote nothing
pub write_calm : (why : End) (b : Base) (s : Store) (done : List BaseEvent) (d : BaseEvent) (before : At) (new : Device) (n : ℕ) → BaseEventFails why b s done d before new → WritesBy why n n
write_calm ends.WriteFault b s done d before new n x = absurd x
write_calm end b s done d before new n x = refl

-- and nothing was read
pub read_calm : (why : End) (b : Base) (s : Store) (done : List BaseEvent) (d : BaseEvent) (before : At) (new : Device) (n : ℕ) → BaseEventFails why b s done d before new → ReadsBy why n n
read_calm ends.ReadFault b s done d before new n x = absurd x
read_calm end b s done d before new n x = refl

send_unread : (why : End) (text : List ℕ) (before now : Option (List ℕ)) (n : ℕ) → SendFails why text before now → ReadsBy why n n
send_unread ends.ReadFault text before now n w = absurd w
send_unread end text before now n w = refl

pub send_reads : (r : Result (Unit {0}) End) (text : List ℕ) (before now : Option (List ℕ)) (n : ℕ) → SendEnds r text before now → ReadCounts r n n
send_reads (Ok x) text before now n w = refl
send_reads (Err why) text before now n w = send_unread why text before now n w

-- ---- a byte

pub byte_goes : (r : Result (Unit {0}) End) (a : Outset) (stream : List ℕ) (byte : ℕ) (now : LineAt) (before : FrameReading) (fed : Fed) → Feeds stream byte fed before → now.reading ≡ before
    → ContinueEnds r a (base_events_of stream ++ base_events_of_items (items_told fed)) now.code → StreamEnds r a (stream ++ byte ∷ []) now
byte_goes (Ok x) a stream byte now before fed f l g =
    record { line = l ∙ f.behind; went = went_along a (base_events_of stream ++ base_events_of_items (items_told fed)) (base_events_of (stream ++ byte ∷ [])) now.code (base_events_longer stream byte fed before f) g }
byte_goes (Err why) a stream byte now before fed f l g =
    halted_along why a (base_events_of stream ++ base_events_of_items (items_told fed)) (base_events_of (stream ++ byte ∷ [])) now.code.written now.code.chip (base_events_longer stream byte fed before f) g

pub played_along : (a : Outset) (x y : List ℕ) (now : LineAt) → x ≡ y → StreamPlayed a x now → StreamPlayed a y now
played_along a x y now e p = subst (λ (stream : List ℕ). StreamPlayed a stream now) e p

-- ---- bytes one after the other

pub next_byte : (stream bytes : List ℕ) (i : ℕ) → i < length bytes → (stream ++ take i bytes) ++ get_or bytes i 0 ∷ [] ≡ stream ++ take (i + 1) bytes
next_byte stream bytes i lt = append_assoc stream (take i bytes) (get_or bytes i 0 ∷ []) ∙ ap (λ (xs : List ℕ). stream ++ xs) (sym (take_more bytes i 0 lt))

pub front_bytes : (stream bytes : List ℕ) (i : ℕ) → (stream ++ take i bytes) ++ drop i bytes ≡ stream ++ bytes
front_bytes stream bytes i = append_assoc stream (take i bytes) (drop i bytes) ∙ ap (λ (xs : List ℕ). stream ++ xs) (take-append-drop i bytes)

pub halted_bytes : GoOn → (why : End) (a : Outset) (stream bytes : List ℕ) (i : ℕ) (now : Option (List ℕ)) (new : Device) → i < length bytes
    → BaseEventsHalted why a (base_events_of ((stream ++ take i bytes) ++ get_or bytes i 0 ∷ [])) now new → BaseEventsHalted why a (base_events_of (stream ++ bytes)) now new
halted_bytes law why a stream bytes i now new lt h =
    halted_front law why a (stream ++ take (i + 1) bytes) (drop (i + 1) bytes) (stream ++ bytes) now new (front_bytes stream bytes (i + 1))
    (subst (λ (x : List ℕ). BaseEventsHalted why a (base_events_of x) now new) (next_byte stream bytes i lt) h)

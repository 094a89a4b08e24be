-- What a base mote did with its line (docs/COMMANDS.md, "Base").
use Rattle.std.specs.Prelude.{◌≡◌, ◌≢◌, ◌⊎◌, ℕ, ◌+◌, ◌<◌, ◌≤◌, true, List, [], ◌∷◌, ◌++◌, length, take, Some, None}
use Rattle.std.specs.Prelude.{map, Result, Ok, Err}
use Rattle.dg_words.specs.Counts.{Rose}
use Rattle.dg_base.specs.Outside.{Takes, Puts, AtEnd}
use Rattle.dg_base.specs.Sizes.{most_input}
use Rattle.dg_base.specs.declared.answers.Status.{Status}
use Rattle.dg_base.specs.declared.answers.Status.TheVariants as statuses
use Rattle.dg_nor.specs.Device.{Device}
use Rattle.dg_nor.specs.Reads.{Looked, ReadStopped}
use Rattle.dg_outside.specs.Outside.{OutputState, Outside}
use Rattle.dg_end.specs.Writes.{WritesEnd}
use Rattle.dg_end.specs.declared.ends.End.{End}
use Rattle.dg_end.specs.declared.ends.End.TheVariants as ends
use Rattle.dg_volume.specs.Store.{Store}
use Rattle.dg_volume.specs.Stands.{Stands}
use Rattle.dg_volume.specs.Acts.{Stops}
use Rattle.dg_mote.specs.Model.{MoteState}
use Rattle.dg_frame.specs.Spelling.{frame_of}
use Rattle.dg_serial.specs.Line.{Frame, items}
use Rattle.dg_serial_base.specs.BaseEvents.{Base, At, BaseEvent, base_events_of, powered, power_effect, effect_of, BaseEventsRun}
use Rattle.dg_serial_base.specs.BaseEvents.{line_sent}

-- From a chip that stood for s, by the rules: what happened to the mote, what was left of the items of the bytes that were
-- taken, and where the mote stands then. No byte but the first 16,777,216 is used.
pub record BaseCame (b : Base) (s : Store) (input : List ℕ) : Type 0 where
  pub done : List BaseEvent
  pub rest : List BaseEvent
  pub parts : done ++ rest ≡ base_events_of (take most_input input)
  pub there : At
  pub run : BaseEventsRun b (powered b s) done there
  -- the frames that it sent come back from its line
  pub heard : items (line_sent there) ≡ map Frame (map frame_of there.sent)

-- All items were played, and the mote is on.
abbrev pub PlayedAll : {b : Base} {s : Store} {input : List ℕ} → BaseCame b s input → Type 0
PlayedAll c = (c.rest ≡ []) × ((m : MoteState) × (c.there.mote ≡ Some m))

-- what was written before the last line, by the end that the line came to
abbrev pub BaseWroteBy : Result (Unit {0}) End → {b : Base} {s : Store} {input : List ℕ} → BaseCame b s input → (text : List ℕ)
    → Type 0
BaseWroteBy (Ok done) {b} {s} {input} c text = PlayedAll c × (text ≡ line_sent c.there) × (length input ≤ most_input)
BaseWroteBy (Err ends.ReadFault) {b} {s} {input} c text = PlayedAll c × (text ≡ line_sent c.there) × (length input ≤ most_input)
BaseWroteBy (Err ends.TooLong) {b} {s} {input} c text = PlayedAll c × (text ≡ line_sent c.there) × (most_input < length input)
BaseWroteBy (Err ends.NoImage) {b} {s} {input} c text = (c.there.mote ≡ None) × (text ≡ line_sent c.there)
BaseWroteBy (Err ends.Memory) {b} {s} {input} c text = (more : List ℕ) × (text ++ more ≡ line_sent c.there)
BaseWroteBy (Err ends.WriteFault) {b} {s} {input} c text = (more : List ℕ) × (text ++ more ≡ line_sent c.there)
BaseWroteBy (Err end) {b} {s} {input} c text = ⊥

-- The chip stopped as it powered on, or in the next event.
pub data FlashStopped (b : Base) (s : Store) (input text : List ℕ) (old new : Device) : Type 0 where
  AtPower : (between : Device) → text ≡ [] → Stands between.image s → Stops (power_effect b s).trail between new
      → FlashStopped b s input text old new
  Later : (c : BaseCame b s input) (between : Device) (m : MoteState) (d : BaseEvent) (more : List BaseEvent)
      → c.there.mote ≡ Some m
      → c.rest ≡ d ∷ more → text ≡ line_sent c.there
      → Stands between.image c.there.store → Stops (effect_of b m c.there d).trail between new
      → FlashStopped b s input text old new

abbrev pub BaseEndsBy : Result (Unit {0}) End → (b : Base) (s : Store) (input text : List ℕ) (old new : Device) → Type 0
BaseEndsBy (Err ends.FlashFault) b s input text old new = FlashStopped b s input text old new
BaseEndsBy outcome b s input text old new =
    (c : BaseCame b s input) × BaseWroteBy outcome c text × Stands new.image c.there.store

-- What a base mote did with its line, its last line aside, from a chip that stood for s. Some bytes were taken from the source,
-- and some written to the sink, if these expose them.
pub record BaseLine (outcome : Result (Unit {0}) End) (b : Base) (s : Store) (old new : Device) (x y : Outside) : Type 0 where
  pub input : List ℕ
  pub taken : Takes x.input.left y.input.left input
  pub few : length input ≤ most_input + 1
  pub text : List ℕ
  pub put : Puts x.output.written y.output.written text
  pub by : BaseEndsBy outcome b s input text old new
  -- only a line that was read to its end is done
  pub whole : outcome ≡ Ok (tt {0}) → AtEnd y.input.left

-- The last line of the end that the line came to was written, if it has one.
pub record Based (status : Status) (b : Base) (s : Store) (old new : Device) (x y : Outside) : Type 0 where
  pub outcome : Result (Unit {0}) End
  pub between : OutputState
  pub line : BaseLine outcome b s old new x (record y { output = between })
  pub told : WritesEnd status outcome between y.output

-- how a line ends where the chip is not a volume
abbrev pub RefusedBy : {T : Type 0} → Result T End → (old new : Device) → Type 0
RefusedBy (Err ends.NotAVolume) old new = Looked old new
RefusedBy (Err ends.FlashFault) old new = ReadStopped old new
RefusedBy outcome old new = ⊥

-- The chip is not a volume: nothing is read, and no memory is taken.
pub record Refused (status : Status) (old new : Device) (x y : Outside) : Type 0 where
  pub unread : y.input ≡ x.input
  pub outcome : Result (Unit {0}) End
  pub by : RefusedBy outcome old new
  pub told : WritesEnd status outcome x.output y.output
  pub room : status ≢ statuses.Memory

-- A fault of the outside is reported, and only with its own answer.
pub record BaseCauses (status : Status) (old new : Device) (x y : Outside) : Type 0 where
  pub reads : x.input.reads ≤ y.input.reads
  pub writes : x.output.writes ≤ y.output.writes
  pub read_fault : status ≡ statuses.ReadFault → Rose x.input.reads y.input.reads
  pub unread : status ≢ statuses.ReadFault → y.input.reads ≡ x.input.reads
  pub write_fault : status ≡ statuses.WriteFault → Rose x.output.writes y.output.writes
  pub written : status ≢ statuses.WriteFault → y.output.writes ≡ x.output.writes
  pub flash_fault : status ≡ statuses.FlashFault → (old.stopped ≡ true) ⊎ Rose old.faults new.faults
  pub calm : status ≢ statuses.FlashFault → (new.faults ≡ old.faults) × (new.stopped ≡ old.stopped)

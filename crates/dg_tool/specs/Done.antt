-- What a verb over the first board did (docs/COMMANDS.md, "Over one chip").
use Rattle.std.specs.Prelude.{◌≡◌, ◌≢◌, ◌⊎◌, ℕ, ◌+◌, ◌<◌, ◌≤◌, true, List, [], length, drop, slice_get}
use Rattle.std.specs.Prelude.{nat_lt, if◌then◌else◌, Option, Some, None, IfSome, Ok, Err}
use Rattle.dg_words.specs.Counts.{Rose}
use Rattle.dg_base.specs.Sizes.{most_input}
use Rattle.dg_base.specs.Outside.{Takes, AtEnd}
use Rattle.dg_base.specs.declared.answers.Status.{Status}
use Rattle.dg_nor.specs.Device.{Device, Ran, Halted}
use Rattle.dg_nor.specs.Reads.{Looked, ReadStopped}
use Rattle.dg_nor.specs.Trail.{Trail, operations, last}
use Rattle.dg_control.specs.Store.{HasForm}
use Rattle.dg_slot.specs.Pages.{program}
use Rattle.dg_volume.specs.Acts.{Stops}
use Rattle.dg_volume.specs.Formatting.{format_operations, GoldenFirst}
use Rattle.dg_volume.specs.Start.{Boot}
use Rattle.dg_volume.specs.Sizes.{new_form}
use Rattle.dg_volume.specs.Trails.{migrate_trail}
use Rattle.dg_volume.specs.Store.{Store, fresh, golden_row}
use Rattle.dg_volume.specs.Stands.{Stands}
use Rattle.dg_outside.specs.Outside.{Outside, InputState}
use Rattle.dg_end.specs.Lines.{Outcome}
use Rattle.dg_end.specs.Writes.{CommandEnds}
use Rattle.dg_end.specs.declared.ends.End.TheVariants as ends
use Rattle.dg_tool.specs.Endings.{VerbEnding, Before, Reading, Acting, outcome_of}

-- ---- acts on the first board

-- the board completed a trail of stores
pub record Completed (t : Trail Store) (a b : Device) : Type 0 where
  pub ran : Ran (operations t) a b
  pub stands : Stands b.image (last t)

-- an act was done on the store of a volume; nothing else is acted on
abbrev pub OnVolume : (Store → Device → Device → Type 0) → Option Store → Device → Device → Type 0
OnVolume acted None a b = ⊥
OnVolume acted (Some s) a b = acted s a b

-- It was stopped, and this says which stores that may leave. A board that is not a volume keeps its bytes.
abbrev pub VerbStopsOn : (Store → Trail Store) → Option Store → Device → Device → Type 0
VerbStopsOn trail None a b = ReadStopped a b
VerbStopsOn trail (Some s) a b = Stops (trail s) a b

-- the board was migrated, and its last commit is written in today's form
pub record Migrated (form : ℕ) (s : Store) (a b : Device) : Type 0 where
  pub went : Completed (migrate_trail form s) a b
  pub written : HasForm b.image new_form

-- the board is a volume that keeps golden alone, in this form
pub record IsFormatted (name golden : List ℕ) (used form : ℕ) (a b : Device) : Type 0 where
  pub ran : Ran (format_operations (length golden) used) a b
  pub stands : Stands b.image (fresh name golden used)
  pub written : HasForm b.image form

-- Formatting was stopped. Golden stands whole in its slot, or nothing but that slot was touched.
pub record FormattingStops (name golden : List ℕ) (used : ℕ) (a b : Device) : Type 0 where
  pub halted : Halted (format_operations (length golden) used) (λ _ _. Unit {0}) a b
  pub golden_first : GoldenFirst (golden_row name golden) a.image b.image

-- a start was completed, and what runs stands in program memory
pub record Booted (boot : Boot) (a b : Device) : Type 0 where
  pub went : Completed boot.trail a b
  pub memory : IfSome boot.runs (λ r. program b.image (length r.pages) ≡ r.pages)

-- ---- the outcome of a verb, and how it leaves the board, or the boards

-- As the rules say: an ending that is found before the board is used leaves it unchanged, and a refusal only reads it.
abbrev pub ActsAs : VerbEnding → (same looked acted : Type 0) → Type 0
ActsAs (Before end) same looked acted = same
ActsAs (Reading end) same looked acted = looked
ActsAs (Acting outcome) same looked acted = acted

-- the ending is found after the boards were counted
abbrev pub NeedsInput : VerbEnding → Type 0
NeedsInput (Before (ends.NoBoard need have)) = ⊥
NeedsInput ending = Unit {0}

-- the ending is found after the board was looked at
abbrev pub NeedsBoard : VerbEnding → Type 0
NeedsBoard (Before end) = ⊥
NeedsBoard ending = Unit {0}

-- A verb ends as the rules say. Out of memory may be returned at any time, and a fault of the outside only once the verb has
-- reached it. If the board stopped, `halted` says what it holds.
abbrev pub EndsAs : Outcome → VerbEnding → (same looked acted halted : Type 0) → Type 0
EndsAs (Err ends.Memory) ending same looked acted halted = looked ⊎ ActsAs ending same looked acted
EndsAs (Err ends.ReadFault) ending same looked acted halted = NeedsInput ending × same
EndsAs (Err ends.FlashFault) ending same looked acted halted = NeedsBoard ending × halted
EndsAs outcome ending same looked acted halted = (outcome ≡ outcome_of ending) × ActsAs ending same looked acted

-- ---- outcomes

-- ---- the rule of a verb

-- What the rules say of a verb. `chips` are the stores that the board may stand for, with None if it is not a volume. How the
-- verb ends, what it does to the board, and what it may leave if it is stopped depend on them.
pub record VerbRule : Type 1 where
  pub chips : Option Store → Type 0
  pub ending : Option Store → VerbEnding
  pub acted : Option Store → Device → Device → Type 0
  pub halted : Option Store → Device → Device → Type 0

abbrev pub verb_rule : (chips : Option Store → Type 0) (ending : Option Store → VerbEnding)
    (acted halted : Option Store → Device → Device → Type 0) → VerbRule
verb_rule chips ending acted halted = record { chips = chips; ending = ending; acted = acted; halted = halted }

-- ---- the boards

abbrev pub AtFirst : (Device → Device → Type 0) → List Device → List Device → Type 0
AtFirst P old new = (a b : Device) → slice_get old 0 ≡ Some a → slice_get new 0 ≡ Some b → P a b

-- the board is stopped, and why
pub record IsBoardStopped (a b : Device) : Type 0 where
  pub stopped : b.stopped ≡ true
  pub cause : (a.stopped ≡ true) ⊎ Rose a.faults b.faults

-- What an outcome shows, whatever the board may stand for: that this was found, that the board stopped, that a read failed, or
-- that the boards are unchanged. A verb over one board has no script, no profile and no link, and its one write comes last.
abbrev pub OutcomeShows : Outcome → (found stopped read_failed same : Type 0) → Type 0
OutcomeShows (Ok text) found stopped read_failed same = found
OutcomeShows (Err ends.NotAVolume) found stopped read_failed same = found
OutcomeShows (Err ends.NoImage) found stopped read_failed same = found
OutcomeShows (Err (ends.Refused cause)) found stopped read_failed same = found
OutcomeShows (Err ends.FlashFault) found stopped read_failed same = stopped
OutcomeShows (Err ends.ReadFault) found stopped read_failed same = read_failed × same
OutcomeShows (Err ends.TooLong) found stopped read_failed same = same
OutcomeShows (Err (ends.BadHex fault)) found stopped read_failed same = same
OutcomeShows (Err (ends.NoBoard need have)) found stopped read_failed same = same
OutcomeShows (Err ends.Memory) found stopped read_failed same = Unit {0}
OutcomeShows outcome found stopped read_failed same = ⊥

-- What a verb with this rule did over boards. `read_failed` says that a read of the input failed.
pub record OnBoards (outcome : Outcome) (rule : VerbRule) (read_failed : Type 0) (old new : List Device) : Type 0 where
  pub rules : (chip : Option Store) → rule.chips chip
      → EndsAs outcome (if nat_lt 0 (length old) then rule.ending chip else Before (ends.NoBoard 1 0)) (new ≡ old)
      (AtFirst Looked old new) (AtFirst (rule.acted chip) old new) (AtFirst (rule.halted chip) old new)
  pub shows : OutcomeShows outcome ((c : Option Store) × rule.chips c) (AtFirst IsBoardStopped old new) read_failed (new ≡ old)
  -- no board but the first was used
  pub count : length new ≡ length old
  pub others : drop 1 new ≡ drop 1 old

-- ---- the input

-- These bytes of the input were taken: all, or one byte past those that are used, unless memory ran out or a read failed. A verb
-- without a board reads nothing.
pub record InputRead (outcome : Outcome) (boards : ℕ) (bytes : List ℕ) (a b : InputState) : Type 0 where
  pub taken : Takes a.left b.left bytes
  pub few_bytes : length bytes ≤ most_input + 1
  pub unread : boards ≡ 0 → bytes ≡ []
  pub to_end : 0 < boards → outcome ≢ Err ends.Memory → outcome ≢ Err ends.ReadFault
      → AtEnd b.left ⊎ (most_input < length bytes)
  -- a read that fails is always reported
  pub read_faults : outcome ≢ Err ends.ReadFault → b.reads ≡ a.reads

-- What a verb whose rule depends on the bytes of the input did over boards.
pub record FedBoards (outcome : Outcome) (rule : List ℕ → VerbRule) (a b : InputState) (old new : List Device) : Type 0 where
  pub bytes : List ℕ
  pub read : InputRead outcome (length old) bytes a b
  pub did : OnBoards outcome (rule bytes) (Rose a.reads b.reads) old new

-- ---- a verb

-- one that reads no input
abbrev pub FirstDone : Status → VerbRule → Outside → Outside → Type 0
FirstDone status rule a b = CommandEnds status (λ outcome. OnBoards outcome rule ⊥ a.boards b.boards × (b.input ≡ a.input)) a b

-- one whose rule depends on the bytes of the input
abbrev pub InputDone : Status → (List ℕ → VerbRule) → Outside → Outside → Type 0
InputDone status rule a b = CommandEnds status (λ outcome. FedBoards outcome rule a.input b.input a.boards b.boards) a b

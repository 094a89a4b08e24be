-- What the verbs of chained images did (docs/COMMANDS.md, "Hash-chained images").
use Rattle.std.specs.Prelude.{◌≡◌, ℕ, List, Err}
use Rattle.dg_words.specs.Counts.{Rose}
use Rattle.dg_base.specs.Outside.{Puts}
use Rattle.dg_base.specs.declared.answers.Status.{Status}
use Rattle.dg_base.specs.declared.answers.Status.TheVariants.{Done, Memory, WriteFault, FlashFault}
use Rattle.dg_nor.specs.Device.{Device}
use Rattle.dg_object.specs.Object.{Row, row_of}
use Rattle.dg_volume.specs.Changes.{inject_refusal}
use Rattle.dg_outside.specs.Outside.{Outside, InputState, OutputState}
use Rattle.dg_end.specs.Lines.{Outcome}
use Rattle.dg_end.specs.Writes.{CommandEnds}
use Rattle.dg_end.specs.declared.ends.End.TheVariants as ends
use Rattle.dg_tool.specs.Endings.{VerbEnding, outcome_of, by_input, content_in}
use Rattle.dg_tool.specs.Done.{VerbRule, InputRead, InputDone}
use Rattle.dg_tool.specs.Agreement.{HasNewRow, KeepsAgreement}
use Rattle.dg_tool.specs.Rules.{trail_rule, image_rule}
use Rattle.dg_chain_tool.specs.Receiving.{foreign_in, receive_trail}
use Rattle.dg_chain_tool.specs.Verbs.{wrap_by, receive_ending, chain_text}

-- a verb that uses no board ends by its rules; out of memory may be returned at any time
abbrev pub TextComes : Outcome → VerbEnding → (read_failed : Type 0) → Type 0
TextComes (Err ends.Memory) ending read_failed = Unit {0}
TextComes (Err ends.ReadFault) ending read_failed = read_failed
TextComes outcome ending read_failed = outcome ≡ outcome_of ending

-- the same of one that depends on the bytes of its input
pub record FedText (outcome : Outcome) (next : List ℕ → VerbEnding) (a b : InputState) : Type 0 where
  pub bytes : List ℕ
  pub read : InputRead outcome 1 bytes a b
  pub comes : TextComes outcome (by_input bytes next) (Rose a.reads b.reads)

abbrev pub WrapDone : Status → Outside → Outside → Type 0
WrapDone status a b = CommandEnds status (λ outcome. FedText outcome wrap_by a.input b.input × (b.boards ≡ a.boards)) a b

-- `row` is the image with its bytes
abbrev pub receive_rule : List Device → (root : List ℕ) → (row : List ℕ → Row) → (input : List ℕ) → VerbRule
receive_rule boards root row =
    image_rule (λ bytes. trail_rule boards
    (λ s. receive_ending (row bytes) (inject_refusal s (row bytes)) (foreign_in root s (row bytes)))
    (λ s. receive_trail root s (row bytes)))

-- The table has the row of the image that was received, unless that was refused as an injection is.
pub record ReceiveDone (image version : ℕ) (name root : List ℕ) (status : Status) (a b : Outside) : Type 0 where
  pub done : InputDone status (receive_rule a.boards root (row_of image version name)) a b
  pub agrees : KeepsAgreement (HasNewRow (row_of image version name (content_in done.allowed.bytes))) a.boards b.boards

-- it is reported that the pages are those of a payload of this length, unless memory ran out or the outside failed
abbrev pub TellsLength : Status → ℕ → OutputState → OutputState → Type 0
TellsLength Done n a b = Puts a.written b.written (chain_text n)
TellsLength Memory n a b = Unit {0}
TellsLength WriteFault n a b = Unit {0}
TellsLength FlashFault n a b = Unit {0}
TellsLength status n a b = ⊥

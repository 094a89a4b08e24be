-- Words of the inner functions: one board, and the outcome of a call on it.
use Rattle.std.specs.Prelude.{◌≡◌, Option, Ok, Err, Result}
use Rattle.dg_nor.specs.Device.{Device}
use Rattle.dg_nor.specs.Reads.{Looked, ReadStopped}
use Rattle.dg_volume.specs.Store.{Store}
use Rattle.dg_end.specs.Lines.{Outcome}
use Rattle.dg_end.specs.declared.ends.End.{End}
use Rattle.dg_end.specs.declared.ends.End.TheVariants as ends
use Rattle.dg_tool.specs.Endings.{VerbEnding}
use Rattle.dg_tool.specs.Done.{VerbRule, EndsAs, IsBoardStopped}

-- it was found before the board was used
abbrev pub IsBefore : Outcome → Type 0
IsBefore (Err ends.ReadFault) = Unit {0}
IsBefore (Err ends.TooLong) = Unit {0}
IsBefore (Err (ends.BadHex fault)) = Unit {0}
IsBefore (Err (ends.NoBoard need have)) = Unit {0}
IsBefore outcome = ⊥

-- what the board stands for was found
abbrev pub IsFound : Outcome → Type 0
IsFound (Ok text) = Unit {0}
IsFound (Err ends.NotAVolume) = Unit {0}
IsFound (Err ends.NoImage) = Unit {0}
IsFound (Err (ends.Refused cause)) = Unit {0}
IsFound outcome = ⊥

-- a verb over one board has no script, no profile and no link, and its one write comes last
abbrev pub IsOfVerb : Outcome → Type 0
IsOfVerb (Err ends.WriteFault) = ⊥
IsOfVerb (Err ends.LinkFault) = ⊥
IsOfVerb (Err ends.TooMany) = ⊥
IsOfVerb (Err (ends.BadLine number fault)) = ⊥
IsOfVerb (Err (ends.BadProfile fault)) = ⊥
IsOfVerb outcome = Unit {0}

-- reads of a board that is a volume
abbrev pub ReadsOn : {T : Type 0} → Result T End → Device → Device → Type 0
ReadsOn (Ok x) a b = Looked a b
ReadsOn (Err ends.Memory) a b = Looked a b
ReadsOn (Err ends.FlashFault) a b = ReadStopped a b
ReadsOn (Err end) a b = ⊥

-- what a verb with this outcome did on a board that stood for a store, if it ends so by the rules
pub record OnStore (outcome : Outcome) (ending : VerbEnding) (acted halted : Device → Device → Type 0) (a b : Device)
    : Type 0 where
  pub rules : EndsAs outcome ending (b ≡ a) (Looked a b) (acted a b) (halted a b)
  pub stops : outcome ≡ Err ends.FlashFault → IsBoardStopped a b
  pub of_verb : IsOfVerb outcome
  pub on_board : IsBefore outcome → ⊥

-- what a verb with this rule did on a board
pub record OnBoard (outcome : Outcome) (rule : VerbRule) (a b : Device) : Type 0 where
  pub rules : (chip : Option Store) → rule.chips chip
      → EndsAs outcome (rule.ending chip) (b ≡ a) (Looked a b) (rule.acted chip a b) (rule.halted chip a b)
  pub found : IsFound outcome → (chip : Option Store) × rule.chips chip
  pub stops : outcome ≡ Err ends.FlashFault → IsBoardStopped a b
  pub of_verb : IsOfVerb outcome
  pub on_board : IsBefore outcome → ⊥

-- How a verb over the first board ends by the rules (docs/COMMANDS.md, "Over one chip").
use Rattle.std.specs.Prelude.{ℕ, nat_lt, if◌then◌else◌, List, [], ◌∷◌, length, Option, Some, None, unwrap_or, Result, Ok, Err}
use Rattle.std.specs.Result.{result_ok}
use Rattle.dg_base.specs.Sizes.{most_input}
use Rattle.dg_ihex.specs.Files.{hex_file}
use Rattle.dg_ihex.specs.declared.faults.HexFileFault.{HexFileFault}
use Rattle.dg_nor.specs.Device.{Device}
use Rattle.dg_control.specs.Store.{HasForm}
use Rattle.dg_volume.specs.Store.{Store}
use Rattle.dg_volume.specs.Stands.{Stands, IsVolume, IsNoVolume}
use Rattle.dg_end.specs.Lines.{Outcome}
use Rattle.dg_end.specs.declared.ends.End.{End}
use Rattle.dg_end.specs.declared.ends.End.TheVariants as ends

-- how a verb ends, by when that is found
pub data VerbEnding : Type 0 where
  -- before the board is used
  Before : (end : End) → VerbEnding
  -- once the board was read
  Reading : (end : End) → VerbEnding
  -- once what was asked for was done, as far as it could be
  Acting : (outcome : Outcome) → VerbEnding

abbrev pub outcome_of : VerbEnding → Outcome
outcome_of (Before end) = Err end
outcome_of (Reading end) = Err end
outcome_of (Acting outcome) = outcome

-- ---- the order of causes: the board that is there, the input, and then what the board holds

abbrev pub by_file : Result (List ℕ) HexFileFault → (List ℕ → VerbEnding) → VerbEnding
by_file (Ok image) next = next image
by_file (Err fault) next = Before (ends.BadHex fault)

-- At most 16,777,216 bytes of an input are used. A longer one ends a verb whatever its lines are.
abbrev pub by_input : List ℕ → (List ℕ → VerbEnding) → VerbEnding
by_input input next = if nat_lt most_input (length input) then Before ends.TooLong else by_file (hex_file input) next

abbrev pub by_store : Option Store → (Store → VerbEnding) → VerbEnding
by_store None next = Reading ends.NotAVolume
by_store (Some s) next = next s

-- ---- what is given

-- the image of a HEX file, nothing if it is not one
abbrev pub content_in : List ℕ → List ℕ
content_in input = unwrap_or (result_ok (hex_file input)) []

-- what the bytes of a chip stand for, None if they are not a volume
abbrev pub StandsAs : List ℕ → Option Store → Type 0
StandsAs image None = IsNoVolume image
StandsAs image (Some s) = Stands image s

-- what the first board stands for, if there is one
abbrev pub FirstAs : List Device → Option Store → Type 0
FirstAs [] chip = Unit {0}
FirstAs (board ∷ boards) chip = StandsAs board.image chip

-- where the first board is a volume, its last commit is written in this form
abbrev pub FirstInForm : ℕ → List Device → Type 0
FirstInForm form [] = Unit {0}
FirstInForm form (board ∷ boards) = IsVolume board.image → HasForm board.image form

-- Whole scripts: their lines, or the first fault with the number of its line (docs/SCRIPTS.md, "The script").
use Rattle.std.specs.Prelude.{ℕ, ◌+◌, Bool, true, false, List, [], ◌∷◌, Option, Some, None, option_map, Result, Ok, Err}
use Rattle.dg_script.specs.Lines.{line_of}
use Rattle.dg_script.specs.Places.{place_after, fault_at_end}
use Rattle.dg_script.specs.declared.fault.LineFault.{LineFault}
use Rattle.dg_script.specs.declared.line.Line.{Line}
use Rattle.dg_script.specs.declared.place.Place.{Place}

-- a script: its lines, and the number and the fault of the first line that has one
pub record Script : Type 0 where
  pub lines : List Line
  pub fault : Option (ℕ × LineFault)

-- A script that ends before its second line, or after a cut that waits for its event, has its fault in the line after its last.
-- If its input is cut off, it is not known whether it ends.
abbrev pub end_fault : Bool → Place → ℕ → Option (ℕ × LineFault)
end_fault false place n = None
end_fault true place n = option_map (λ fault. (n, fault)) (fault_at_end place)

abbrev pub with_line : Result Line LineFault → (Line → Script) → ℕ → Script
with_line (Err fault) rest n = record { lines = []; fault = Some (n, fault) }
with_line (Ok line) rest n = record { lines = line ∷ (rest line).lines; fault = (rest line).fault }

-- the script that these texts spell, of which the first has number n and stands at this place
unfoldable pub script_from : Bool → Place → ℕ → List (List ℕ) → Script
script_from ends place n [] = record { lines = []; fault = end_fault ends place n }
script_from ends place n (text ∷ texts) =
    with_line (line_of place text) (λ line. script_from ends (place_after place line) (n + 1) texts) n

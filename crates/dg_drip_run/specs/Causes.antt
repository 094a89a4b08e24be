-- How a script of nodes ends by the rules, from its bytes alone (docs/SCRIPTS.md, "Scripts of nodes").
use Rattle.std.specs.Prelude.{◌≡◌, ◌⊎◌, ℕ, ◌+◌, ◌<◌, ◌≤◌, ◌==◌, nat_lt, Bool, true, false, if◌then◌else◌}
use Rattle.std.specs.Prelude.{List, [], ◌∷◌, ◌++◌, length, take, Some, Result, Ok, Err}
use Rattle.std.specs.List.{slice_split}
use Rattle.std.specs.Str.Lines.{lines, strip_carriage_return}
use Rattle.dg_words.specs.Counts.{Rose}
use Rattle.dg_base.specs.Outside.{AtEnd}
use Rattle.dg_base.specs.declared.answers.Status.{Status}
use Rattle.dg_base.specs.declared.answers.Status.TheVariants.{Done, Memory, ReadFault, WriteFault}
use Rattle.dg_script.specs.declared.fault.LineFault.TheVariants as fault
use Rattle.dg_outside.specs.Outside.{Outside}
use Rattle.dg_end.specs.Lines.{outcome_status}
use Rattle.dg_end.specs.declared.ends.End.{End}
use Rattle.dg_end.specs.declared.ends.End.TheVariants as ends
use Rattle.dg_drip_script.specs.Lines.{drip_line_of, line_fault}
use Rattle.dg_drip_script.specs.Scripts.{DripScript, first_script, drip_script_of, standing_of, with_drip_line}
use Rattle.dg_drip_script.specs.Sizes.{most_events, most_used_bytes}
use Rattle.dg_drip_script.specs.declared.line.DripLine.{DripLine}
use Rattle.dg_drip_script.specs.declared.line.DripFault.{DripFault}
use Rattle.dg_drip_run.specs.Dripped.{Dripped}

-- the texts of the lines that end in LF, of the parts between the LFs: what comes after the last LF is not one
abbrev pub ended_parts : List (List ℕ) → List (List ℕ)
ended_parts [] = []
ended_parts (x ∷ []) = []
ended_parts (x ∷ y ∷ more) = strip_carriage_return x ∷ ended_parts (y ∷ more)

abbrev pub ended_lines : List ℕ → List (List ℕ)
ended_lines bytes = ended_parts (slice_split (λ b. b == 10) bytes)

-- the texts of the lines that are used: all, or, of an input that is too long, those that end within its limit
unfoldable pub lines_within : (most : ℕ) → (over : Bool) → List ℕ → List (List ℕ)
lines_within most true input = ended_lines (take most input)
lines_within most false input = lines input

-- how a script ends after all lines that are used
abbrev pub ending_behind : (over : Bool) → DripScript → (number : ℕ) → Result (Unit {0}) End
ending_behind true s number = Err ends.TooLong
ending_behind false s number = if s.nodes == 0 then Err (ends.BadLine number fault.Place) else Ok (tt {0})

-- a line with a fault ends a script, and so does one that brings it more than a million events
abbrev pub ending_by_line : Result DripLine DripFault → DripScript → (number : ℕ)
    → (DripScript → Result (Unit {0}) End) → Result (Unit {0}) End
ending_by_line (Err f) s number go = Err (ends.BadLine number (line_fault f))
ending_by_line (Ok line) s number go =
    let t = with_drip_line s line in if nat_lt most_events (length t.items) then Err ends.TooMany else go t

-- the ending by the first line that ends the script, or by its end if no line does
unfoldable pub ending_by_lines : (over : Bool) → DripScript → (number : ℕ) → List (List ℕ) → Result (Unit {0}) End
ending_by_lines over s number [] = ending_behind over s number
ending_by_lines over s number (text ∷ texts) =
    ending_by_line (drip_line_of (standing_of s) text) s number (λ t. ending_by_lines over t (number + 1) texts)

-- the ending of an input
unfoldable pub drip_ending_of : List ℕ → Result (Unit {0}) End
drip_ending_of input =
    let over = nat_lt most_used_bytes (length input) in
    ending_by_lines over first_script 1 (lines_within most_used_bytes over input)

-- The status is the one that the rules give. `Memory` may be returned at any time, and a fault of the outside has raised its
-- count.
abbrev pub IsDripCaused : Status → Result (Unit {0}) End → (read_failed write_failed : Type 0) → Type 0
IsDripCaused Memory ending r w = Unit {0}
IsDripCaused ReadFault ending r w = r
IsDripCaused WriteFault ending r w = w
IsDripCaused status ending r w = status ≡ outcome_status ending

-- An input is in its grammar and limits.
pub record InDripLimits (input : List ℕ) : Type 0 where
  pub bytes : length input ≤ most_used_bytes
  pub script : DripScript
  pub says : drip_script_of (lines input) ≡ Some script
  pub nodes : 0 < script.nodes
  pub events : length script.items ≤ most_events

-- Each status comes where the rules say.
pub record DripEnds (status : Status) (a b : Outside) : Type 0 where
  -- whatever comes after the bytes that were taken, where the input is not at its end
  pub caused : (x : Dripped status a b) (more : List ℕ) → (AtEnd b.input.left → more ≡ [])
      → IsDripCaused status (drip_ending_of (x.came.input ++ more)) (Rose a.input.reads b.input.reads)
      (Rose a.output.writes b.output.writes)
  -- so if the source exposes its bytes, it is the ending of all of them
  pub told : (bytes : List ℕ) → a.input.left ≡ Some bytes
      → IsDripCaused status (drip_ending_of bytes) (Rose a.input.reads b.input.reads) (Rose a.output.writes b.output.writes)
  -- and a script in its grammar and limits is replayed to its end, where no read and no write fails, unless memory runs out
  pub complete : (bytes : List ℕ) → a.input.left ≡ Some bytes → InDripLimits bytes → (Rose a.input.reads b.input.reads → ⊥)
      → (Rose a.output.writes b.output.writes → ⊥) → (status ≡ Done) ⊎ (status ≡ Memory)

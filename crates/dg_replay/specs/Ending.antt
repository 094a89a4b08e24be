-- How the rules say that a script ends, by its bytes and the number of boards alone (docs/PROMISES.md, "How it ends").
use Rattle.std.specs.Prelude.{◌≡◌, ℕ, ◌≤◌, ◌==◌, nat_lt, Bool, true, false, not, if◌then◌else◌, List, [], ◌∷◌, ◌++◌, length, take}
use Rattle.std.specs.Prelude.{codes, Option, Some, None}
use Rattle.std.specs.Fmt.{decimal}
use Rattle.std.specs.Str.Lines.{lines}
use Rattle.dg_base.specs.declared.answers.Status.{Status}
use Rattle.dg_base.specs.declared.answers.Status.TheVariants.{Done, BadInput, TooLong, TooMany, NoBoard}
use Rattle.dg_script.specs.Faults.{fault_name}
use Rattle.dg_script.specs.Places.{first_place}
use Rattle.dg_script.specs.Sizes.{most_used_bytes}
use Rattle.dg_script.specs.Script.{Script, script_from}
use Rattle.dg_script.specs.declared.line.Line.{Line}
use Rattle.dg_script.specs.declared.fault.LineFault.{LineFault}
use Rattle.dg_rules.specs.Sizes.{most_events}
use Rattle.dg_script.specs.Items.{Item, items_of}
use Rattle.dg_replay.specs.Items.{lacking, events_among}

-- the byte, and the bytes up to the last LF after it, or nothing if there is no LF
abbrev pub up_to : ℕ → List ℕ → List ℕ
up_to c [] = if c == 10 then c ∷ [] else []
up_to c (d ∷ ds) = c ∷ d ∷ ds

-- the bytes up to and including the last LF
unfoldable pub whole_lines : List ℕ → List ℕ
whole_lines [] = []
whole_lines (c ∷ cs) = up_to c (whole_lines cs)

-- an input has more bytes than the 16,777,216 that are used
abbrev pub has_unused_bytes : List ℕ → Bool
has_unused_bytes input = nat_lt most_used_bytes (length input)

-- the bytes that are used: all, or if there are more, the lines that end within the first 16,777,216
abbrev pub used : List ℕ → List ℕ
used input = if has_unused_bytes input then whole_lines (take most_used_bytes input) else input

-- the script that an input spells
unfoldable pub script_of : List ℕ → Script
script_of input = script_from (not (has_unused_bytes input)) first_place 1 (lines (used input))

-- how a script ends
pub data Ending : Type 0 where
  Ends : Ending
  NoBoards : (motes boards : ℕ) → Ending
  TooManyEvents : Ending
  FaultAt : (line : ℕ) (fault : LineFault) → Ending
  Over : Ending

-- how many events lines give
abbrev pub events_in : List Line → ℕ
events_in lines = events_among (items_of lines)

abbrev pub by_fault : Bool → Option (ℕ × LineFault) → Ending
by_fault over (Some at) = FaultAt at.0 at.1
by_fault true None = Over
by_fault false None = Ends

abbrev pub by_boards : Option ℕ → ℕ → Ending → Ending
by_boards None boards other = other
by_boards (Some motes) boards other = NoBoards motes boards

-- A script with more motes than there are boards ends at its `motes` line. Otherwise it ends at the event after 1,000,000,
-- otherwise at its first fault, and otherwise by its length if its input is too long.
abbrev pub ending_from : ℕ → Bool → Script → Ending
ending_from boards over script =
    by_boards (lacking boards script.lines) boards
    (if nat_lt most_events (events_in script.lines) then TooManyEvents else by_fault over script.fault)

abbrev pub ending_of : ℕ → List ℕ → Ending
ending_of boards input = ending_from boards (has_unused_bytes input) (script_of input)

-- What was done does not go past the ending: there are boards for the motes of these lines,
-- and no more than a million events among these items.
pub record InBounds (boards : ℕ) (done : List Line) (items : List Item) : Type 0 where
  pub boards_enough : lacking boards done ≡ None
  pub few_events : events_among items ≤ most_events

-- An input is in its grammar and limits, and there are boards for its motes.
pub record InLimits (boards : ℕ) (input : List ℕ) : Type 0 where
  pub bytes : length input ≤ most_used_bytes
  pub grammar : (script_of input).fault ≡ None
  pub events : events_in (script_of input).lines ≤ most_events
  pub boards_enough : lacking boards (script_of input).lines ≡ None

-- the status of an ending
abbrev pub ending_status : Ending → Status
ending_status Ends = Done
ending_status (NoBoards motes boards) = NoBoard
ending_status TooManyEvents = TooMany
ending_status (FaultAt line fault) = BadInput
ending_status Over = TooLong

-- the last line of an ending, empty if it has none
abbrev pub ending_line : Ending → List ℕ
ending_line Ends = []
ending_line (NoBoards motes boards) = codes "noboard " ++ decimal motes ++ 32 ∷ decimal boards ++ 10 ∷ []
ending_line TooManyEvents = codes "toomany" ++ 10 ∷ []
ending_line (FaultAt line fault) = codes "line " ++ decimal line ++ 32 ∷ fault_name fault ++ 10 ∷ []
ending_line Over = codes "toolong" ++ 10 ∷ []

-- The trace of a service: a script that records what happened (docs/COMMANDS.md, "Serve").
use Rattle.std.specs.Prelude.{◌≡◌, ℕ, true, List, [], ◌∷◌, ◌++◌, map, take, None}
use Rattle.std.specs.List.{flat_map}
use Rattle.std.specs.Str.Lines.{lines}
use Rattle.dg_base.specs.declared.events.Event.{Event}
use Rattle.dg_script.specs.Places.{first_place}
use Rattle.dg_script.specs.Script.{script_from}
use Rattle.dg_script.specs.Spelling.{line_text}
use Rattle.dg_script.specs.declared.line.Line.{Line}
use Rattle.dg_script.specs.declared.line.Line.TheVariants.{Motes, Boards, Link, Happens as EventLine}
use Rattle.dg_netcfg.specs.declared.profile.NetProfile.{NetProfile}

-- the first lines
abbrev pub head_lines : NetProfile → List Line
head_lines p = Motes p.motes ∷ Boards ∷ map (λ l. Link l.0 l.1) p.links

-- lines as they are written, each with its line end
abbrev pub lines_text : List Line → List ℕ
lines_text ls = flat_map (λ l. line_text l ++ 10 ∷ []) ls

abbrev pub trace : NetProfile → List Event → List ℕ
trace p events = lines_text (head_lines p) ++ lines_text (map EventLine events)

-- After this head the lines of all events but the last were written, and a prefix of the line of the last event.
pub record UnwrittenLast (head : List ℕ) (events : List Event) (text : List ℕ) : Type 0 where
  pub written : List Event
  pub event : Event
  pub events_are : events ≡ written ++ event ∷ []
  pub n : ℕ
  pub text_is : text ≡ head ++ lines_text (map EventLine written) ++ take n (lines_text (EventLine event ∷ []))

-- the lines of the script that records events
abbrev pub trace_lines : NetProfile → List Event → List Line
trace_lines p events = head_lines p ++ map EventLine events

-- the bytes are a script of these lines, whole and without a fault
abbrev pub IsScript : (bytes : List ℕ) → List Line → Type 0
IsScript bytes ls = script_from true first_place 1 (lines bytes) ≡ record { lines = ls; fault = None }

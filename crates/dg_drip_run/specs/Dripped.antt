-- What the replay of a script of nodes did (docs/SCRIPTS.md, "Scripts of nodes").
use Rattle.std.specs.Prelude.{◌≡◌, ◌⊎◌, ℕ, ◌+◌, ◌-◌, ◌<◌, ◌≤◌, List, [], ◌∷◌, ◌++◌, length, take, Option, Some, Ok, Err}
use Rattle.dg_words.specs.Counts.{Rose}
use Rattle.dg_base.specs.Outside.{Takes, Puts, PutsPrefix, AtEnd}
use Rattle.dg_base.specs.declared.answers.Status.{Status}
use Rattle.dg_lines.specs.LineReading.{IsLine, IsLastLine, HasNoEnd, most_kept}
use Rattle.dg_script.specs.declared.fault.LineFault.TheVariants as fault
use Rattle.dg_outside.specs.Outside.{InputState, OutputState, Outside}
use Rattle.dg_end.specs.Lines.{Outcome}
use Rattle.dg_end.specs.Writes.{WritesAnswer}
use Rattle.dg_end.specs.declared.ends.End.TheVariants as ends
use Rattle.dg_drip_script.specs.Lines.{drip_line_of, line_fault}
use Rattle.dg_drip_script.specs.Reports.{final_text}
use Rattle.dg_drip_script.specs.Scripts.{DripScript, drip_script_of, standing_of, network_of, report_of}
use Rattle.dg_drip_script.specs.Sizes.{most_events, most_used_bytes}
use Rattle.dg_drip_script.specs.declared.line.DripFault.{DripFault}

-- Bytes are these lines, one after the other. The last one may be without its end, where the input ends there.
abbrev pub AreLines : (texts : List (List ℕ)) → (bytes : List ℕ) → (ended : Type 0) → Type 0
AreLines [] bytes ended = bytes ≡ []
AreLines (text ∷ texts) bytes ended =
    (line rest : List ℕ) × (bytes ≡ line ++ rest)
    × (IsLine text line ⊎ (IsLastLine text line × (rest ≡ []) × (texts ≡ []) × ended)) × AreLines texts rest ended

-- the first events of a script, as many as are allowed
abbrev pub played : DripScript → DripScript
played s = record s { items = take most_events s.items }

-- Why a replay ends so: these lines, of this many bytes, said the script, and what is left of the bytes that were taken comes
-- next. A million events at most came before a line with a fault, before the end of the bytes that are used and before a read
-- that failed, and such a line ends within these bytes. Memory may run out, and a write fail, at any time.
abbrev pub DripEndsBy : Outcome → DripScript → (lines passed : ℕ) → (ahead : List ℕ) → (at_end read_failed : Type 0) → Type 0
DripEndsBy (Ok text) s lines passed ahead at_end r = (ahead ≡ []) × at_end × (0 < s.nodes) × (length s.items ≤ most_events)
    × (text ≡ final_text (network_of s) s.nodes (length s.items))
DripEndsBy (Err (ends.BadLine line f)) s lines passed ahead at_end r =
    (line ≡ lines + 1) × (length s.items ≤ most_events) × (((ahead ≡ []) × at_end × (s.nodes ≡ 0) × (f ≡ fault.Place))
    ⊎ ((text next rest : List ℕ) × (ahead ≡ next ++ rest) × (passed + length next ≤ most_used_bytes)
    × (IsLine text next ⊎ (IsLastLine text next × (rest ≡ []) × at_end))
    × ((g : DripFault) × (drip_line_of (standing_of s) text ≡ Err g) × (f ≡ line_fault g))))
DripEndsBy (Err ends.TooMany) s lines passed ahead at_end r = most_events < length s.items
DripEndsBy (Err ends.TooLong) s lines passed ahead at_end r =
    (length s.items ≤ most_events) × (passed + length ahead ≡ most_used_bytes + 1)
    × HasNoEnd (take (most_used_bytes - passed) ahead)
DripEndsBy (Err ends.ReadFault) s lines passed ahead at_end r =
    (length s.items ≤ most_events) × (passed + length ahead ≤ most_used_bytes) × HasNoEnd ahead × r
DripEndsBy (Err ends.Memory) s lines passed ahead at_end r = Unit {0}
DripEndsBy (Err ends.WriteFault) s lines passed ahead at_end r = Unit {0}
DripEndsBy (Err end) s lines passed ahead at_end r = ⊥

-- a report was written, or a prefix of it, since a write failed
abbrev pub DripReported : Outcome → (report : List ℕ) → OutputState → OutputState → Type 0
DripReported (Err ends.WriteFault) report a b = Rose a.writes b.writes × PutsPrefix a.written b.written report
DripReported outcome report a b = (b.writes ≡ a.writes) × Puts a.written b.written report

-- All that is reported of the lines before the last one that was played was written, and these have a million events at most.
-- The report of the last one was written too, unless that one ended the replay.
pub record AreTold (texts : List (List ℕ)) (before after : Option (List ℕ)) : Type 0 where
  pub first : List (List ℕ)
  pub last : (texts ≡ first) ⊎ ((text : List ℕ) × (texts ≡ first ++ text ∷ []))
  pub script : DripScript
  pub says : drip_script_of first ≡ Some script
  pub few : length script.items ≤ most_events
  pub more : List ℕ
  pub put : Puts before after (report_of script ++ more)

-- No more than one line and 300,002 bytes come after the lines that were played.
pub record FewAhead (ahead : List ℕ) : Type 0 where
  pub next : List ℕ
  pub rest : List ℕ
  pub parts : ahead ≡ next ++ rest
  -- with its LF or without it
  pub one : (before : List ℕ) × HasNoEnd before × ((next ≡ before) ⊎ (next ≡ before ++ 10 ∷ []))
  pub near : length rest ≤ most_kept

-- What was read, and what was written before the last write. The lines that were played said a script;
-- of a line that had too many events the first ones were played.
pub record DripCame (outcome : Outcome) (a b : InputState) (before after : OutputState) : Type 0 where
  pub input : List ℕ
  pub taken : Takes a.left b.left input
  -- no more than one byte past those that are used
  pub few : length input ≤ most_used_bytes + 1
  pub texts : List (List ℕ)
  pub given : List ℕ
  pub ahead : List ℕ
  pub parts : input ≡ given ++ ahead
  pub used : length given ≤ most_used_bytes
  pub lines : AreLines texts given (AtEnd b.left × (ahead ≡ []))
  pub script : DripScript
  pub says : drip_script_of texts ≡ Some script
  pub why : DripEndsBy outcome script (length texts) (length given) ahead (AtEnd b.left) (Rose a.reads b.reads)
  -- all that is reported of the events, unless a write failed
  pub reported : DripReported outcome (report_of (played script)) before after
  -- what is reported of a line was written before more than the next line and a reader's rest after it were taken
  pub told : AreTold texts before.written after.written
  pub near : FewAhead ahead

-- The last lines were written, or the last line of the end that the script came to, after all that was reported before.
pub record Dripped (status : Status) (a b : Outside) : Type 0 where
  pub outcome : Outcome
  pub between : OutputState
  pub came : DripCame outcome a.input b.input a.output between
  pub answered : WritesAnswer status outcome between b.output

-- How the lines of a script are read and played one after another: definitions for the inner functions.
use Rattle.std.specs.Prelude.{◌≡◌, ◌⊎◌, ℕ, ◌+◌, ◌<◌, ◌≤◌, Bool, true, false, List, [], ◌++◌, length, Result, Ok, Err, Some}
use Rattle.dg_words.specs.Counts.{Rose}
use Rattle.dg_base.specs.Outside.{Takes, Puts, PutsPrefix, AtEnd}
use Rattle.dg_lines.specs.LineReading.{Reading, HasNoEnd, FirstLine, Gives, IsAtEnd, IsTooLong, most_kept}
use Rattle.dg_script.specs.declared.fault.LineFault.TheVariants as fault
use Rattle.dg_outside.specs.Outside.{InputState, OutputState}
use Rattle.dg_end.specs.Lines.{Outcome}
use Rattle.dg_end.specs.declared.ends.End.{End}
use Rattle.dg_end.specs.declared.ends.End.TheVariants as ends
use Rattle.dg_drip_script.specs.Lines.{drip_line_of, line_fault}
use Rattle.dg_drip_script.specs.Reports.{final_text}
use Rattle.dg_drip_script.specs.Scripts.{DripScript, drip_script_of, standing_of, with_drip_line, network_of, report_of}
use Rattle.dg_drip_script.specs.Sizes.{most_events, most_used_bytes}
use Rattle.dg_drip_script.specs.declared.line.DripLine.{DripLine}
use Rattle.dg_drip_script.specs.declared.line.DripFault.{DripFault}
use Rattle.dg_drip_run.specs.Dripped.{AreLines, played, DripCame}
use Rattle.dg_drip_run.specs.inner.Playing.{PlayerStands}
use Rattle.dg_drip_run.specs.declared.player.Player.{Player}

-- ---- a line

-- these bytes are reported of a line after a script
abbrev pub TellsMore : (s t : DripScript) → (more : List ℕ) → Type 0
TellsMore s t more = report_of s ++ more ≡ report_of (played t)

-- how the replay ends in a line: memory ran out before its report, a write of that failed, or it brought too many events
abbrev pub DripLineStops : End → (s t : DripScript) → (a b : OutputState) → Type 0
DripLineStops ends.Memory s t a b = b ≡ a
DripLineStops ends.WriteFault s t a b =
    (more : List ℕ) × TellsMore s t more × PutsPrefix a.written b.written more × Rose a.writes b.writes
DripLineStops ends.TooMany s t a b =
    (more : List ℕ) × TellsMore s t more × Puts a.written b.written more × (b.writes ≡ a.writes) × (most_events < length t.items)
DripLineStops end s t a b = ⊥

-- a line was played and reported, or the replay ends in it
abbrev pub LineAnswer : Result (Unit {0}) End → (s t : DripScript) → Player → (a b : OutputState) → Type 0
LineAnswer (Ok done) s t q a b =
    ((before : List ℕ) × PlayerStands q t before) × ((more : List ℕ) × TellsMore s t more × Puts a.written b.written more)
LineAnswer (Err end) s t q a b = DripLineStops end s t a b

-- a line as it was read: its text and its number
pub record DripLineRead : Type 0 where
  pub text : List ℕ
  pub number : ℕ

-- a text was read as a line, which was played and reported; or the replay ends at it
abbrev pub DripTextAnswer : Result (Unit {0}) End → DripScript → DripLineRead → Player → (a b : OutputState) → Type 0
DripTextAnswer r s read q a b =
    ((line : DripLine) × (drip_line_of (standing_of s) read.text ≡ Ok line) × LineAnswer r s (with_drip_line s line) q a b)
    ⊎ ((f : DripFault) × (drip_line_of (standing_of s) read.text ≡ Err f)
    × (r ≡ Err (ends.BadLine read.number (line_fault f))) × (b ≡ a))

-- ---- lines that are read

-- a text was read after this many bytes, and ends the replay
pub record BadText (passed : ℕ) (bytes : List ℕ) (s : DripScript) (f : DripFault) (at_end : Type 0) : Type 0 where
  pub text : List ℕ
  pub rest : List ℕ
  pub first : FirstLine bytes at_end text rest
  pub used : passed + length bytes ≤ most_used_bytes
  pub near : length rest ≤ most_kept
  pub bad : drip_line_of (standing_of s) text ≡ Err f

-- where a replay stands: its reader, its player, its input and its output
pub record DripStage : Type 0 where
  pub reader : Reading
  pub player : Player
  pub input : InputState
  pub output : OutputState

abbrev pub drip_stage : Reading → Player → InputState → OutputState → DripStage
drip_stage reader player input output = record { reader = reader; player = player; input = input; output = output }

-- the replay ends before the next line of these bytes is played
abbrev pub NextStops : End → (bytes : List ℕ) → DripScript → (p q : DripStage) → Type 0
NextStops (ends.BadLine number f) bytes s p q =
    (g : DripFault) × (f ≡ line_fault g) × (number ≡ p.reader.number + 1) × BadText p.reader.passed bytes s g (AtEnd q.input.left)
NextStops ends.ReadFault bytes s p q =
    Rose p.input.reads q.input.reads × HasNoEnd bytes × (p.reader.passed + length bytes ≤ most_used_bytes)
NextStops ends.TooLong bytes s p q = IsTooLong bytes p.reader
NextStops end bytes s p q = ⊥

-- What reading and playing the next line of these bytes does.
abbrev pub NextPlays : Result Bool End → (bytes : List ℕ) → DripScript → (p q : DripStage) → Type 0
NextPlays (Ok true) bytes s p q =
    Gives bytes p.reader q.reader (AtEnd q.input.left)
    × ((line : DripLine) × (drip_line_of (standing_of s) q.reader.text ≡ Ok line)
    × LineAnswer (Ok tt) s (with_drip_line s line) q.player p.output q.output)
NextPlays (Ok false) bytes s p q =
    IsAtEnd bytes p.reader q.reader (AtEnd q.input.left) × (q.player ≡ p.player) × (q.output ≡ p.output)
NextPlays (Err end) bytes s p q =
    (Gives bytes p.reader q.reader (AtEnd q.input.left)
    × ((line : DripLine) × (drip_line_of (standing_of s) q.reader.text ≡ Ok line)
    × DripLineStops end s (with_drip_line s line) p.output q.output))
    ⊎ (NextStops end bytes s p q × (q.output ≡ p.output))

-- Lines were read, played and reported, and of the bytes that were taken these are left.
pub record LinesPlayed (ended : Type 0) (first : DripStage) (number : ℕ) (now : DripStage) : Type 0 where
  pub texts : List (List ℕ)
  pub given : List ℕ
  pub taken : Takes first.input.left now.input.left (given ++ now.reader.ahead)
  pub lines : AreLines texts given ended
  pub passed : now.reader.passed ≡ length given
  pub numbered : number ≡ length texts + 1
  pub counted : now.reader.number ≡ length texts
  pub few : length texts ≤ length given
  pub used : length given ≤ most_used_bytes
  pub script : DripScript
  pub says : drip_script_of texts ≡ Some script
  pub reported : List ℕ
  pub plays : PlayerStands now.player script reported
  pub put : Puts first.output.written now.output.written (report_of script)

-- what playing all lines of an input answers: the number of the line after the last
abbrev pub LinesAnswer : Result ℕ End → (first now : DripStage) → Type 0
LinesAnswer (Ok number) first now =
    (AtEnd now.input.left × (now.reader.ahead ≡ []))
    × LinesPlayed (AtEnd now.input.left × (now.reader.ahead ≡ [])) first number now
LinesAnswer (Err end) first now = DripCame (Err end) first.input now.input first.output now.output

-- how a script ends after its lines, of which `line` is the number of the next one
abbrev pub ScriptEnds : Outcome → DripScript → (line : ℕ) → Type 0
ScriptEnds (Ok text) s line = (0 < s.nodes) × (text ≡ final_text (network_of s) s.nodes (length s.items))
ScriptEnds (Err (ends.BadLine number f)) s line = (number ≡ line) × (f ≡ fault.Place) × (s.nodes ≡ 0)
ScriptEnds (Err ends.Memory) s line = Unit {0}
ScriptEnds (Err end) s line = ⊥

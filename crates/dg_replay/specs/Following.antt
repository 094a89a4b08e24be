-- The result of reading the next line and playing it (docs/ARCHITECTURE.md, "The way of a script line").
use Rattle.std.specs.Prelude.{◌≡◌, ℕ, ◌+◌, ◌≤◌, Bool, true, false, List, length, Result, Ok, Err}
use Rattle.dg_lines.specs.LineReading.{Reading, most_kept, most_used_bytes, HasNoEnd, FirstLine, Gives, IsAtEnd, IsTooLong}
use Rattle.dg_script.specs.declared.fault.LineFault.TheVariants as line_fault
use Rattle.dg_lines.specs.declared.line_reader.ReadStop.{ReadStop}
use Rattle.dg_lines.specs.declared.line_reader.ReadStop.TheVariants as read_stop
use Rattle.dg_replay.specs.Shown.{StaysSeen}
use Rattle.dg_replay.specs.Stages.{BytesTaken, ReplayState}
use Rattle.dg_replay.specs.declared.halt.Halt.{Halt}
use Rattle.dg_replay.specs.declared.halt.Halt.TheVariants.{ReadFault, TooLong, Stopped}
use Rattle.dg_replay.specs.declared.stop.Stop.{Stop}
use Rattle.dg_replay.specs.declared.stop.Stop.TheVariants.{BadInput}

-- The next line, with this text, was taken, and these bytes after it.
pub record LineTaken (bytes : List ℕ) (old : Reading) (at_end : Type 0) (text rest : List ℕ) : Type 0 where
  pub first : FirstLine bytes at_end text rest
  pub used : old.passed + length bytes ≤ most_used_bytes
  pub near : length rest ≤ most_kept

-- nothing was played and nothing written, and the state of the replay, which was a, is b
pub record AllAsBefore (a b : ReplayState) : Type 0 where
  pub player : b.player ≡ a.player
  pub boards : b.boards ≡ a.boards
  pub written : b.written ≡ a.written
  pub seen : StaysSeen a.saw b.saw

-- why a replay ends at a line that could not be read
abbrev pub HaltedAs : ReadStop → Halt → Type 0
HaltedAs read_stop.ReadFault halt = halt ≡ ReadFault
HaltedAs read_stop.TooLong halt = halt ≡ TooLong
HaltedAs (read_stop.Long line) halt = halt ≡ Stopped (BadInput line line_fault.Long)

-- a line that was given was played, and P holds of the result
abbrev pub GivenPlayed : Result Bool Halt → (P : Result (Unit {0}) Stop → Type 0) → Type 0
GivenPlayed (Ok true) P = P (Ok tt)
GivenPlayed (Ok false) P = ⊥
GivenPlayed (Err ReadFault) P = ⊥
GivenPlayed (Err TooLong) P = ⊥
GivenPlayed (Err (Stopped stop)) P = P (Err stop)

-- the result of reading and playing the next line, from the bytes that were there and those that came
abbrev pub NextPlayed : Result Bool Halt → (taken : BytesTaken) → (old new : Reading) → (read_failed nothing : Type 0)
    → (P : Result (Unit {0}) Stop → (text : List ℕ) → Type 0) → Type 0
NextPlayed (Ok true) taken old new failed nothing P = Gives taken.bytes old new taken.at_end × P (Ok tt) new.text
NextPlayed (Ok false) taken old new failed nothing P = IsAtEnd taken.bytes old new taken.at_end × nothing
NextPlayed (Err ReadFault) taken old new failed nothing P =
    failed × HasNoEnd taken.bytes × (old.passed + length taken.bytes ≤ most_used_bytes) × nothing
NextPlayed (Err TooLong) taken old new failed nothing P = IsTooLong taken.bytes old × nothing
NextPlayed (Err (Stopped stop)) taken old new failed nothing P =
    (text : List ℕ) × (rest : List ℕ) × LineTaken taken.bytes old taken.at_end text rest × P (Err stop) text

-- The state of a replay: what it is checked against, how far it came, the state outside, and what may have failed there
-- (docs/ARCHITECTURE.md, "The way of a script line").
use Rattle.std.specs.Prelude.{ℕ, List, Option}
use Rattle.dg_nor.specs.Device.{Device}
use Rattle.dg_object.specs.Object.{Row}
use Rattle.dg_rules.specs.World.{World}
use Rattle.dg_script.specs.declared.line.Line.{Line}
use Rattle.dg_replay.specs.Shown.{Saw}
use Rattle.dg_replay.specs.declared.player.Player.{Player}

-- What a replay is checked against: a table of images, and the boards as they were when it began.
pub record Baseline : Type 0 where
  pub table : List Row
  pub boards : List Device

abbrev pub based_on : (table : List Row) (boards : List Device) → Baseline
based_on table boards = record { table = table; boards = boards }

-- What was done so far: these lines, which lead to this world, None before the boards are used.
pub record DoneSoFar : Type 0 where
  pub lines : List Line
  pub world : Option World

abbrev pub done_so_far : (lines : List Line) (world : Option World) → DoneSoFar
done_so_far lines world = record { lines = lines; world = world }

-- What was reported and shown so far: the text that is reported of lines, and what a watcher saw.
pub record Told : Type 1 where
  pub text : List ℕ
  pub saw : Saw

abbrev pub told_so_far : (text : List ℕ) (saw : Saw) → Told
told_so_far text saw = record { text = text; saw = saw }

-- What is reported and shown of a line: the text that is reported of it, and what a watcher saw before it and after it.
pub record LineTold : Type 1 where
  pub text : List ℕ
  pub before : Saw
  pub after : Saw

abbrev pub line_told : (text : List ℕ) (before after : Saw) → LineTold
line_told text before after = record { text = text; before = before; after = after }

-- The boards, and what was reported and shown of lines so far.
pub record BoardsTold : Type 1 where
  pub boards : List Device
  pub told : Told

abbrev pub boards_told : (boards : List Device) (told : Told) → BoardsTold
boards_told boards told = record { boards = boards; told = told }

-- The state of a replay: its player, the boards, what was written, if the sink exposes it, and what a watcher saw.
pub record ReplayState : Type 1 where
  pub player : Player
  pub boards : List Device
  pub written : Option (List ℕ)
  pub saw : Saw

abbrev pub replay_state : (player : Player) (boards : List Device) (written : Option (List ℕ)) (saw : Saw) → ReplayState
replay_state player boards written saw = record { player = player; boards = boards; written = written; saw = saw }

-- The text of a line, and its number.
pub record LineRead : Type 0 where
  pub text : List ℕ
  pub number : ℕ

abbrev pub line_read : (text : List ℕ) (number : ℕ) → LineRead
line_read text number = record { text = text; number = number }

-- The boards when a replay began and now, what was written before and now, if the sink exposes it, and what a watcher saw before
-- and now.
pub record Span : Type 1 where
  pub initial : List Device
  pub now : List Device
  pub before : Option (List ℕ)
  pub after : Option (List ℕ)
  pub first : Saw
  pub saw : Saw

abbrev pub span : (initial now : List Device) (before after : Option (List ℕ)) (first saw : Saw) → Span
span initial now before after first saw = record {
  initial = initial;
  now = now;
  before = before;
  after = after;
  first = first;
  saw = saw;
}

-- from one state of a replay to another
abbrev pub span_between : (initial : List Device) (a b : ReplayState) → Span
span_between initial a b = span initial b.boards a.written b.written a.saw b.saw

-- Bytes that were taken of an input, and whether that is its end.
pub record BytesTaken : Type 1 where
  pub bytes : List ℕ
  pub at_end : Type 0

-- Whether a read failed, and whether a write failed.
pub record Failures : Type 1 where
  pub read : Type 0
  pub write : Type 0

abbrev pub failures : (read write : Type 0) → Failures
failures read write = record { read = read; write = write }

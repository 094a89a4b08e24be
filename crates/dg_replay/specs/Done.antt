-- All that is promised of a replay: what it did, how it ended, how it left the boards, and the headline (docs/PROMISES.md, "The
-- report and what it tells").
use Rattle.std.specs.Prelude.{◌≡◌, ◌≢◌, ◌⊎◌, ℕ, List, length, Some}
use Rattle.dg_words.specs.Counts.{Rose}
use Rattle.dg_base.specs.declared.answers.Status.{Status}
use Rattle.dg_base.specs.declared.answers.Status.TheVariants.{Done, Memory, Usage, NotAVolume, Refused, LinkFault, NoImage}
use Rattle.dg_object.specs.Object.{Row}
use Rattle.dg_world.specs.Boards.{BoardStopped}
use Rattle.dg_replay.specs.Items.{UsesBoards, motes_in}
use Rattle.dg_replay.specs.Ending.{InLimits, script_of}
use Rattle.dg_outside.specs.Outside.{Outside}
use Rattle.dg_replay.specs.Replayed.{Replayed, AreVolumes}
use Rattle.dg_replay.specs.Promised.{Headline}

-- These are all bytes of the source. They spell a script in its grammar and limits, there are boards for its motes, and no read,
-- no write and no such board failed.
pub record IsUnfailed (bytes : List ℕ) (a b : Outside) : Type 0 where
  pub told : a.input.left ≡ Some bytes
  pub limits : InLimits (length a.boards) bytes
  pub reads : Rose a.input.reads b.input.reads → ⊥
  pub writes : Rose a.output.writes b.output.writes → ⊥
  pub boards : BoardStopped (motes_in (script_of bytes).lines) a.boards b.boards → ⊥

-- Such a script is replayed to its end, unless memory runs out. The same holds of one that uses the boards as they are, if they
-- are volumes, except that a start may find no image on them.
pub record ReplaysAll (status : Status) (a b : Outside) : Type 0 where
  pub golden : (bytes : List ℕ) → IsUnfailed bytes a b → (UsesBoards (script_of bytes).lines → ⊥) → (status ≡ Done)
      ⊎ (status ≡ Memory)
  pub boards : (bytes : List ℕ) → IsUnfailed bytes a b → AreVolumes (motes_in (script_of bytes).lines) a.boards
      → (status ≡ Done) ⊎ ((status ≡ Memory) ⊎ ((status ≡ NoImage) × UsesBoards (script_of bytes).lines))

-- What a replay did, and how it ended.
pub record ReplayDone (status : Status) (a b : Outside) : Type 0 where
  -- The report is true, whatever frames are brought from outside: it is that of a run of the rules over the items of the script,
  -- and each status comes where the rules say. If a script uses the boards as they are, this holds whichever table they are
  -- checked against.
  pub replayed : (table : List Row) → Replayed table status a b
  -- what was played keeps all parts of the headline
  pub headline : (table : List Row) (x : Replayed table status a b) → Headline x.came
  pub complete : ReplaysAll status a b
  -- if a script does not use the boards as they are, they are formatted, so that they are volumes, and golden starts if nothing
  -- else does
  pub golden : (table : List Row) (x : Replayed table status a b) → (UsesBoards (script_of x.input).lines → ⊥)
      → (status ≢ NotAVolume) × (status ≢ NoImage)
  -- a replay refuses nothing but its script, and there is no link to a peer
  pub never : (status ≢ Usage) × (status ≢ Refused) × (status ≢ LinkFault)

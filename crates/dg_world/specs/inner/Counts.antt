-- How an event leaves its board.
use Rattle.std.specs.Prelude.{ℕ, Result, Ok, Err}
use Rattle.dg_nor.specs.Device.{Device, MadeMore}
use Rattle.dg_world.specs.Counts.{IsSteady}
use Rattle.dg_world.specs.inner.EventOutcomes.{Halt, Stopped, NotAVolume, NoImage}

-- the board goes on, unless it stopped
abbrev pub CountStays : {T : Type 0} → Result T Halt → Device → Device → Type 0
CountStays (Ok x) old new = IsSteady old new
CountStays (Err (Stopped before)) old new = Unit {0}
CountStays (Err NotAVolume) old new = IsSteady old new
CountStays (Err NoImage) old new = IsSteady old new

-- n programs and erases were made on the board, if it counts them, unless it stopped
abbrev pub MadeUnless : {T : Type 0} → Result T Halt → ℕ → Device → Device → Type 0
MadeUnless (Ok x) n old new = MadeMore n old.made new.made
MadeUnless (Err (Stopped before)) n old new = Unit {0}
MadeUnless (Err NotAVolume) n old new = MadeMore n old.made new.made
MadeUnless (Err NoImage) n old new = MadeMore n old.made new.made

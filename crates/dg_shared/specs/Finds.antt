-- The frame that an event is about, as it is looked up (docs/ARCHITECTURE.md, "The way of a script line").
use Rattle.std.specs.Prelude.{◌≡◌, ℕ, true, if◌then◌else◌}
use Rattle.dg_frame.specs.Grammar.{in_range}
use Rattle.dg_frame.specs.Spelling.{frame_of}
use Rattle.dg_rules.specs.World.{World as RuleWorld, site, store_at, linked, last_frame}
use Rattle.dg_rules.specs.Events.{Does, Refuses, hear_by, heard_last}
use Rattle.dg_script.specs.declared.report.Cause.TheVariants as cause
use Rattle.dg_shared.specs.declared.finding.Found.{Found}
use Rattle.dg_shared.specs.declared.finding.Found.TheVariants as found

-- the fields of a message that was found are in their ranges
abbrev pub IsRanged : Found → Type 0
IsRanged (found.Frame message) = in_range true message.now ≡ true
IsRanged (found.Nothing why) = Unit {0}

-- an event at mote m does this if the mote is on: it hears the frame that was found, or is refused
abbrev pub IsFound : Found → RuleWorld → (m now word : ℕ) → Does → Type 0
IsFound (found.Frame message) w m now word d =
    d ≡ hear_by w (store_at w m) (site w m).runs now word (frame_of message.now)
IsFound (found.Nothing why) w m now word d = d ≡ Refuses why

-- what a mote does that is on and is to hear the last frame of another one
abbrev pub last_heard : RuleWorld → (from to now word : ℕ) → Does
last_heard w from to now word =
    if linked w from to then heard_last w from to now word (last_frame w from) else Refuses cause.Link

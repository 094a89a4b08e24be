-- What a counter of frames is shown of an event: the world after it, with the frames that were sent.
use Rattle.std.specs.Prelude.{◌≡◌, ℕ, List, [], ◌∷◌, ◌++◌, option_map}
use Rattle.dg_nor.specs.Device.{Device}
use Rattle.dg_base.specs.declared.events.Event.{Event}
use Rattle.dg_rules.specs.World.{World as RuleWorld, Sent, frame_at}
use Rattle.dg_rules.specs.Past.{brought}
use Rattle.dg_rules.specs.Runs.{Played}
use Rattle.dg_script.specs.declared.report.Report.{Report}
use Rattle.dg_world.specs.Worlds.{IsWorld}
use Rattle.dg_world.specs.declared.world.World.{World}
use Rattle.dg_events.specs.Frames.{frames_sent}
use Rattle.dg_events.specs.FrameCounters.{HasFrames}
use Rattle.dg_events.specs.Noted.{IsEventPlayed}
use Rattle.dg_events.specs.declared.frame_counter.FrameCounter.{FrameCounter}

-- This event was played after these, with these lines reported of it, and left this world.
pub record IsShown (world : World) (e : Event) (lines : List Report) (past : List Played) (p : Played) : Type 0 where
  pub played : IsEventPlayed e lines p
  pub boards : List Device
  pub stands : IsWorld world boards p.after
  pub before : p.before.sent ≡ frames_sent past

-- the frames of this event were counted after those of the events before it
abbrev pub CountsFrames : (before after : FrameCounter) → World → Event → List Report → Type 0
CountsFrames before after world e lines =
    (past : List Played) (p : Played) → IsShown world e lines past p → HasFrames before past → HasFrames after (past ++ p ∷ [])

-- the frame that an event brings to its mote has this number
abbrev pub IsNumberOf : World → Event → ℕ → Type 0
IsNumberOf world e number =
    (boards : List Device) (w : RuleWorld) → IsWorld world boards w
    → brought w e ≡ option_map (λ (s : Sent). s.bytes) (frame_at w number)

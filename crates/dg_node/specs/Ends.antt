-- What an event of a node with a given effect (dg_mote/specs/Effects) does, by its answer.
use Rattle.std.specs.Prelude.{◌≡◌, ℕ, List, length, Option, Some, None, option_map, IfSome, Result, Ok, Err}
use Rattle.dg_nor.specs.Device.{Device, Ran}
use Rattle.dg_nor.specs.Trail.{operations, last}
use Rattle.dg_nor.specs.Reads.{Looked, ReadStopped, ActStopped}
use Rattle.dg_nor.specs.declared.device.Stopped.{Stopped as StoppedValue}
use Rattle.dg_slot.specs.Pages.{program}
use Rattle.dg_volume.specs.Stands.{Stands, IsVolume, IsNoVolume}
use Rattle.dg_volume.specs.Start.{Runs, runs_length, runs_crc}
use Rattle.dg_volume.specs.Acts.{Stops}
use Rattle.dg_frame.specs.Spelling.{frame_of}
use Rattle.dg_frame.specs.declared.Message.{Message}
use Rattle.dg_boot.specs.declared.BootFault.{BootFault}
use Rattle.dg_boot.specs.declared.BootFault.TheVariants as boot_fault
use Rattle.dg_mote.specs.Motes.{IsRead}
use Rattle.dg_mote.specs.Effects.{Effect}
use Rattle.dg_mote.specs.declared.mote.Heard.{Heard}
use Rattle.dg_node.specs.declared.node.Node.{Node}
use Rattle.dg_node.specs.declared.answers.Powered.{Powered}
use Rattle.dg_node.specs.declared.answers.StartedImage.{StartedImage}
use Rattle.dg_node.specs.declared.answers.TickFault.{TickFault}
use Rattle.dg_node.specs.declared.answers.TickFault.TheVariants as tick_fault
use Rattle.dg_node.specs.declared.answers.Ticked.{Ticked}
use Rattle.dg_node.specs.declared.answers.Ticked.TheVariants as ticked
use Rattle.dg_node.specs.Hosts.{Host}
use Rattle.dg_node.specs.Nodes.{NodeStands, node_runs, node_image, node_is_wide}

-- how an event ended
pub data NodeEnd : Type 0 where
  -- nothing was started, and nothing is sent
  Quiet : NodeEnd
  -- a frame is sent
  Sent : NodeEnd
  -- this was started
  Starts : (image : StartedImage) → NodeEnd
  Stopped : NodeEnd
  NotAVolume : NodeEnd
  NoImage : NodeEnd

-- The effect was done: the chip completed its trail, what runs afterwards is the effect's, what is sent is in the outbox,
-- and what was started is in program memory.
pub record EffectDone (e : Effect) (frame : Option (List ℕ)) (a b : Host) : Type 0 where
  pub ran : Ran (operations e.trail) a.board b.board
  pub stands : Stands b.board.image (last e.trail)
  pub runs : NodeStands b.board.image b.runs (last e.trail) (node_runs e.mote e.started (option_map node_image a.runs))
  pub sent : frame ≡ option_map frame_of e.sent
  -- a mote of the same width reads what is sent as its message
  pub read : IfSome e.sent (IsRead (node_is_wide a.runs))
  pub memory : IfSome e.started (λ r. program b.board.image (length r.pages) ≡ r.pages)

-- a start found no image
pub record FoundNoImage (e : Effect) (frame : Option (List ℕ)) (old new : Device) : Type 0 where
  pub none : e.mote ≡ None
  pub silent : e.sent ≡ None
  pub unsent : frame ≡ None
  pub ran : Ran (operations e.trail) old new
  pub stands : Stands new.image (last e.trail)

-- what is reported of a start
pub record IsStart (told : StartedImage) (r : Runs) : Type 0 where
  pub image : told.image_version.image ≡ r.image
  pub version : told.image_version.version ≡ r.version
  pub length : told.length ≡ runs_length r
  pub crc : told.crc ≡ runs_crc r

-- What an event with this effect and this end did: the host was a and is b, and the outbox has this frame.
abbrev pub NodeDone : NodeEnd → (frame : Option (List ℕ)) → Effect → (a b : Host) → Type 0
NodeDone Quiet frame e a b = EffectDone e frame a b × (e.started ≡ None) × (e.sent ≡ None)
NodeDone Sent frame e a b = EffectDone e frame a b × (e.started ≡ None) × ((message : Message) × (e.sent ≡ Some message))
NodeDone (Starts told) frame e a b =
    EffectDone e frame a b × (e.sent ≡ None) × ((r : Runs) × (e.started ≡ Some r) × IsStart told r)
NodeDone Stopped frame e a b = Stops e.trail a.board b.board × (frame ≡ None)
NodeDone NoImage frame e a b = FoundNoImage e frame a.board b.board
NodeDone NotAVolume frame e a b = ⊥

-- ---- by the answers of the calls

abbrev pub power_end : Result Powered BootFault → NodeEnd
power_end (Ok x) = Starts x.image
power_end (Err boot_fault.Stopped) = Stopped
power_end (Err boot_fault.NotAVolume) = NotAVolume
power_end (Err boot_fault.NoImage) = NoImage

abbrev pub powered_in : Result Powered BootFault → Option Node
powered_in (Ok x) = Some x.node
powered_in (Err fault) = None

abbrev pub tick_end : Result Ticked TickFault → NodeEnd
tick_end (Ok ticked.Idle) = Quiet
tick_end (Ok ticked.Sent) = Sent
tick_end (Ok (ticked.Restarted image)) = Starts image
tick_end (Err tick_fault.Stopped) = Stopped
tick_end (Err tick_fault.NoImage) = NoImage

abbrev pub hear_end : Result Heard StoppedValue → NodeEnd
hear_end (Ok heard) = Quiet
hear_end (Err stopped) = Stopped

-- ---- what a start finds

-- What a start's answer says of the board: it is a volume, or it is not one and keeps its bytes. If it answers
-- Stopped, the device is stopped.
abbrev pub PowerFinds : Result Powered BootFault → Device → Device → Type 0
PowerFinds (Ok x) old new = IsVolume old.image
PowerFinds (Err boot_fault.Stopped) old new = ActStopped old new × (IsNoVolume old.image → ReadStopped old new)
PowerFinds (Err boot_fault.NotAVolume) old new = IsNoVolume old.image × Looked old new
PowerFinds (Err boot_fault.NoImage) old new = IsVolume old.image

-- How the code's mote and its chip stand for a mote by the rules and a store (the type `Mote` of this crate).
use Rattle.std.specs.Prelude.{◌≡◌, ◌≢◌, ℕ, ◌<◌, ◌≤◌, Bool, true, false, List, length, Option, Some, Ok, option_map}
use Rattle.std.specs.FinSet as set
use Rattle.dg_nor.specs.Device.{Device, Ran}
use Rattle.dg_nor.specs.Trail.{operations, last}
use Rattle.dg_slot.specs.Layout.{packets}
use Rattle.dg_slot.specs.Kept.{Held}
use Rattle.dg_slot.specs.Jobs.{IsJob, outline_of_slot, slot_of}
use Rattle.dg_slot.specs.declared.states.PageJob.{PageJob}
use Rattle.dg_volume.specs.Store.{Store, held}
use Rattle.dg_volume.specs.Stands.{Mounted, NothingLent, is_lent}
use Rattle.dg_volume.specs.declared.volume.Volume.{Volume}
use Rattle.dg_frame.specs.Grammar.{message_of}
use Rattle.dg_frame.specs.Spelling.{frame_of}
use Rattle.dg_frame.specs.declared.Message.{Message}
use Rattle.dg_mote.specs.Model.{MoteState, Mode, Maintain, Receive, Transmit, NamesKnown, Receiving, Sending, came, reception}
use Rattle.dg_mote.specs.Model.{MoteStep}
use Rattle.dg_mote.specs.Agreement.{Serves}
use Rattle.dg_mote.specs.declared.mote.Mote.{Mote}
use Rattle.dg_mote.specs.declared.outbox.Outbox.{Outbox}
use Rattle.dg_mote.specs.declared.mote.Mode.{Mode as ModeValue}
use Rattle.dg_mote.specs.declared.mote.Mode.TheVariants as value

-- While it receives, its slot is lent, and no other is. The job stands for the next page with the packets that
-- came, and some are missing.
pub record Receives (c : List ℕ) (v : Volume) (s : Store) (job : PageJob) (r : Receiving) : Type 0 where
  pub image : (outline_of_slot (slot_of job)).image ≡ r.image
  pub not_golden : 1 ≤ r.image
  pub lent : is_lent v r.image ≡ true
  pub others : (i : ℕ) → i ≢ r.image → is_lent v i ≡ false
  pub kept : Held
  pub held_here : held s r.image ≡ Some kept
  pub version : kept.version ≡ r.version
  pub next : length kept.complete ≡ r.page
  pub stands : IsJob c job kept r.packets
  pub missing : set.len (came r.packets) < packets

-- While it serves nothing is lent, the page is kept, and some packets are owed.
pub record Transmits (v : Volume) (s : Store) (t : Sending) : Type 0 where
  pub free : NothingLent v
  pub serves : Serves s t

abbrev pub ModeStands : List ℕ → Volume → Store → ModeValue → Mode → Type 0
ModeStands c v s (value.Maintain trickle) (Maintain timer) = (trickle ≡ timer) × NothingLent v
ModeStands c v s (value.Receive version server asking job) (Receive r) =
    (asking ≡ reception r) × (server ≡ r.server) × (version ≡ r.version) × Receives c v s job r
ModeStands c v s (value.Transmit image version page serving) (Transmit t) =
    (image ≡ t.image) × (version ≡ t.version) × (page ≡ t.page) × (serving ≡ t.owed) × Transmits v s t
ModeStands c v s value other = ⊥

pub record IsMote (c : List ℕ) (v : Mote) (m : MoteState) (s : Store) : Type 0 where
  pub id : v.id ≡ m.id
  pub since : v.since ≡ m.since
  pub wide : v.wide ≡ m.wide
  pub noted : v.windows ≡ m.noted
  pub mounted : Mounted c v.volume s
  pub mode : ModeStands c v.volume s v.mode m.mode
  pub known : NamesKnown m.wide m.mode

abbrev pub id_told : Mote → ℕ
id_told v = v.id

abbrev pub wide_told : Mote → Bool
wide_told v = v.wide

abbrev pub volume_of : Mote → Volume
volume_of v = v.volume

-- the bytes of the frame in an outbox, which keeps its message
abbrev pub sent_in : Outbox → Option (List ℕ)
sent_in o = option_map frame_of o.message

-- the frame of a message is read as the message by a reader of this width
abbrev pub IsRead : (wide : Bool) → Message → Type 0
IsRead wide message = message_of (frame_of message) wide ≡ Ok message

-- a call did what the rules say: the chip completed the trail, and the mote is in the state that they give
pub record Done {A : Type 0} (turn : MoteStep A) (old new : Device) (v : Mote) (answer : A) : Type 0 where
  pub ran : Ran (operations turn.trail) old new
  pub mote : IsMote new.image v turn.mote (last turn.trail)
  pub answers : answer ≡ turn.answer

-- The rules of asking and serving in the words of Deluge, and what happens to a mote in a row (docs/SCRIPTS.md, "What events
-- do", after Deluge: Hui and Culler, SenSys 2004).
use Rattle.std.specs.Prelude.{◌≡◌, ◌≢◌, ◌⊎◌, ◌↔◌, true, false, ℕ, ◌+◌, ◌<◌, ◌≤◌, List, [], ◌∷◌, length, Option, Some, None}
use Rattle.std.specs.List.{AllByRecursion}
use Rattle.std.specs.FinSet as set
use Rattle.dg_bits.specs.Sets.{Numbers}
use Rattle.dg_nor.specs.Trail.{last}
use Rattle.dg_trickle.specs.Timer.{Timer}
use Rattle.dg_slot.specs.Kept.{Held}
use Rattle.dg_slot.specs.Layout.{packets}
use Rattle.dg_slot.specs.Jobs.{packet}
use Rattle.dg_volume.specs.Store.{Store, held}
use Rattle.dg_volume.specs.Start.{order_waits}
use Rattle.dg_frame.specs.declared.Message.{Message}
use Rattle.dg_frame.specs.declared.Message.TheVariants.{Advert, Request, Packet, Wide}
use Rattle.dg_mote.specs.Model.{MoteState, Mode, Maintain, Receive, Transmit, Receiving}
use Rattle.dg_mote.specs.Ticks.{clears, tick_of}
use Rattle.dg_mote.specs.Hears.{heard_of}

-- ---- pages

-- a page is of use here: it is one of the kept version that is kept or next, or the first one of a newer version, or the
-- first one if nothing is kept
abbrev pub IsOfUse : Option Held → (version page : ℕ) → Type 0
IsOfUse None version page = page ≡ 0
IsOfUse (Some h) version page = ((h.version ≡ version) × (page ≤ length h.complete)) ⊎ ((h.version < version) × (page ≡ 0))

-- a page is complete here. How many pages its image has is not checked
pub record HasPage (s : Store) (image version page : ℕ) : Type 0 where
  pub kept : Held
  pub here : held s image ≡ Some kept
  pub version_is : kept.version ≡ version
  pub complete : page < length kept.complete

-- it asks its server for the missing packets of a page
pub record AsksFor (m : MoteState) (source to image version page : ℕ) (want : Numbers) : Type 0 where
  pub r : Receiving
  pub receives : m.mode ≡ Receive r
  pub source_is : source ≡ m.id
  pub server : to ≡ r.server
  pub image_is : image ≡ r.image
  pub version_is : version ≡ r.version
  pub page_is : page ≡ r.page
  pub missing : (q : ℕ) → (set.contains want q ≡ true) ↔ ((q < packets) × (packet r.packets q ≡ None))

-- ---- restarts

-- it maintains, no short starts are to be cleared, and the order is pending
pub record MayRestart (m : MoteState) (s : Store) (now : ℕ) : Type 0 where
  pub timer : Timer
  pub maintains : m.mode ≡ Maintain timer
  pub clears_nothing : clears m s now ≡ false
  pub waits : order_waits s ≡ true

-- ---- what happens to a mote

-- it ticks, or hears a frame, with the time and the word
pub data MoteEvent : Type 0 where
  Ticks : (now word : ℕ) → MoteEvent
  Hears : (now word : ℕ) (bytes : List ℕ) → MoteEvent

abbrev pub moment_of : MoteEvent → ℕ
moment_of (Ticks now word) = now
moment_of (Hears now word bytes) = now

-- what a mote sends during these events, in order, if it is not restarted
unfoldable pub sent_while : List MoteEvent → MoteState → Store → List (Option Message)
sent_while [] m s = []
sent_while (Ticks now word ∷ rest) m s =
    let step = tick_of m s now word in step.sent ∷ sent_while rest step.mote (last step.trail)
sent_while (Hears now word bytes ∷ rest) m s = let step =
    heard_of m s now word bytes in step.sent ∷ sent_while rest step.mote (last step.trail)

-- each event is at `from` or later, and before `until`
abbrev pub AllBetween : (from until : ℕ) → List MoteEvent → Type 0
AllBetween from until events = AllByRecursion (λ e. (from ≤ moment_of e) × (moment_of e < until)) events

-- ---- silence

abbrev pub IsSilent : List (Option Message) → Type 0
IsSilent sent = AllByRecursion (λ message. message ≡ None) sent

abbrev pub NoRequest : ℕ → Option Message → Type 0
NoRequest image None = Unit {0}
NoRequest image (Some (Advert source entries order)) = Unit {0}
NoRequest image (Some (Request source to i version page want)) = i ≢ image
NoRequest image (Some (Packet source i version page packet bytes)) = Unit {0}
NoRequest image (Some (Wide source entries order)) = Unit {0}

-- it asks for no page of the image
abbrev pub AsksNotFor : ℕ → Mode → Type 0
AsksNotFor image (Maintain timer) = Unit {0}
AsksNotFor image (Receive r) = r.image ≢ image
AsksNotFor image (Transmit t) = Unit {0}

-- ---- an interval of the timer

-- it maintains, in the interval that this timer is in
abbrev pub IsInInterval : Timer → Mode → Type 0
IsInInterval timer (Maintain t) = (t.begin ≡ timer.begin) × (t.interval ≡ timer.interval)
IsInInterval timer (Receive r) = ⊥
IsInInterval timer (Transmit t) = ⊥

-- all these events are in it: ticks before its end, and frames that leave the mote in it
unfoldable pub AllInInterval : Timer → List MoteEvent → MoteState → Store → Type 0
AllInInterval timer [] m s = Unit {0}
AllInInterval timer (Ticks now word ∷ rest) m s =
    let step = tick_of m s now word in (now < timer.begin + timer.interval) × AllInInterval timer rest step.mote (last step.trail)
AllInInterval timer (Hears now word bytes ∷ rest) m s =
    let step = heard_of m s now word bytes in IsInInterval timer step.mote.mode
    × AllInInterval timer rest step.mote (last step.trail)

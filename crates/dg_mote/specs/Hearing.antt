-- How the steps of hearing a frame end (docs/SCRIPTS.md, "What events do", after Deluge: Hui and Culler, SenSys 2004).
use Rattle.std.specs.Prelude.{◌≡◌, ◌≢◌, ℕ, ◌<◌, ◌≤◌, ◌||◌, nat_le, Bool, true, false, if◌then◌else◌, List, length, Some, None}
use Rattle.std.specs.Prelude.{is_some}
use Rattle.dg_nor.specs.Trail.{Trail, resting, stepping}
use Rattle.dg_recv.specs.Reception.{Reception}
use Rattle.dg_frame.specs.Ranges.{TellsVersion}
use Rattle.dg_frame.specs.declared.Entry.{Entry}
use Rattle.dg_slot.specs.Layout.{packets}
use Rattle.dg_slot.specs.Kept.{Held}
use Rattle.dg_slot.specs.Fits.{may_seal}
use Rattle.dg_slot.specs.Jobs.{IsJob, IsOpen, Packets, packet, no_packets, outline_of_slot, slot_of}
use Rattle.dg_slot.specs.declared.states.PageJob.{PageJob}
use Rattle.dg_slot.specs.declared.states.OpenSlot.{OpenSlot}
use Rattle.dg_slot.specs.declared.states.Sealing.{Sealing}
use Rattle.dg_slot.specs.declared.states.Sealing.TheVariants as sealing
use Rattle.dg_volume.specs.Sizes.{images}
use Rattle.dg_volume.specs.Store.{Store, held}
use Rattle.dg_volume.specs.Stands.{Mounted, is_lent}
use Rattle.dg_volume.specs.Changes.{paged, is_version}
use Rattle.dg_volume.specs.Trails.{take_trail}
use Rattle.dg_mote.specs.Model.{MoteState, Receiving, maintains, MoteStep}
use Rattle.dg_mote.specs.Summary.{advertiser_ahead}
use Rattle.dg_mote.specs.Adverts.{outline}
use Rattle.dg_mote.specs.Motes.{IsMote}
use Rattle.dg_mote.specs.declared.mote.Heard.{Heard}
use Rattle.dg_mote.specs.declared.mote.Heard.TheVariants.{Refused, Dropped, Sealed, Bad}
use Rattle.dg_mote.specs.declared.mote.Mote.{Mote}
use Rattle.dg_mote.specs.declared.mote.Mode.TheVariants as value

-- the chip is unchanged
pub record ChipStays (turn : MoteStep Heard) (c : List ℕ) (s : Store) (v : Mote) (answer : Heard) : Type 0 where
  pub trail : turn.trail ≡ resting s 0
  pub mote : IsMote c v turn.mote s
  pub answers : answer ≡ turn.answer

-- if a frame is refused or dropped, this holds
abbrev pub StaysIf : Heard → Type 0 → Type 0
StaysIf (Refused fault) P = P
StaysIf Dropped P = P
StaysIf answer P = Unit {0}

-- ---- a page that is whole

-- the slot of an image is lent, and a page of it is being filled: these packets of it came
pub record Fills (c : List ℕ) (s : Store) (image : ℕ) (job : PageJob) (h : Held) (ps : Packets) : Type 0 where
  pub not_golden : 1 ≤ image
  pub of_image : (outline_of_slot (slot_of job)).image ≡ image
  pub held_here : held s image ≡ Some h
  pub stands : IsJob c job h ps

-- the page was made complete
abbrev pub is_sealed : Sealing → Bool
is_sealed (sealing.Sealed o) = true
is_sealed (sealing.Bad kept found o) = false
is_sealed (sealing.Unfit o) = false

-- all packets of the page that is asked for came
pub record PageIsWhole (c : List ℕ) (v : Mote) (m : MoteState) (s : Store) (r : Receiving) (h : Held)
    (ps : Packets) : Type 0 where
  pub id : v.id ≡ m.id
  pub since : v.since ≡ m.since
  pub wide : v.wide ≡ m.wide
  pub noted : v.windows ≡ m.noted
  pub mounted : Mounted c v.volume s
  pub code : (version : ℕ) × (server : ℕ) × (asking : Reception) × (job : PageJob)
      × (v.mode ≡ value.Receive version server asking job) × Fills c s r.image job h ps
  pub lent : is_lent v.volume r.image ≡ true
  pub others : (i : ℕ) → i ≢ r.image → is_lent v.volume i ≡ false
  pub next : length h.complete ≡ r.page
  pub all : (q : ℕ) → q < packets → is_some (packet ps q) ≡ true

-- a whole page is sealed if it fits, and the mote returns to maintaining
abbrev pub page_ends : MoteState → Receiving → Held → Store → (now word : ℕ) → List ℕ → MoteStep Heard
page_ends m r h s now word page =
    if may_seal r.image h page
    then record {
      mote = maintains m now word;
      trail = stepping s 1 (paged r.image page s);
      sent = None;
      answer = Sealed r.image r.page;
    }
    else record { mote = maintains m now word; trail = resting s 0; sent = None; answer = Bad r.image r.page }

-- ---- a page that is asked for

-- the advertiser is ahead in an image, by this entry, and either its slot need not be taken, or there is room to take
-- it
pub record MayTake (s : Store) (i : ℕ) (e : Entry) : Type 0 where
  pub not_golden : 1 ≤ i
  pub known : i < images
  pub tells : TellsVersion e
  pub ahead : advertiser_ahead e (held s i) ≡ true
  pub free : is_version (held s i) e.version || nat_le 2 s.room ≡ true

-- the slot of an image is taken unless the entry's version is kept
abbrev pub slot_trail : Store → ℕ → Entry → Trail Store
slot_trail s i e = if is_version (held s i) e.version then resting s 0 else take_trail s (outline i e)

-- the slot is open for the entry's version, some of whose pages are missing
pub record Opened (c : List ℕ) (s : Store) (i : ℕ) (e : Entry) (o : OpenSlot) : Type 0 where
  pub of_image : (outline_of_slot o).image ≡ i
  pub kept : Held
  pub held_here : held s i ≡ Some kept
  pub version : kept.version ≡ e.version
  pub more : length kept.complete < kept.pages
  pub stands : IsOpen c o kept

-- the next page of the entry's version was begun
pub record Begun (c : List ℕ) (s : Store) (i : ℕ) (e : Entry) (job : PageJob) : Type 0 where
  pub of_image : (outline_of_slot (slot_of job)).image ≡ i
  pub kept : Held
  pub held_here : held s i ≡ Some kept
  pub version : kept.version ≡ e.version
  pub stands : IsJob c job kept no_packets

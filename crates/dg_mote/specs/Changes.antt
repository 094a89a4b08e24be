-- What a tick and a frame may change of what a chip keeps, and of the page that is asked for (docs/PROMISES.md, "The report and
-- what it tells").
use Rattle.std.specs.Prelude.{◌≡◌, ◌⊎◌, ℕ, ◌<◌, ◌≤◌, Bool, true, List, slice_set, Option, Some, None, IfSome, is_some, Ok}
use Rattle.dg_control.specs.declared.snapshot.Order.{Order}
use Rattle.dg_slot.specs.Layout.{packets}
use Rattle.dg_slot.specs.Kept.{Held, held_begun}
use Rattle.dg_slot.specs.Jobs.{packet}
use Rattle.dg_volume.specs.Store.{Store, held}
use Rattle.dg_volume.specs.Changes.{paged, gesture_cleared}
use Rattle.dg_frame.specs.Grammar.{message_of}
use Rattle.dg_frame.specs.declared.Entry.{Entry}
use Rattle.dg_frame.specs.declared.Message.TheVariants.{Packet}
use Rattle.dg_mote.specs.Model.{Mode, Maintain, Receive, Transmit, Receiving}
use Rattle.dg_mote.specs.Summary.{entry_for}
use Rattle.dg_mote.specs.Adverts.{outline}

-- ---- a tick

-- short starts are cleared, or nothing changes
abbrev pub MayClear : Store → Store → Type 0
MayClear s t = (t ≡ s) ⊎ (t ≡ gesture_cleared s)

-- ---- an advert

-- nothing is kept, or an older version than the entry's, of which the advertiser has a page
pub record IsBehind (e : Entry) (old : Option Held) : Type 0 where
  pub some : 1 ≤ e.have
  pub older : IfSome old (λ h. h.version < e.version)

-- The order becomes a better one, or stays. One image, which is not golden, is restarted for the entry, or stays; if power is
-- lost, it may be given up. All else stays, except that room may be spent.
pub record TakesAdvert (entries : List Entry) (order : Order) (stopped : Bool) (s t : Store) : Type 0 where
  pub order_is : (t.order ≡ s.order) ⊎ ((t.order ≡ order) × (s.order.number < order.number))
  pub image : ℕ
  pub not_golden : 1 ≤ image
  pub here : Option Held
  pub kept : t.kept ≡ slice_set s.kept image here
  pub change : (here ≡ held s image) ⊎ (IsBehind (entry_for entries image) (held s image)
      × ((here ≡ Some (held_begun (outline image (entry_for entries image)))) ⊎ ((stopped ≡ true) × (here ≡ None))))
  pub app : t.app ≡ s.app
  pub gesture : t.gesture ≡ s.gesture
  pub room : t.room ≤ s.room

-- ---- a packet

-- the page that is asked for is then complete: each of its packets had arrived, except this one
pub record Completes (mode : Mode) (image version page q : ℕ) (s t : Store) : Type 0 where
  pub r : Receiving
  pub receives : mode ≡ Receive r
  pub image_is : r.image ≡ image
  pub version_is : r.version ≡ version
  pub page_is : r.page ≡ page
  pub all : (p : ℕ) → p < packets → (is_some (packet r.packets p) ≡ true) ⊎ (p ≡ q)
  pub content : List ℕ
  pub paged_is : t ≡ paged image content s

-- ---- the page that is asked for

abbrev pub IfReceives : (Receiving → Type 0) → Mode → Type 0
IfReceives P (Maintain timer) = Unit {0}
IfReceives P (Receive r) = P r
IfReceives P (Transmit t) = Unit {0}

-- the frame brings this packet to a wide reader, or to a narrow one
abbrev pub Brings : List ℕ → (wide : Bool) → (image version page q : ℕ) → Type 0
Brings bytes wide image version page q =
    (source : ℕ) × (content : List ℕ) × (message_of bytes wide ≡ Ok (Packet source image version page q content))

-- a page, not of golden, is begun: no packet of it has arrived yet
pub record IsBegun (r : Receiving) : Type 0 where
  pub not_golden : 1 ≤ r.image
  pub none : (q : ℕ) → packet r.packets q ≡ None

-- the same page was asked for before, and each packet that is there was there before, or comes now
pub record Continues (old : Mode) (comes : (image version page q : ℕ) → Type 0) (r : Receiving) : Type 0 where
  pub before : Receiving
  pub was : old ≡ Receive before
  pub image : r.image ≡ before.image
  pub version : r.version ≡ before.version
  pub page : r.page ≡ before.page
  pub packets_are : (q : ℕ) → is_some (packet r.packets q) ≡ true
      → (is_some (packet before.packets q) ≡ true) ⊎ comes r.image r.version r.page q

-- What a step may change of the small state (docs/PROMISES.md, "The report and what it tells").
use Rattle.std.specs.Prelude.{◌≡◌, ◌≢◌, ◌⊎◌, ℕ, ◌+◌, ◌<◌, ◌≤◌, Bool, true, false, List, length, slice_set, Option, Some, None}
use Rattle.std.specs.Prelude.{Result, Ok, Err}
use Rattle.dg_object.specs.Object.{Row}
use Rattle.dg_control.specs.declared.snapshot.Order.{Order}
use Rattle.dg_slot.specs.Layout.{packets}
use Rattle.dg_frame.specs.Grammar.{message_of}
use Rattle.dg_frame.specs.declared.Message.{Message}
use Rattle.dg_frame.specs.declared.Message.TheVariants.{Advert, Request, Packet, Wide}
use Rattle.dg_frame.specs.declared.FrameFault.{FrameFault}
use Rattle.dg_frame.specs.declared.Entry.{Entry}
use Rattle.dg_mote.specs.Changes.{Brings}
use Rattle.dg_mote.specs.Summary.{entry_for}
use Rattle.dg_volume.specs.Sizes.{golden_version}
use Rattle.dg_volume.specs.Table.{row_at, with_row}
use Rattle.dg_rules.specs.Small.{Holding, SmallMote, Small, small_mote_at, holds, whole}
use Rattle.dg_rules.specs.Events.{mote_of}
use Rattle.dg_base.specs.declared.events.ImageVersion.{ImageVersion}
use Rattle.dg_base.specs.declared.events.Event.{Event}
use Rattle.dg_base.specs.declared.events.Event.TheVariants.{Tick, Reset, Inject, Order as OrderEvent}

-- ---- the past, as far as a step depends on it

-- what came to a mote by radio, and its starts, the newest first
pub data Past : Type 0 where
  Begins : Past
  Came : (mote : ℕ) → (bytes : List ℕ) → (before : Past) → Past
  Started : (mote : ℕ) → (before : Past) → Past

-- a packet of a page came to the mote, which is wide or narrow, since its last start
unfoldable pub CameTo : ℕ → (wide : Bool) → (image version page q : ℕ) → Past → Type 0
CameTo m wide image version page q Begins = ⊥
CameTo m wide image version page q (Started mote before) = (mote ≢ m) × CameTo m wide image version page q before
CameTo m wide image version page q (Came mote bytes before) =
    ((mote ≡ m) × Brings bytes wide image version page q) ⊎ CameTo m wide image version page q before

abbrev pub AllCame : ℕ → (wide : Bool) → (image version page : ℕ) → Past → Type 0
AllCame m wide image version page past = (q : ℕ) → q < packets → CameTo m wide image version page q past

-- ---- one mote

-- one holding changes, and all else stays
abbrev pub taking : SmallMote → ℕ → Option Holding → SmallMote
taking x i h = record x { holdings = slice_set x.holdings i h }

-- nothing is kept, or an older version, or some pages of this one
abbrev pub MayInject : Option Holding → Row → Type 0
MayInject None row = Unit {0}
MayInject (Some h) row = (h.version < row.version) ⊎ ((h.version ≡ row.version) × (h.pages ≤ (whole row).pages))

-- after a cut that fired: what was kept stays; or this many pages of the new version are kept, no fewer than before; or nothing
-- is kept, if an older version was
abbrev pub CutHolding : Option Holding → Row → Option Holding → Type 0
CutHolding old row None = (old ≡ None) ⊎ ((h : Holding) × (old ≡ Some h) × (h.version < row.version))
CutHolding old row (Some new) =
    (old ≡ Some new)
    ⊎ ((new.version ≡ row.version) × ((h : Holding) → old ≡ Some h → h.version ≡ row.version → h.pages ≤ new.pages))

pub record LegalInject (declared table after : List Row) (fired : Bool) (image_version : ImageVersion)
    (old new : SmallMote) : Type 0 where
  pub known : 1 ≤ image_version.image
  pub row : Row
  pub is_declared : row_at declared image_version.image image_version.version ≡ Some row
  pub table_after : after ≡ with_row table row
  pub before : MayInject (holds old image_version.image) row
  pub held : Option Holding
  pub change : new ≡ taking old image_version.image held
  pub how : ((fired ≡ false) × (held ≡ Some (whole row))) ⊎ ((fired ≡ true) × CutHolding (holds old image_version.image) row held)

pub record LegalOrder (fired : Bool) (order : Order) (old new : SmallMote) : Type 0 where
  pub larger : old.order.number < order.number
  pub change : (new ≡ record old { order = order }) ⊎ ((fired ≡ true) × (new ≡ old))

abbrev pub IsGoldenImageVersion : ImageVersion → Type 0
IsGoldenImageVersion image_version = (image_version.image ≡ 0) × (image_version.version ≡ golden_version)

pub record HoldsWholeRow (table : List Row) (x : SmallMote) (image_version : ImageVersion) : Type 0 where
  pub row : Row
  pub in_table : row_at table image_version.image image_version.version ≡ Some row
  pub whole_row : holds x image_version.image ≡ Some (whole row)

pub record OrdersImageVersion (x : SmallMote) (image_version : ImageVersion) : Type 0 where
  pub some : x.order.number ≢ 0
  pub image : x.order.image ≡ image_version.image
  pub version : x.order.version ≡ image_version.version

-- a row that the mote holds whole and that its order names
abbrev pub OrdersWholeRow : List Row → SmallMote → ImageVersion → Type 0
OrdersWholeRow table x image_version = OrdersImageVersion x image_version × HoldsWholeRow table x image_version

-- golden, what program memory is Set to, or such a row
abbrev pub MayStart : List Row → SmallMote → ImageVersion → Type 0
MayStart table x image_version =
    IsGoldenImageVersion image_version ⊎ ((x.app ≡ Some image_version) ⊎ OrdersWholeRow table x image_version)

-- a start that was not stopped
pub record LegalStart (table : List Row) (old new : SmallMote) : Type 0 where
  pub image_version : ImageVersion
  pub app : Option ImageVersion
  pub chosen : MayStart table old image_version
  pub memory : (app ≡ Some image_version) ⊎ ((app ≡ None) × IsGoldenImageVersion image_version)
  pub change : new ≡ record old { app = app; runs = Some image_version }

-- one whose cut fired: program memory stays, is blank, or is what was chosen
pub record CutStart (may : ImageVersion → Type 0) (old new : SmallMote) : Type 0 where
  pub app : Option ImageVersion
  pub how : (app ≡ old.app) ⊎ ((app ≡ None) ⊎ ((image_version : ImageVersion) × (app ≡ Some image_version) × may image_version))
  pub change : new ≡ record old { app = app; runs = None }

-- nothing is kept, or an older version
abbrev pub IsOlder : Option Holding → ℕ → Type 0
IsOlder None version = Unit {0}
IsOlder (Some h) version = h.version < version

pub record LegalAdvert (fired : Bool) (entries : List Entry) (order : Order) (old new : SmallMote) : Type 0 where
  pub kept_order : Order
  pub order_change : (kept_order ≡ old.order) ⊎ ((kept_order ≡ order) × (old.order.number < order.number))
  pub image : ℕ
  pub known : 1 ≤ image
  pub held : Option Holding
  pub held_change : (held ≡ holds old image) ⊎ ((1 ≤ (entry_for entries image).have)
      × IsOlder (holds old image) (entry_for entries image).version
      × ((held ≡ Some (record { version = (entry_for entries image).version; pages = 0 })) ⊎ ((fired ≡ true) × (held ≡ None))))
  pub change : new ≡ taking (record old { order = kept_order }) image held

-- one more page is kept if all of its packets came
pub record LegalPacket (all_came : Type 0) (image version page : ℕ) (old new : SmallMote) : Type 0 where
  pub held : Option Holding
  pub held_change : (held ≡ holds old image)
      ⊎ ((1 ≤ image) × (holds old image ≡ Some (record { version = version; pages = page }))
      × (held ≡ Some (record { version = version; pages = page + 1 })) × all_came)
  pub change : new ≡ taking old image held

abbrev pub off_after : Bool → SmallMote → SmallMote
off_after true x = record x { runs = None }
off_after false x = x

abbrev pub LegalMessage : Past → (fired : Bool) → ℕ → (wide : Bool) → Result Message FrameFault → SmallMote → SmallMote → Type 0
LegalMessage past fired m wide (Err fault) old new = new ≡ old
LegalMessage past fired m wide (Ok (Advert source entries order)) old new = LegalAdvert fired entries order old new
LegalMessage past fired m wide (Ok (Request source to image version page want)) old new = new ≡ old
LegalMessage past fired m wide (Ok (Packet source image version page q bytes)) old new =
    LegalPacket (AllCame m wide image version page past) image version page old new
LegalMessage past fired m wide (Ok (Wide source entries order)) old new = LegalAdvert fired entries order old new

-- ---- a step

-- Only Reset, Inject and Order change a mote that is off.
abbrev pub SmallIsOn : SmallMote → Type 0
SmallIsOn x = (image_version : ImageVersion) × (x.runs ≡ Some image_version)

-- A Tick may also change nothing, and it starts only the ordered row.
abbrev pub LegalTick : List Row → Bool → SmallMote → SmallMote → Type 0
LegalTick table false old new = (new ≡ old) ⊎ ((s : LegalStart table old new) × OrdersWholeRow table old s.image_version)
LegalTick table true old new = CutStart (OrdersWholeRow table old) old new

abbrev pub LegalReset : List Row → Bool → SmallMote → SmallMote → Type 0
LegalReset table false old new = LegalStart table old new
LegalReset table true old new = CutStart (MayStart table old) old new

-- the frame that an event brings is the last of those that came, and its mote reads it as a wide one, or as a narrow one
abbrev pub LegalFrame : Past → (fired : Bool) → ℕ → (wide : Bool) → Option (List ℕ) → SmallMote → SmallMote → Type 0
LegalFrame past fired m wide None old new = ⊥
LegalFrame past fired m wide (Some bytes) old new = LegalMessage (Came m bytes past) fired m wide (message_of bytes wide) old new

-- What is known of a step besides the small state: the past, what is declared, whether its cut fired, whether its mote is wide,
-- and the frame that it brings.
pub record StepFacts : Type 0 where
  pub past : Past
  pub declared : List Row
  pub fired : Bool
  pub wide : Bool
  pub frame : Option (List ℕ)

abbrev pub step_facts : Past → (declared : List Row) → (fired wide : Bool) → (frame : Option (List ℕ)) → StepFacts
step_facts past declared fired wide frame =
    record { past = past; declared = declared; fired = fired; wide = wide; frame = frame }

-- What an event that is not refused may change at its mote, from one table to another. A cut that fired turns the mote off.
abbrev pub LegalAt : StepFacts → List Row → Event → SmallMote → SmallMote → List Row → Type 0
LegalAt f table (Tick m dt word) old new after = SmallIsOn old × LegalTick table f.fired old new × (after ≡ table)
LegalAt f table (Reset m dt word) old new after = LegalReset table f.fired old new × (after ≡ table)
LegalAt f table (Inject m image version dt word) old new after =
    (mid : SmallMote) × LegalInject f.declared table after f.fired (record { image = image; version = version }) old mid
    × (new ≡ off_after f.fired mid)
LegalAt f table (OrderEvent m number image version dt word) old new after =
    (mid : SmallMote) × LegalOrder f.fired (record { number = number; image = image; version = version }) old mid
    × (new ≡ off_after f.fired mid) × (after ≡ table)
LegalAt f table event old new after =
    SmallIsOn old × (mid : SmallMote) × LegalFrame f.past f.fired (mote_of event) f.wide f.frame old mid
    × (new ≡ off_after f.fired mid) × (after ≡ table)

-- An event that is not refused changes only its mote, and there only what its kind allows.
pub record LegalStep (facts : StepFacts) (event : Event) (mote : ℕ) (old new : Small) : Type 0 where
  pub there : LegalAt facts old.table event (small_mote_at old mote) (small_mote_at new mote) new.table
  pub others : (m : ℕ) → m ≢ mote → small_mote_at new m ≡ small_mote_at old m
  pub count : length new.motes ≡ length old.motes

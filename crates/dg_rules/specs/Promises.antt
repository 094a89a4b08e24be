-- What holds of each item of a run: it is legal, what is kept stays, and what starts is one row of the table, byte for byte.
-- Wherever it is stopped, the chip agrees with the table (docs/PROMISES.md, "The report and what it tells").
use Rattle.std.specs.Prelude.{◌≡◌, ◌⊎◌, ℕ, ◌<◌, ◌≤◌, true, List, length, Option, Some, None, IfSome, Bool, Ok}
use Rattle.dg_nor.specs.Trail.{Leaves}
use Rattle.dg_object.specs.Object.{Row, object}
use Rattle.dg_base.specs.Crc.{crc_of}
use Rattle.dg_control.specs.declared.snapshot.Order.{Order}
use Rattle.dg_frame.specs.Grammar.{message_of}
use Rattle.dg_frame.specs.declared.Entry.{Entry}
use Rattle.dg_mote.specs.Summary.{advert_by, entry_for}
use Rattle.dg_volume.specs.Start.{Runs, runs_length, runs_crc}
use Rattle.dg_volume.specs.Store.{Store, IsNear}
use Rattle.dg_volume.specs.Table.{row_at}
use Rattle.dg_volume.specs.Agreement.{Agrees}
use Rattle.dg_rules.specs.World.{World, store_at, wide_at}
use Rattle.dg_rules.specs.Events.{Does, Refuses, Goes, trail_of, does, mote_of}
use Rattle.dg_rules.specs.Steps.{blows}
use Rattle.dg_rules.specs.Small.{Holding, small, small_mote_at, holds}
use Rattle.dg_rules.specs.Legal.{Past, LegalStep, step_facts}
use Rattle.dg_rules.specs.Past.{brought, past_of}
use Rattle.dg_script.specs.Items.{Item, Declares, Applies}
use Rattle.dg_rules.specs.Runs.{Played}
use Rattle.dg_base.specs.declared.events.Event.{Event}
use Rattle.dg_base.specs.declared.events.Event.TheVariants.{Inject}
use Rattle.dg_base.specs.declared.events.Step.{Step}

-- ---- legality

-- a refused event changes nothing
abbrev pub LegalDoes : Does → Past → World → Step → World → Type 0
LegalDoes (Refuses why) past w x v = small v ≡ small w
LegalDoes (Goes d) past w x v =
    LegalStep (step_facts past w.declared (blows x.cut d.trail) (wide_at w (mote_of x.event)) (brought w x.event))
    x.event (mote_of x.event) (small w) (small v)

abbrev pub LegalItem : Item → Past → World → World → Type 0
LegalItem (Declares row) past w v = small v ≡ small w
LegalItem (Applies step reported) past w v = LegalDoes (does w step.event) past w step v

-- what was played is legal after what was played before it, the newest first
abbrev pub IsLegal : List Played → Played → Type 0
IsLegal past p = LegalItem p.item (past_of past) p.before p.after

-- ---- what is kept stays

-- this version with at least as many complete pages, or a newer version
abbrev pub IsKeptIn : Option Holding → Holding → Type 0
IsKeptIn None h = ⊥
IsKeptIn (Some k) h = (h.version < k.version) ⊎ ((h.version ≡ k.version) × (h.pages ≤ k.pages))

-- A frame that names a newer version of the image, with at least one page: an advert of either kind, as a wide mote reads
-- it, or a narrow one.
abbrev pub NamesNewer : (wide : Bool) → Option (List ℕ) → ℕ → Holding → Type 0
NamesNewer wide None i h = ⊥
NamesNewer wide (Some bytes) i h =
    (kind : Bool) × (source : ℕ) × (entries : List Entry) × (order : Order)
    × (message_of bytes wide ≡ Ok (advert_by kind source entries order))
    × (1 ≤ (entry_for entries i).have) × (h.version < (entry_for entries i).version)

-- an injection brings a newer version of the image, or an advert that is heard names one
abbrev pub Replaces : World → Event → ℕ → Holding → Type 0
Replaces w (Inject m image version dt word) i h = (image ≡ i) × (h.version < version)
Replaces w event i h = NamesNewer (wide_at w (mote_of event)) (brought w event) i h

-- the cut of the step fired
abbrev pub IsBlown : Does → Step → Type 0
IsBlown (Refuses why) x = ⊥
IsBlown (Goes d) x = blows x.cut d.trail ≡ true

-- its power was cut while a newer version replaced it, and nothing is kept of the image
pub record IsReplacing (w : World) (x : Step) (m i : ℕ) (h : Holding) (new : Option Holding) : Type 0 where
  pub none : new ≡ None
  pub at : m ≡ mote_of x.event
  pub newer : Replaces w x.event i h
  pub cut : IsBlown (does w x.event) x

-- No version falls, and a complete page stays unless a newer version of its image replaces it,
-- which a cut may have left half done.
abbrev pub KeepsItem : Item → World → World → Type 0
KeepsItem (Declares row) w v =
    (m i : ℕ) (h : Holding) → holds (small_mote_at (small w) m) i ≡ Some h → IsKeptIn (holds (small_mote_at (small v) m) i) h
KeepsItem (Applies step reported) w v = (m i : ℕ) (h : Holding) → holds (small_mote_at (small w) m) i ≡ Some h
    → IsKeptIn (holds (small_mote_at (small v) m) i) h ⊎ IsReplacing w step m i h (holds (small_mote_at (small v) m) i)

abbrev pub KeepsAll : Played → Type 0
KeepsAll p = KeepsItem p.item p.before p.after

-- what is kept of golden stays unchanged
abbrev pub GoldenStays : Played → Type 0
GoldenStays p = (m : ℕ) → holds (small_mote_at (small p.after) m) 0 ≡ holds (small_mote_at (small p.before) m) 0

-- ---- what starts

-- What runs is a row of the table: its pages are the row's object, and its length and CRC are those of the row's bytes.
pub record RunsRow (table : List Row) (r : Runs) : Type 0 where
  pub row : Row
  pub in_table : row_at table r.image r.version ≡ Some row
  pub pages : r.pages ≡ object row
  pub length_reported : runs_length r ≡ length row.bytes
  pub crc_reported : runs_crc r ≡ crc_of row.bytes

abbrev pub StartsDoes : Does → List Row → Type 0
StartsDoes (Refuses why) table = Unit {0}
StartsDoes (Goes d) table = IfSome d.started (RunsRow table)

abbrev pub StartsItem : Item → World → Type 0
StartsItem (Declares row) w = Unit {0}
StartsItem (Applies step reported) w = StartsDoes (does w step.event) w.table

abbrev pub StartsRow : Played → Type 0
StartsRow p = StartsItem p.item p.before

-- ---- where an event is stopped

-- the table of images after an event, also where it was stopped: an injection that is not refused has its row there
abbrev pub table_of : Does → List Row → List Row
table_of (Refuses why) table = table
table_of (Goes d) table = d.table

-- Wherever a stop comes in an event, each store that the chip may then stand for agrees with that table.
abbrev pub StopsAgree : World → Event → Type 0
StopsAgree w e = (k : ℕ) (s : Store) → Leaves IsNear (trail_of (does w e) (store_at w (mote_of e))) k s
    → Agrees (table_of (does w e) w.table) s

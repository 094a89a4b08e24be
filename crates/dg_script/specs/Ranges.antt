-- The ranges of what is declared and of what is applied: of rows, events, cuts and steps (docs/SCRIPTS.md, "The script"). Each
-- of these is defined only here. Fitting has the bound of 32 bits for the other numbers of a line.
use Rattle.std.specs.Prelude.{◌≢◌, ℕ, ◌<◌, ◌≤◌, ◌^◌, IsTrue, List, length, IfSome}
use Rattle.dg_words.specs.Cells.{AreBytes}
use Rattle.dg_base.specs.Texts.{spells_name}
use Rattle.dg_base.specs.Sizes.{longest_frame, longest_mask}
use Rattle.dg_base.specs.declared.events.Cut.{Cut}
use Rattle.dg_base.specs.declared.events.Event.{Event}
use Rattle.dg_base.specs.declared.events.Event.TheVariants.{Tick, Hear, Last, Reset, Inject, Order, Frame}
use Rattle.dg_base.specs.declared.events.Step.{Step}
use Rattle.dg_object.specs.Object.{Row}
use Rattle.dg_script.specs.Sizes.{most_image, most_content}

-- What the script language allows to be declared. Only what is injected must have 1 to 70,656 bytes.
pub record IsDeclared (row : Row) : Type 0 where
  pub not_golden : 1 ≤ row.image
  pub image : row.image ≤ most_image
  pub version : 1 ≤ row.version
  pub version_fits : row.version < 2 ^ 32
  pub name : IsTrue (spells_name row.name)
  pub fits : length row.bytes ≤ most_content
  pub bytes : AreBytes row.bytes

-- two different ones of this many motes
pub record AreTwo (motes a b : ℕ) : Type 0 where
  pub first : a < motes
  pub second : b < motes
  pub two : a ≢ b

-- an image, from 0 to 6, and a version of it
pub record IsVersion (i v : ℕ) : Type 0 where
  pub image : i ≤ most_image
  pub version : 1 ≤ v

-- a frame from outside
pub record IsFrame (content : List ℕ) : Type 0 where
  pub few : length content ≤ longest_frame
  pub bytes : AreBytes content

-- an event is at one of this many motes, and what it names, brings or orders is in its range
abbrev pub EventInRange : ℕ → Event → Type 0
EventInRange motes (Tick mote dt word) = mote < motes
EventInRange motes (Hear mote dt word frame) = (mote < motes) × (1 ≤ frame)
EventInRange motes (Last from to dt word) = AreTwo motes from to
EventInRange motes (Reset mote dt word) = mote < motes
EventInRange motes (Inject mote image version dt word) = (mote < motes) × IsVersion image version
EventInRange motes (Order mote number image version dt word) =
    (mote < motes) × IsVersion image version × (version < 2 ^ 32) × (1 ≤ number) × (number < 2 ^ 32)
EventInRange motes (Frame mote dt word bytes) = (mote < motes) × IsFrame bytes

-- a cut is in a numbered operation, and leaves 1 to 2,048 bytes
pub record CutInRange (cut : Cut) : Type 0 where
  pub counted : 1 ≤ cut.after
  pub some : 1 ≤ length cut.mask
  pub few : length cut.mask ≤ longest_mask

pub record StepInRange (motes : ℕ) (x : Step) : Type 0 where
  pub event : EventInRange motes x.event
  pub cut : IfSome x.cut CutInRange

-- Boards that keep their very bytes (docs/PROMISES.md, "The report and what it tells").
use Rattle.std.specs.Prelude.{◌≡◌, ◌≢◌, ℕ, List, slice_get, option_map, Ok}
use Rattle.std.specs.List.{AllByRecursion}
use Rattle.dg_nor.specs.Device.{Device}
use Rattle.dg_rules.specs.Events.{mote_of}
use Rattle.dg_script.specs.Items.{Item, Declares, Applies, item_by}
use Rattle.dg_script.specs.Lines.{line_of}
use Rattle.dg_script.specs.declared.line.Line.{Line}
use Rattle.dg_script.specs.declared.line.Line.TheVariants.{Golden}
use Rattle.dg_script.specs.declared.place.Place.{Place}

-- an item is not an event at this mote
abbrev pub IsElsewhere : ℕ → Item → Type 0
IsElsewhere m (Declares row) = Unit {0}
IsElsewhere m (Applies step reported) = mote_of step.event ≢ m

-- The board of a mote at which none of these items is an event has its very bytes.
abbrev pub KeepBytes : List Item → (old new : List Device) → Type 0
KeepBytes items old new = (m : ℕ) → AllByRecursion (IsElsewhere m) items
    → option_map (λ d. d.image) (slice_get new m) ≡ option_map (λ d. d.image) (slice_get old m)

-- a line that formats no boards
abbrev pub FormatsNone : Line → Type 0
FormatsNone (Golden name used content) = ⊥
FormatsNone line = Unit {0}

-- what is kept where this line is played or begun
abbrev pub LineKeepsBytes : Place → Line → (old new : List Device) → Type 0
LineKeepsBytes place line old new = FormatsNone line → KeepBytes (item_by place line) old new

-- the same of the line that a text spells
abbrev pub TextKeepsBytes : Place → (text : List ℕ) → (old new : List Device) → Type 0
TextKeepsBytes place text old new = (line : Line) → line_of place text ≡ Ok line → LineKeepsBytes place line old new

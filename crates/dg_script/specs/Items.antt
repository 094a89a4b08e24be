-- What the lines of a script do, one item after the other (docs/SCRIPTS.md, "The script").
use Rattle.std.specs.Prelude.{Bool, true, false, List, [], ◌∷◌, ◌++◌, map, None}
use Rattle.dg_base.specs.declared.events.Event.{Event}
use Rattle.dg_base.specs.declared.events.Step.{Step}
use Rattle.dg_object.specs.Object.{Row, row_of}
use Rattle.dg_rounds.specs.Rounds.{times, round, sweep}
use Rattle.dg_script.specs.Places.{first_place, place_after}
use Rattle.dg_script.specs.declared.line.Line.{Line}
use Rattle.dg_script.specs.declared.line.Line.TheVariants.{Image}
use Rattle.dg_script.specs.declared.line.Line.TheVariants.{Happens as EventLine, Round, Sweeps}
use Rattle.dg_script.specs.declared.place.Place.{Place}

-- A row is declared, or an event is applied. An event of a round or a sweep is unreported: no frame that it sent is reported.
pub data Item : Type 0 where
  Declares : (row : Row) → Item
  Applies : (step : Step) → (reported : Bool) → Item

-- the items of events that a round or a sweep gives
abbrev pub unreported : List Event → List Item
unreported events = map (λ e. Applies (record { event = e; cut = None }) false) events

-- the items of a line at its place, where a cut may wait for its event
abbrev pub item_by : Place → Line → List Item
item_by place (Image image version name content) = Declares (row_of image version name content) ∷ []
item_by place (EventLine event) = Applies (record { event = event; cut = place.cut }) true ∷ []
item_by place (Round a b) = unreported (round a b)
item_by place (Sweeps n) = unreported (times n (sweep place.links))
item_by place line = []

-- the place after lines
unfoldable pub place_behind : Place → List Line → Place
place_behind place [] = place
place_behind place (line ∷ lines) = place_behind (place_after place line) lines

unfoldable pub items_behind : Place → List Line → List Item
items_behind place [] = []
items_behind place (line ∷ lines) = item_by place line ++ items_behind (place_after place line) lines

-- the items of a script's lines: a cut belongs to the next event, and sweeps go over the links before them
abbrev pub items_of : List Line → List Item
items_of lines = items_behind first_place lines

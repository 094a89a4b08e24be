-- What the lines of a script say of its run: where it begins, and what its outcome may be (docs/SCRIPTS.md, "The script").
use Rattle.std.specs.Prelude.{◌≡◌, ℕ, nat_lt, Bool, true, false, if◌then◌else◌, List, [], ◌∷◌, ◌++◌, replicate, slice_set, Option}
use Rattle.std.specs.Prelude.{Some, None, option_map}
use Rattle.std.specs.List.{count_by, list_any}
use Rattle.dg_object.specs.Object.{Row}
use Rattle.dg_volume.specs.Store.{Store, fresh, golden_row}
use Rattle.dg_base.specs.declared.events.Event.TheVariants.{Frame}
use Rattle.dg_script.specs.Items.{Item, Declares, Applies, item_by, place_behind}
use Rattle.dg_script.specs.Places.{first_place, none_narrow}
use Rattle.dg_script.specs.declared.line.Line.{Line}
use Rattle.dg_script.specs.declared.line.Line.TheVariants.{Motes, Golden, Boards, Link, Narrow}
use Rattle.dg_script.specs.declared.line.Line.TheVariants.{Happens as EventLine}
use Rattle.dg_rules.specs.World.{World, first_world}

-- What a script does not say itself: what the boards of its motes stand for if they are used as they are, and the table of images
-- that all is checked against then. A script with golden depends on neither.
pub record StartState : Type 0 where
  pub stores : List Store
  pub table : List Row

-- How many motes there are, and the world in which their run begins, None before their boards are used. It has all links and
-- narrow motes of these lines, though an image may be declared before one of them: declarations depend on neither
pub record Beginning : Type 0 where
  pub motes : ℕ
  pub world : Option World

-- a line after others: golden formats the boards of the motes, or they are used as they are; a link and a narrow mote are added
abbrev pub begin_by : StartState → Beginning → Line → Beginning
begin_by g b (Motes n) = record b { motes = n }
begin_by g b (Golden name used content) =
    let w = first_world (golden_row name content ∷ []) [] none_narrow (replicate b.motes (fresh name content used)) in
    record b { world = Some w }
begin_by g b Boards = record b { world = Some (first_world g.table [] none_narrow g.stores) }
begin_by g b (Link x y) = record b { world = option_map (λ (w : World). record w { links = w.links ++ (x, y) ∷ [] }) b.world }
begin_by g b (Narrow m) = record b { world = option_map (λ (w : World). record w { narrow = slice_set w.narrow m true }) b.world }
begin_by g b line = b

unfoldable pub begin_behind : StartState → Beginning → List Line → Beginning
begin_behind g b [] = b
begin_behind g b (line ∷ lines) = begin_behind g (begin_by g b line) lines

abbrev pub beginning_of : StartState → List Line → Beginning
beginning_of g lines = begin_behind g (record { motes = 0; world = None }) lines

-- without any knowledge of the boards
abbrev pub no_start_state : StartState
no_start_state = record { stores = []; table = [] }

-- how many motes there are by these lines
abbrev pub motes_in : List Line → ℕ
motes_in lines = (beginning_of (record { stores = []; table = [] }) lines).motes

-- the boards are used as they are
abbrev pub is_boards : Line → Bool
is_boards Boards = true
is_boards line = false

-- one of these lines is `boards`
abbrev pub UsesBoards : List Line → Type 0
UsesBoards lines = list_any is_boards lines ≡ true

-- the motes of a line for which boards are missing
abbrev pub lacking_by : ℕ → Line → Option ℕ → Option ℕ
lacking_by boards (Motes n) rest = if nat_lt boards n then Some n else rest
lacking_by boards line rest = rest

-- the motes of the first such line
unfoldable pub lacking : ℕ → List Line → Option ℕ
lacking boards [] = None
lacking boards (line ∷ lines) = lacking_by boards line (lacking boards lines)

-- a line that brings no frame from outside
abbrev pub IsNoFrame : Line → Type 0
IsNoFrame (EventLine (Frame mote dt word bytes)) = ⊥
IsNoFrame line = Unit {0}

-- what the first of these lines does, after others
abbrev pub next_items : (done rest : List Line) → List Item
next_items done [] = []
next_items done (line ∷ rest) = item_by (place_behind first_place done) line

abbrev pub is_event : Item → Bool
is_event (Declares row) = false
is_event (Applies step reported) = true

-- how many events there are among items
abbrev pub events_among : List Item → ℕ
events_among items = count_by is_event items

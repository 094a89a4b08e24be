-- A world: its motes with their chips, the images, the links, and the frames that were sent (docs/SCRIPTS.md, "What events
-- do").
use Rattle.std.specs.Prelude.{ℕ, ◌+◌, ◌-◌, ◌==◌, ◌&&◌, ◌||◌, nat_le, not, Bool, if◌then◌else◌, List, [], ◌∷◌, map, slice_get}
use Rattle.std.specs.Prelude.{slice_index_or, slice_set, Option, Some, None}
use Rattle.std.specs.List.{list_any}
use Rattle.dg_object.specs.Object.{Row}
use Rattle.dg_volume.specs.Store.{Store, fresh}
use Rattle.dg_mote.specs.Model.{MoteState}
use Rattle.dg_base.specs.declared.events.ImageVersion.{ImageVersion}
use Rattle.dg_script.specs.Places.{is_narrow}

-- a mote that is on: what it runs, and its state
pub record Running : Type 0 where
  pub image_version : ImageVersion
  pub mote : MoteState

-- what the chip of a mote stands for, and the mote, None if it is off
pub record Site : Type 0 where
  pub store : Store
  pub runs : Option Running

-- a frame that was sent, and by which mote
pub record Sent : Type 0 where
  pub by : ℕ
  pub bytes : List ℕ

-- The moment in milliseconds, the number of events, the rows that were declared, the table of images, which motes are
-- neighbours, which are narrow, the frames that were sent, and the motes.
pub record World : Type 0 where
  pub moment : ℕ
  pub events : ℕ
  pub declared : List Row
  pub table : List Row
  pub links : List (ℕ × ℕ)
  -- by the number of the mote: no step changes it
  pub narrow : List Bool
  -- the first one has number 1
  pub sent : List Sent
  pub sites : List Site

abbrev pub off_site : Store → Site
off_site s = record { store = s; runs = None }

-- the world in which a run begins: all motes are off, and nothing was sent
abbrev pub first_world : List Row → List (ℕ × ℕ) → (narrow : List Bool) → List Store → World
first_world table links narrow stores =
    let sites = map off_site stores in
    record { moment = 0; events = 0; declared = []; table = table; links = links; narrow = narrow; sent = []; sites = sites }

-- a chip that no mote has: the result for a number that is not a mote's
abbrev pub no_site : Site
no_site = off_site (fresh [] [] 0)

abbrev pub site : World → ℕ → Site
site w m = slice_index_or w.sites m no_site

-- a mote is wide unless it is listed as narrow
abbrev pub is_wide_mote : (narrow : List Bool) → ℕ → Bool
is_wide_mote narrow m = not (is_narrow narrow m)

abbrev pub wide_at : World → ℕ → Bool
wide_at w m = is_wide_mote w.narrow m

abbrev pub store_at : World → ℕ → Store
store_at w m = (site w m).store

abbrev pub with_site : World → ℕ → Site → World
with_site w m x = record w { sites = slice_set w.sites m x }

-- before an event is applied, the moment advances, and the event is counted
abbrev pub counted : World → ℕ → World
counted w dt = record w { moment = w.moment + dt; events = w.events + 1 }

abbrev pub linked : World → ℕ → ℕ → Bool
linked w a b = list_any (λ l. ((l.0 == a) && (l.1 == b)) || ((l.0 == b) && (l.1 == a))) w.links

abbrev pub frame_at : World → ℕ → Option Sent
frame_at w number = if nat_le 1 number then slice_get w.sent (number - 1) else None

abbrev pub last_by : ℕ → List Sent → Option Sent → Option Sent
last_by m [] found = found
last_by m (s ∷ ss) found = last_by m ss (if s.by == m then Some s else found)

-- the frame that a mote sent last
abbrev pub last_frame : World → ℕ → Option Sent
last_frame w m = last_by m w.sent None

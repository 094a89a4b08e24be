-- Where a line stands, and how that changes after it (docs/SCRIPTS.md, "The script").
use Rattle.std.specs.Prelude.{ℕ, ◌==◌, ◌&&◌, ◌||◌, not, Bool, true, false, if◌then◌else◌, List, [], ◌∷◌, ◌++◌, replicate}
use Rattle.std.specs.Prelude.{slice_index_or, slice_set, Option, Some, None, is_some}
use Rattle.std.specs.List.{list_any}
use Rattle.dg_script.specs.Sizes.{most_motes}
use Rattle.dg_script.specs.declared.fault.LineFault.{LineFault}
use Rattle.dg_script.specs.declared.fault.LineFault.TheVariants as fault
use Rattle.dg_script.specs.declared.line.Line.{Line}
use Rattle.dg_script.specs.declared.line.Line.TheVariants.{Nothing, Motes, Golden, Boards, Link, Narrow, Image, Cut}
use Rattle.dg_script.specs.declared.line.Line.TheVariants.{Happens as EventLine}
use Rattle.dg_script.specs.declared.line.Line.TheVariants.{Round, Sweeps}
use Rattle.dg_script.specs.declared.place.Place.{Place}

-- no mote is narrow
abbrev pub none_narrow : List Bool
none_narrow = replicate most_motes false

-- before the first line
abbrev pub first_place : Place
first_place = record { motes = 0; ready = false; events = false; cut = None; links = []; narrow = none_narrow }

-- the place after a line
abbrev pub place_after : Place → Line → Place
place_after place (Motes motes) = record place { motes = motes }
place_after place (Golden name used content) = record place { ready = true }
place_after place Boards = record place { ready = true }
place_after place (Link a b) = record place { links = place.links ++ (a, b) ∷ [] }
place_after place (Narrow mote) = record place { narrow = slice_set place.narrow mote true }
place_after place (Cut cut) = record place { cut = Some cut }
place_after place (EventLine event) = record place { events = true; cut = None }
place_after place (Round a b) = record place { events = true }
place_after place (Sweeps n) = record place { events = true }
place_after place line = place

-- a link joins two motes, in either order
abbrev pub joins : (a b : ℕ) → (ℕ × ℕ) → Bool
joins a b link = (link.0 == a && link.1 == b) || (link.0 == b && link.1 == a)

abbrev pub is_linked : List (ℕ × ℕ) → (a b : ℕ) → Bool
is_linked links a b = list_any (joins a b) links

-- a mote was declared narrow
abbrev pub is_narrow : List Bool → ℕ → Bool
is_narrow narrow mote = slice_index_or narrow mote false

-- the fault of an input that ends here, if it may not: its second line is missing, or the event after a cut
abbrev pub fault_at_end : Place → Option LineFault
fault_at_end place = if not place.ready then Some fault.Place else if is_some place.cut then Some fault.Cut else None

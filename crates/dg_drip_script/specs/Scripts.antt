-- What the lines of a script say, and the report of a script (docs/SCRIPTS.md, "Scripts of nodes").
use Rattle.std.specs.Prelude.{ℕ, Bool, true, false, if◌then◌else◌, List, [], ◌∷◌, ◌++◌, map, Option, Some, None, Result, Ok, Err}
use Rattle.std.specs.List.{flat_map}
use Rattle.dg_drip.specs.declared.events.DripEvent.{DripEvent}
use Rattle.dg_drip.specs.Network.{Network, start, run, applied, are_drip_neighbours}
use Rattle.dg_drip.specs.Spread.{drip_round, sweeps}
use Rattle.dg_drip_replay.specs.Reports.{report_of_event}
use Rattle.dg_drip_script.specs.Lines.{drip_line_of}
use Rattle.dg_drip_script.specs.Reports.{reported_text}
use Rattle.dg_drip_script.specs.declared.line.DripLine.{DripLine}
use Rattle.dg_drip_script.specs.declared.line.DripLine.TheVariants.{Nothing, Nodes, Link, Event as EventLine, Round, Sweeps}
use Rattle.dg_drip_script.specs.declared.line.DripFault.{DripFault}
use Rattle.dg_drip_script.specs.declared.line.Standing.{Standing}

-- an event, and whether a frame that it sends is reported: in rounds it is not
pub record DripItem : Type 0 where
  pub event : DripEvent
  pub reported : Bool

-- how many nodes there are, 0 before that is said, whether the first event, round or sweep came, the links,
-- and the events in their order
pub record DripScript : Type 0 where
  pub nodes : ℕ
  pub begun : Bool
  pub links : List (ℕ × ℕ)
  pub items : List DripItem

abbrev pub first_script : DripScript
first_script = record { nodes = 0; begun = false; links = []; items = [] }

-- where a script's next line stands
abbrev pub standing_of : DripScript → Standing
standing_of s = record { nodes = s.nodes; begun = s.begun }

-- ---- what lines add

abbrev pub unreported_items : List DripEvent → List DripItem
unreported_items events = map (λ e. record { event = e; reported = false }) events

abbrev pub with_items : DripScript → List DripItem → DripScript
with_items s items = record s { items = s.items ++ items }

abbrev pub begun_script : DripScript → DripScript
begun_script s = record s { begun = true }

-- an event, round or sweep came, and gave these items
abbrev pub and_items : DripScript → List DripItem → DripScript
and_items s items = record s { begun = true; items = s.items ++ items }

-- a script, and one line more
abbrev pub with_drip_line : DripScript → DripLine → DripScript
with_drip_line s Nothing = s
with_drip_line s (Nodes count) = record s { nodes = count }
with_drip_line s (Link a b) = if are_drip_neighbours s.links a b then s else record s { links = s.links ++ (a, b) ∷ [] }
with_drip_line s (EventLine event) = and_items s (record { event = event; reported = true } ∷ [])
with_drip_line s (Round a b) = and_items s (unreported_items (drip_round a b))
with_drip_line s (Sweeps count) = and_items s (flat_map (λ p. unreported_items (drip_round p.0 p.1)) (sweeps count s.links))

-- the script that the texts of lines spell after a script, where none of them has a fault
abbrev pub then_line : Result DripLine DripFault → (DripLine → Option DripScript) → Option DripScript
then_line (Ok line) go = go line
then_line (Err fault) go = None

abbrev pub spelled_behind : DripScript → List (List ℕ) → Option DripScript
spelled_behind s [] = Some s
spelled_behind s (text ∷ texts) =
    then_line (drip_line_of (standing_of s) text) (λ line. spelled_behind (with_drip_line s line) texts)

abbrev pub drip_script_of : List (List ℕ) → Option DripScript
drip_script_of texts = spelled_behind first_script texts

-- ---- its run and its report

abbrev pub drip_events_of : List DripItem → List DripEvent
drip_events_of items = map (λ i. i.event) items

-- the network after the events of a script, from nodes that keep nothing
abbrev pub network_of : DripScript → Network
network_of s = run (start s.links) (drip_events_of s.items)

-- what is reported of events, one after the other
abbrev pub text_of_run : Network → List DripItem → List ℕ
text_of_run w [] = []
text_of_run w (i ∷ items) = reported_text (report_of_event w i.reported i.event) ++ text_of_run (applied w i.event) items

abbrev pub report_of : DripScript → List ℕ
report_of s = text_of_run (start s.links) s.items

-- the rounds between these pairs of nodes
abbrev pub rounds_items : List (ℕ × ℕ) → List DripItem
rounds_items pairs = flat_map (λ p. unreported_items (drip_round p.0 p.1)) pairs

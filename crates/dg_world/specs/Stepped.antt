-- What is reported of a step, and how it leaves the board (docs/ARCHITECTURE.md, "The way of a script line").
use Rattle.std.specs.Prelude.{◌≡◌, ℕ, ◌+◌, Bool, false, slice_set, length, List, ◌++◌, Option, Some}
use Rattle.std.specs.List.{filter}
use Rattle.dg_nor.specs.Device.{Device}
use Rattle.dg_slot.specs.Pages.{program}
use Rattle.dg_volume.specs.Stands.{Stands}
use Rattle.dg_volume.specs.Start.{Runs}
use Rattle.dg_rules.specs.World.{World as RuleWorld, Site}
use Rattle.dg_rules.specs.Events.{EventEffect, Goes, does, mote_of, dt_of}
use Rattle.dg_rules.specs.Steps.{WorldStep, blows}
use Rattle.dg_base.specs.declared.events.Step.{Step}
use Rattle.dg_rules.specs.Changes.{is_reported}
use Rattle.dg_script.specs.declared.report.Report.{Report}
use Rattle.dg_shared.specs.Airs.{sent_now}
use Rattle.dg_world.specs.Worlds.{MoteStands}
use Rattle.dg_node.specs.declared.node.Node.{Node}

-- a board with what the mote there runs, and what was reported so far
pub record BoardState : Type 0 where
  pub board : Device
  pub runs : Option Node
  pub reported : List Report

abbrev pub board_state : Device → Option Node → List Report → BoardState
board_state board runs report = record { board = board; runs = runs; reported = report }

-- A step that the rules allow was done at its board, which stood for the mote's store. b has the board, what its mote runs and
-- the report afterwards. What was reported and sent is what the rules say.
pub record StepDone (w : RuleWorld) (x : Step) (reported : Bool) (frame : Option (List ℕ)) (report_before : List Report)
    (b : BoardState) : Type 0 where
  pub world : RuleWorld
  pub reports : List Report
  pub step : WorldStep w x world reports
  pub report_now : b.reported ≡ report_before ++ filter (is_reported reported) reports
  pub here : Site
  pub moment : world.moment ≡ w.moment + dt_of x.event
  pub events : world.events ≡ w.events + 1
  pub declared : world.declared ≡ w.declared
  pub links : world.links ≡ w.links
  pub narrow : world.narrow ≡ w.narrow
  pub sent : world.sent ≡ w.sent ++ sent_now (mote_of x.event) frame
  pub sites : world.sites ≡ slice_set w.sites (mote_of x.event) here
  pub stands : Stands b.board.image here.store
  pub mote : MoteStands b.board.image b.runs here.store here.runs
  pub memory : (d : EventEffect) (r : Runs) → does w x.event ≡ Goes d → blows x.cut d.trail ≡ false → d.started ≡ Some r
      → program b.board.image (length r.pages) ≡ r.pages

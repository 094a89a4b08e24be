-- What is reported of an event at a node (docs/SCRIPTS.md, "Scripts of nodes").
use Rattle.std.specs.Prelude.{ℕ, ◌+◌, ◌&&◌, Bool, if◌then◌else◌, Option, Some, None, option_and_then}
use Rattle.dg_drip.specs.declared.frame.Said.{Said}
use Rattle.dg_drip.specs.declared.events.DripEvent.{DripEvent}
use Rattle.dg_drip.specs.declared.events.DripEvent.TheVariants.{Set, Tick, Hear, Last}
use Rattle.dg_drip.specs.Cells.{is_last, are_same_entries, tells}
use Rattle.dg_drip.specs.Network.{Network, entry_at, are_drip_neighbours, frame_numbered, last_said, applied}
use Rattle.dg_drip_replay.specs.declared.report.DripCause.TheVariants as cause
use Rattle.dg_drip_replay.specs.declared.report.DripReport.{DripReport}
use Rattle.dg_drip_replay.specs.declared.report.DripReport.TheVariants.{Refused, Sent, Got}

-- what a node keeps of a key has changed
abbrev pub got : (old new : Network) → (node key : ℕ) → Option DripReport
got old new node key =
    let kept = entry_at new node key in if are_same_entries kept (entry_at old node key) then None else Some (Got node key kept)

-- a node hears a frame of a neighbour, and no other
abbrev pub report_of_frame : (old new : Network) → ℕ → Option Said → Option DripReport
report_of_frame old new node None = Some (Refused node cause.Frame)
report_of_frame old new node (Some s) =
    if are_drip_neighbours old.links s.source node then got old new node s.key else Some (Refused node cause.Link)

-- What is reported of an event. In rounds, frames that were sent are not reported.
abbrev pub report_of_event : Network → (reported : Bool) → DripEvent → Option DripReport
report_of_event w reported (Set node key value dt word) =
    if is_last (entry_at w node key) then Some (Refused node cause.Last)
    else got w (applied w (Set node key value dt word)) node key
report_of_event w reported (Tick node key dt word) =
    if reported && tells (w.cells node key) (w.moment + dt) then Some (Sent node key (entry_at w node key)) else None
report_of_event w reported (Hear node dt word frame) =
    report_of_frame w (applied w (Hear node dt word frame)) node (frame_numbered w.sent frame)
report_of_event w reported (Last from to key) =
    option_and_then (λ (s : Said). got w (applied w (Last from to key)) to s.key) (last_said w.sent from key)

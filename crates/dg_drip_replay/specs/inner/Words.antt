-- Words of proofs.
use Rattle.std.specs.Prelude.{ℕ, if◌then◌else◌, Option, Some, None, option_and_then}
use Rattle.dg_drip.specs.declared.entry.Entry.{Entry}
use Rattle.dg_drip.specs.Cells.{are_same_entries}
use Rattle.dg_drip_replay.specs.declared.report.DripReport.{DripReport}
use Rattle.dg_drip_replay.specs.declared.report.DripReport.TheVariants.{Got}
use Rattle.dg_drip.specs.declared.frame.Said.{Said}
use Rattle.dg_drip.specs.Network.{Network}
use Rattle.dg_drip_replay.specs.Reports.{got}

-- a node got an entry, if what it keeps of the key changed
abbrev pub got_if_other : (node key : ℕ) → (old new : Entry) → Option DripReport
got_if_other node key old new = if are_same_entries new old then None else Some (Got node key new)

-- in a round nothing is refused
abbrev pub report_of_last : (old new : Network) → ℕ → Option Said → Option DripReport
report_of_last old new node found = option_and_then (λ (s : Said). got old new node s.key) found

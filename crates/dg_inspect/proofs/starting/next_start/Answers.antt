use Rattle.std.proofs.Common.{◌∙◌, sym}
use Rattle.dg_inspect.specs.Starts.{once_counted}
use Rattle.dg_inspect.proofs.StartingLemmas.{boot_runs}
use Rattle.dg_inspect.proofs.starting.next_start.Goals as goal

pub returns : goal.returns
returns c c' s mounted shown =
    let chosen = c.choose.ensures (once_counted s) (c.start_facts-facts.ensures c' s mounted shown) in
    record { runs = chosen.runs ∙ sym (boot_runs s); reason = chosen.reason; waives = chosen.waives }

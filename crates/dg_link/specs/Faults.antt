-- The texts of the faults of a link (docs/COMMANDS.md, "Serve").
use Rattle.std.specs.Prelude.{ℕ, List, codes}
use Rattle.dg_link.specs.declared.link.OpenFault.{OpenFault}
use Rattle.dg_link.specs.declared.link.OpenFault.TheVariants.{Memory, LinkFailed}

abbrev pub open_fault_text : OpenFault → List ℕ
open_fault_text Memory = codes "out of memory"
open_fault_text LinkFailed = codes "the link failed"

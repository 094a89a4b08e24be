-- How faults are displayed (docs/COMMANDS.md, "Hash-chained images").
use Rattle.std.specs.Prelude.{ℕ, List, ◌++◌, codes}
use Rattle.std.specs.Fmt.{decimal}
use Rattle.dg_chain.specs.declared.checking.ChainFault.{ChainFault}
use Rattle.dg_chain.specs.declared.checking.ChainFault.TheVariants as chain_fault
use Rattle.dg_chain.specs.declared.wrapping.WrapFault.{WrapFault}
use Rattle.dg_chain.specs.declared.wrapping.WrapFault.TheVariants as wrap_fault

abbrev pub wrap_fault_text : WrapFault → List ℕ
wrap_fault_text wrap_fault.Memory = codes "out of memory"
wrap_fault_text wrap_fault.Empty = codes "the payload is empty"
wrap_fault_text (wrap_fault.TooLarge n) = codes "the payload is too large: it has " ++ (decimal n ++ codes " bytes")

abbrev pub chain_fault_text : ChainFault → List ℕ
chain_fault_text chain_fault.Stopped = codes "the flash chip is stopped"
chain_fault_text (chain_fault.Broken page kept found) =
    codes "page " ++ (decimal page ++ codes " is not the one that is named before it")
chain_fault_text chain_fault.Shape = codes "the pages are not those of a payload"

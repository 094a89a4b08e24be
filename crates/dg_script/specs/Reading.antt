-- What a reader returns for a text that spells something, or has a fault (docs/SCRIPTS.md, "The script").
use Rattle.std.specs.Prelude.{◌≡◌, ◌≢◌, Result, Ok, Err}
use Rattle.dg_script.specs.declared.fault.LineFault.{LineFault}
use Rattle.dg_script.specs.declared.fault.LineFault.TheVariants.{Memory}

-- A reader returns what is spelled, or the fault, unless memory ran out.
abbrev pub Reads : {A : Type 0} → Result A LineFault → Result A LineFault → Type 0
Reads (Ok x) spelled = spelled ≡ Ok x
Reads (Err fault) spelled = fault ≢ Memory → spelled ≡ Err fault

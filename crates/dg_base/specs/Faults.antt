-- The texts of the faults of numbers, names and hex digits (the `Display` of this crate's types).
use Rattle.std.specs.Prelude.{ℕ, List, codes}
use Rattle.dg_base.specs.declared.hexadecimal.HexFault.{HexFault}
use Rattle.dg_base.specs.declared.hexadecimal.HexFault.TheVariants.{Odd, Digit, Memory}

abbrev pub hex_fault_text : HexFault → List ℕ
hex_fault_text Odd = codes "an odd number of hex digits"
hex_fault_text Digit = codes "a byte that is no hex digit"
hex_fault_text Memory = codes "out of memory"

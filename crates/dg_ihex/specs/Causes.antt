-- The causes of refusals (Intel Hexadecimal Object File Format Specification, revision A).
use Rattle.std.specs.Prelude.{ℕ, List, codes}
use Rattle.dg_ihex.specs.declared.faults.HexCause.{HexCause}
use Rattle.dg_ihex.specs.declared.faults.HexCause.TheVariants.{Start, Hex, Count, Check, Kind, Shape, Overlap, Span, End, Memory}
use Rattle.dg_ihex.specs.declared.faults.HexFileFault.{HexFileFault}

-- a cause as it is printed
abbrev pub cause_text : HexCause → List ℕ
cause_text Start = codes "start"
cause_text Hex = codes "hex"
cause_text Count = codes "count"
cause_text Check = codes "check"
cause_text Kind = codes "kind"
cause_text Shape = codes "shape"
cause_text Overlap = codes "overlap"
cause_text Span = codes "span"
cause_text End = codes "end"
cause_text Memory = codes "memory"

-- out of memory, at line 0
abbrev pub out_of_memory : HexFileFault
out_of_memory = record { line = 0; cause = Memory }

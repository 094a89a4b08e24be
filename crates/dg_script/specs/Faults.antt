-- The words that report the faults of lines (docs/SCRIPTS.md, "The script").
use Rattle.std.specs.Prelude.{ℕ, List, codes}
use Rattle.dg_script.specs.declared.fault.LineFault.{LineFault}
use Rattle.dg_script.specs.declared.fault.LineFault.TheVariants.{Memory, Verb, Few, Many, Number, Mote, Image, Version, Name}
use Rattle.dg_script.specs.declared.fault.LineFault.TheVariants.{Content, Mask, Place, Cut, Long}

abbrev pub fault_name : LineFault → List ℕ
fault_name Memory = codes "memory"
fault_name Verb = codes "verb"
fault_name Few = codes "few"
fault_name Many = codes "many"
fault_name Number = codes "number"
fault_name Mote = codes "mote"
fault_name Image = codes "image"
fault_name Version = codes "version"
fault_name Name = codes "name"
fault_name Content = codes "content"
fault_name Mask = codes "mask"
fault_name Place = codes "place"
fault_name Cut = codes "cut"
fault_name Long = codes "long"

-- The texts of the faults of a network profile (docs/COMMANDS.md, "Serve").
use Rattle.std.specs.Prelude.{ℕ, List, codes}
use Rattle.dg_netcfg.specs.declared.profile.ProfileFault.{ProfileFault}
use Rattle.dg_netcfg.specs.declared.profile.ProfileFault.TheVariants.{NotToml, Key, Id, Link, Port, Memory}

abbrev pub profile_fault_text : ProfileFault → List ℕ
profile_fault_text NotToml = codes "nottoml"
profile_fault_text Key = codes "key"
profile_fault_text Id = codes "id"
profile_fault_text Link = codes "link"
profile_fault_text Port = codes "port"
profile_fault_text Memory = codes "out of memory"

use Rattle.std.proofs.Common.{◌≡◌, string_bytes}
use Rattle.std.specs.List.{list_all}
use Rattle.std.specs.BTreeMap.{keys}
use Rattle.dg_netcfg.specs.Profile.{is_key}
use Rattle.dg_netcfg.proofs.reading.has_known_keys.Given as goal

abbrev pub invariant-loop-key : goal.invariant-loop-key
invariant-loop-key l = list_all (λ k. is_key (string_bytes k)) (keys l.document) ≡ list_all (λ k. is_key (string_bytes k)) l.key-iterator

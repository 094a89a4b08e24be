use Rattle.std.proofs.Common.{◌≡◌, map, take}
use Rattle.serde_json.specs.View.{view}
use Rattle.dg_inspect_text.specs.Json.{count_json, or_null}
use Rattle.dg_inspect_text.proofs.data.versions_value.Given as goal

-- the versions so far
abbrev pub invariant-loop-version : goal.invariant-loop-version
invariant-loop-version l = map view l.values.items ≡ map (or_null count_json) (take l.version-index l.versions)

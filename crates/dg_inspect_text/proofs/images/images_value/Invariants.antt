use Rattle.std.proofs.Common.{◌≡◌, map, take}
use Rattle.serde_json.specs.View.{view}
use Rattle.dg_inspect_text.specs.Json.{numbered, kept_json}
use Rattle.dg_inspect_text.proofs.images.images_value.Given as goal

-- the images so far
abbrev pub invariant-loop-number : goal.invariant-loop-number
invariant-loop-number l = map view l.kept.items ≡ numbered kept_json 0 (take l.number l.images)

use Rattle.std.proofs.Common.{◌≡◌, map}
use Rattle.std.specs.List.{filter, range_with_len}
use Rattle.std.specs.FinSet as set
use Rattle.serde_json.specs.View.{view}
use Rattle.dg_inspect_text.specs.Json.{count_json}
use Rattle.dg_inspect_text.proofs.images.pages_value.Given as goal

-- the pages so far
abbrev pub invariant-loop-page : goal.invariant-loop-page
invariant-loop-page l = map view l.numbers.items ≡ map count_json (filter (set.contains l.pages) (range_with_len 0 l.page))

use Rattle.std.proofs.Common.{◌≡◌, map, take}
use Rattle.serde_json.specs.View.{view}
use Rattle.dg_inspect_text.specs.Json.{report_json}
use Rattle.dg_inspect_text.proofs.data.reports_value.Given as goal

-- the files so far
abbrev pub invariant-loop-report : goal.invariant-loop-report
invariant-loop-report l = map view l.values.items ≡ map report_json (take l.report-index l.reports)

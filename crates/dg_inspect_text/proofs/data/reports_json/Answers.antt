use Rattle.std.proofs.Common.{string_bytes}
use Rattle.dg_inspect_text.specs.Json.{reports_json}
use Rattle.dg_inspect_text.proofs.JsonLemmas.{plain_reports, line_told}
use Rattle.dg_inspect_text.proofs.data.reports_json.Goals as goal

pub returns : goal.returns
returns c = line_told string_bytes c.line_of.result c.in_ok-value.value (reports_json c.args.reports.now) c.in_ok-value.ensures (plain_reports c.args.reports.now) c.line_of.ensures

use Rattle.std.proofs.Common.{string_bytes}
use Rattle.dg_inspect_text.specs.Json.{verdict_json}
use Rattle.dg_inspect_text.proofs.JsonLemmas.{plain_verdict, line_told}
use Rattle.dg_inspect_text.proofs.findings.verdict_json.Goals as goal

pub returns : goal.returns
returns c = line_told string_bytes c.line_of.result c.in_ok-value.value (verdict_json c.args.file.now c.args.moment.now c.args.verdict) c.in_ok-value.ensures (plain_verdict c.args.file.now c.args.moment.now c.args.verdict) c.line_of.ensures

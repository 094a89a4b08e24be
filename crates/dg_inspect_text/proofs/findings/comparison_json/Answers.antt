use Rattle.std.proofs.Common.{string_bytes}
use Rattle.dg_inspect_text.specs.Json.{sources_json, comparison_json}
use Rattle.dg_inspect_text.proofs.JsonLemmas.{plain_sources, plain_comparison, line_told}
use Rattle.dg_inspect_text.proofs.findings.comparison_json.Goals as goal

pub returns : goal.returns
returns c =
    let files = sources_json c.args.name.now c.args.moment.now c.args.other.now c.args.other_moment.now in
    let plain = plain_sources c.args.name.now c.args.moment.now c.args.other.now c.args.other_moment.now in
    line_told string_bytes c.line_of.result c.in_ok-value.value (comparison_json files c.args.found.now) (rw c.in_ok-files.ensures at c.in_ok-value.ensures) (plain_comparison files c.args.found.now plain) c.line_of.ensures

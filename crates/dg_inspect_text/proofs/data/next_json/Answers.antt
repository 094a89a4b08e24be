use Rattle.std.proofs.Common.{string_bytes}
use Rattle.dg_inspect_text.specs.Json.{next_json}
use Rattle.dg_inspect_text.proofs.JsonLemmas.{plain_next, line_told}
use Rattle.dg_inspect_text.proofs.data.next_json.Goals as goal

pub returns : goal.returns
returns c = line_told string_bytes c.line_of.result c.in_ok-value.value (next_json c.args.next.now) c.in_ok-value.ensures (plain_next c.args.next.now) c.line_of.ensures

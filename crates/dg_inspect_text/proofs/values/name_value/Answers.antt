use Rattle.std.proofs.Common.{[], ap, ◌∙◌}
use Rattle.serde_json.specs.Data.{string}
use Rattle.dg_inspect_text.specs.Json.{name_json}
use Rattle.dg_inspect_text.proofs.JsonLemmas.{name_is_text, name_is_none, told_as}
use Rattle.dg_inspect_text.proofs.values.name_value.Goals as goal

pub returns-in-Ok : goal.returns-in-Ok
returns-in-Ok c =
    let text = c.in-Ok.ensures.cases in
    told_as c.text_value.result (string c.in-Ok.text.now) (name_json c.args.name.now) (ap string text.0 ∙ name_is_text c.args.name.now text.1) c.text_value.ensures

pub returns-in-Err : goal.returns-in-Err
returns-in-Err c = told_as c.text_value-in-Err.result (string []) (name_json c.args.name.now) (name_is_none c.args.name.now c.in-Err.ensures.cases.0) c.text_value-in-Err.ensures

use Rattle.std.proofs.Common.{◌<◌, [], ◌∷◌, ap, ◌∙◌, map, length, arith}
use Rattle.std.proofs.lemmas.List.{get_or_default}
use Rattle.serde_json.specs.Data.{Data}
use Rattle.serde_json.specs.View.{view}
use Rattle.dg_inspect_text.specs.Json.{compared_json, array_of}
use Rattle.serde_json.proofs.Views.{view-Array}
use Rattle.dg_inspect_text.proofs.JsonLemmas.{numbered_pushed, numbered_none, numbered_all}
use Rattle.dg_inspect_text.proofs.findings.images_value.Goals as goal

pub loop-number-init : goal.loop-number-init
loop-number-init c = numbered_none compared_json c.new-values.result.items c.new-values.ensures.items

pub loop-number-preserved : goal.loop-number-preserved
loop-number-preserved c =
    let number = c.loop-number.number in
    let images = c.args.images.now in
    let low : number < length images = omega (arith, c.loop-number-test.true) in
    ap (map view) c.in_ok-push.ensures.items
    ∙ numbered_pushed compared_json images number _ c.in_ok-image_value.field-0 c.loop-number.values.items low (get_or_default images number _ _ low)
    (ap (λ (d : Data). d ∷ []) c.in_ok-image_value.ensures) c.loop-number.invariant

pub returns : goal.returns
returns c =
    let all = numbered_all compared_json c.args.images.now c.loop-number.number c.loop-number.values.items (omega (arith, c.loop-number-test.false)) c.loop-number.invariant in
    view-Array c.loop-number.values ∙ ap array_of all

use Rattle.std.proofs.Common.{Vec, Global, ◌<◌, length, [], ◌∷◌, sym, ap, ◌∙◌, map, arith}
use Rattle.serde_json.specs.Data.{Data}
use Rattle.serde_json.specs.View.{view}
use Rattle.serde_json.specs.declared.value.Value.{Value}
use Rattle.dg_inspect_text.specs.Json.{kept_json, array_of}
use Rattle.serde_json.proofs.Views.{view-Array}
use Rattle.dg_inspect_text.proofs.JsonLemmas.{numbered_pushed, numbered_passed, numbered_none, numbered_all, kept_none}
use Rattle.dg_inspect_text.proofs.images.images_value.Goals as goal
use Rattle.dg_inspect_text.proofs.images.images_value.Goals.{in-Some+in_ok-image_value+in_ok-push, in_default}

pub loop-number-init : goal.loop-number-init
loop-number-init c = numbered_none kept_json c.new-kept.result.items c.new-kept.ensures.items

pub loop-number-preserved : goal.loop-number-preserved
loop-number-preserved c =
    let number = c.loop-number.number in
    let images = c.args.images.now in
    let before = c.loop-number.kept.items in
    let low : number < length images = omega (arith, c.loop-number-test.true) in
    let seen = c.index-images-number in
    elim c.match-images-number.branch [
      | in-Some+in_ok-image_value+in_ok-push w ↦
          ap (λ (v : Vec Value Global). map view v.items) w.kept-is
          ∙ ap (map view) w.in_ok-push.ensures.items
          ∙ numbered_pushed kept_json images number seen.result w.in_ok-image_value.field-0 before low seen.is
          (ap (λ (d : Data). d ∷ []) w.in_ok-image_value.ensures ∙ ap (kept_json number) (sym w.in-Some.is)) c.loop-number.invariant
      | in_default w ↦
          ap (λ (v : Vec Value Global). map view v.items) w.kept-is
          ∙ numbered_passed kept_json images number seen.result before low seen.is (kept_none number seen.result w.in_default.not-Some) c.loop-number.invariant
    ]

pub returns : goal.returns
returns c =
    let all = numbered_all kept_json c.args.images.now c.loop-number.number c.loop-number.kept.items (omega (arith, c.loop-number-test.false)) c.loop-number.invariant in
    view-Array c.loop-number.kept ∙ ap array_of all

use Rattle.std.proofs.Common.{◌≡◌, Err, List, ℕ, rules, sym, ap, ◌∙◌}
use Rattle.base64.specs.Engines.{standard}
use Rattle.base64.specs.GeneralPurpose.{decode_of, encode_of}
use Rattle.dg_sign.specs.KeyTexts.{IsFramed, agreeing}
use Rattle.dg_sign.proofs.TextLemmas.{pem_read}
use Rattle.dg_sign.proofs.keys.read_pem.Goals as goal

pub returns-in-Ok : goal.returns-in-Ok
returns-in-Ok c =
    let line = c.args.line.now in
    let all = sym (c.agreeing-at.ensures.count ∙ ap (λ (p : List ℕ). agreeing p line) c.as_slice.ensures) ∙ c.if-at-ne-PEM_SIZE.false in
    let framed : IsFramed line = (all, c.if-line-ne-PEM_SIZE.false) in
    let encoded = sym c.in_ok-characters.ensures ∙ (sym c.deref.ensures.value ∙ (c.in-Ok.ensures.exact (search rules) ∙ ap (encode_of standard) (sym c.deref-in-Ok.ensures.value))) in
    pem_read line c.deref-in-Ok.result.now c.read_der.result framed encoded c.read_der.ensures

pub returns-in-Err-DecodeError : goal.returns-in-Err-DecodeError
returns-in-Err-DecodeError c =
    let line = c.args.line.now in
    let all = sym (c.agreeing-at.ensures.count ∙ ap (λ (p : List ℕ). agreeing p line) c.as_slice.ensures) ∙ c.if-at-ne-PEM_SIZE.false in
    let framed : IsFramed line = (all, c.if-line-ne-PEM_SIZE.false) in
    let told : decode_of standard c.deref.result.now ≡ Err c.in-Err-DecodeError.cause = search rules in
    (framed, ap (decode_of standard) (sym (c.deref.ensures.value ∙ c.in_ok-characters.ensures)) ∙ told)

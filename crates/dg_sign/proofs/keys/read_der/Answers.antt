use Rattle.std.proofs.Common.{List, ℕ, sym, ap, ◌∙◌}
use Rattle.dg_sign.specs.KeyTexts.{agreeing}
use Rattle.dg_sign.proofs.TextLemmas.{der_read, info_front}
use Rattle.dg_sign.proofs.keys.read_der.Goals as goal

pub returns : goal.returns
returns c =
    let der = c.args.der.now in
    let all = sym (c.agreeing-at.ensures.count ∙ ap (λ (p : List ℕ). agreeing p der) c.as_slice.ensures) ∙ c.if-at-ne-INFO_SIZE.false in
    der_read der _ c.key_of.result (info_front der all) c.key_of.ensures

use Rattle.std.proofs.Common.{◌≡◌, ℕ, ◌<◌, length, slice_index, true, true≢false, below_more, arith, sym, ap, ◌∙◌}
use Rattle.std.proofs.lemmas.Grind.{get_or_default_zero}
use Rattle.dg_base.specs.Hexadecimal.{is_hex_digit}
use Rattle.dg_sign.proofs.keys.first_other.Goals as goal

pub loop-at-preserved : goal.loop-at-preserved
loop-at-preserved c =
    below_more (λ (k : ℕ). is_hex_digit (slice_index c.args.text.now k) ≡ true) c.loop-at.at c.loop-at.invariant
    (sym c.is_hex_digit.ensures ∙ c.if-not-is_hex_digit.false)

pub returns : goal.returns
returns c =
    let x = c.requires.0 in
    let other = c.requires.1 in
    let among = c.requires.2 in
    let same = sym (get_or_default_zero c.args.text.now x other among) ∙ c.requires.3 in
    let digit = c.loop-at.invariant x (omega (arith, among, c.loop-at-test.false)) in
    absurd (true≢false (sym digit ∙ (ap (λ (b : ℕ). is_hex_digit b) same ∙ c.requires.4)))

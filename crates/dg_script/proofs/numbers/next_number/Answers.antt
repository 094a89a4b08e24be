use Rattle.std.proofs.Common.{rules, ◌≡◌, ◌+◌, ◌<◌, ◌≤◌, ◌%◌, length, get_or, refl, ap, arith}
use Rattle.dg_script.proofs.NumberLineLemmas.{holds, digit_by, one_digit, next_found}
use Rattle.dg_script.proofs.numbers.next_number.Goals as goal

pub returns-then-ends_a_word-clause-number : goal.returns-then-ends_a_word-clause-number
returns-then-ends_a_word-clause-number c =
    let text = c.args.text.now in
    let more = c.split_at.result.1.now in
    let first = (c.from-first.result + 4294967248) % 4294967296 in
    let small : first ≤ 9 = omega (arith, c.if-first-gt9.false) in
    let byte : get_or text 1 0 < 256 = search rules in
    let d = digit_by (get_or text 1 0) first byte (ap (λ b. (b + 4294967248) % 4294967296) c.from-first.ensures) small in
    let here : get_or text 1 0 ≡ 48 + first = omega (arith, d.0, d.2) in
    let ends : 0 < length more → get_or more 0 0 ≡ 32 = holds c.ends_a_word.result c.if-ends_a_word.true c.ends_a_word.ensures in
    next_found text more more first first 0 (omega (arith, c.if-text-lt2.false)) c.if-text-ne32.false here small c.split_at.ensures.back (omega arith) (omega arith) refl (one_digit first small) (λ none. refl) refl ends

pub returns-clause-number : goal.returns-clause-number
returns-clause-number c =
    let text = c.args.text.now in
    let more = c.split_at.result.1.now in
    let first = (c.from-first.result + 4294967248) % 4294967296 in
    let small : first ≤ 9 = omega (arith, c.if-first-gt9.false) in
    let byte : get_or text 1 0 < 256 = search rules in
    let d = digit_by (get_or text 1 0) first byte (ap (λ b. (b + 4294967248) % 4294967296) c.from-first.ensures) small in
    let here : get_or text 1 0 ≡ 48 + first = omega (arith, d.0, d.2) in
    let rest = c.split_at-2.result.1.now in
    let few : c.more_digits-number.result.1 ≤ 8 = omega (arith, c.if-count-gt-MORE_DIGITS.false) in
    let ends : 0 < length rest → get_or rest 0 0 ≡ 32 = holds c.ends_a_word-2.result c.if-not-ends_a_word.false c.ends_a_word-2.ensures in
    next_found text more rest first c.more_digits-number.result.0 c.more_digits-number.result.1 (omega (arith, c.if-text-lt2.false)) c.if-text-ne32.false here small c.split_at.ensures.back few c.more_digits-number.ensures.within c.more_digits-number.ensures.digits
    (c.more_digits-number.ensures.value few) (λ none. absurd (omega (arith, none, c.if-first-eq0.false))) c.split_at-2.ensures.back ends

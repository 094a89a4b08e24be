use Rattle.std.proofs.Common.{◌≡◌, ◌*◌, ◌/◌, ◌^◌, ◌<◌, sym, ap, ◌∙◌, ⊎_elim, arith}
use Rattle.std.proofs.lemmas.Bool.{cases_lt}
use Rattle.dg_ledger.proofs.CountLemmas.{one_more_set, one_more_cleared, byte_fits, count_fits}
use Rattle.dg_breaks.proofs.ByteLemmas.{no_fewer}
use Rattle.dg_breaks.proofs.unfit.count_byte.Goals as goal

pub returns-then-from-cleared-clause-no_fit : goal.returns-then-from-cleared-clause-no_fit
returns-then-from-cleared-clause-no_fit c _ n few e =
    c.if-from-cleared.true (c.from.ensures ∙ byte_fits c.args.at c.args.count c.args.byte n c.requires.within e
    ∙ ap (λ k. 255 / 2 ^ k) (sym c.count_zeros-cleared.ensures.value))

pub returns-then-byte-eq255-clause-fits : goal.returns-then-byte-eq255-clause-fits
returns-then-byte-eq255-clause-fits c = (omega arith, c.requires.few, one_more_set c.args.at c.args.count c.args.byte c.requires.within c.if-byte-eq255.true)

pub returns-then-count-at-clause-no_fit : goal.returns-then-count-at-clause-no_fit
returns-then-count-at-clause-no_fit c _ n few e =
    let zeros = c.count_zeros-cleared.result in
    let some : 0 < zeros = ⊎_elim
    (λ none. let zero : zeros ≡ 0 = omega arith in let byte : c.args.byte ≡ 255 = sym c.from.ensures ∙ c.if-from-cleared.false ∙ ap (λ k. 255 / 2 ^ k) zero in absurd (omega arith))
    (λ h. h)
    (cases_lt zeros 1) in
    let whole = count_fits c.args.at c.args.count c.args.byte n c.requires.within e (omega (arith, c.count_zeros-cleared.ensures.value, some)) in
    omega (arith, whole, c.if-count-at.true)

pub returns-clause-fits : goal.returns-clause-fits
returns-clause-fits c =
    let bound = c.count_zeros-cleared.ensures.bound in
    let whole : c.args.count ≡ 8 * c.args.at = omega (arith, c.requires.within, c.if-count-at.false) in
    (omega (arith, whole, bound), omega arith, one_more_cleared c.args.at c.args.count c.count_zeros-cleared.result c.args.byte whole bound (sym c.from.ensures ∙ c.if-from-cleared.false))

pub returns-then-count-cleared-clause-no_fit : goal.returns-then-count-cleared-clause-no_fit
returns-then-count-cleared-clause-no_fit c _ n few e =
    let bound = c.count_zeros-cleared.ensures.bound in
    let whole : c.args.count ≡ 8 * c.args.at = omega (arith, c.requires.within, c.if-count-at.false) in
    let more = no_fewer c.args.at c.args.count c.count_zeros-cleared.result n c.args.byte whole bound (sym c.from.ensures ∙ c.if-from-cleared.false) e in
    omega (arith, more, few, c.if-count-cleared.true)

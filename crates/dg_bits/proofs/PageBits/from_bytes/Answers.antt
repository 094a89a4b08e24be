use Rattle.std.proofs.Common.{◌≡◌, List, ℕ, ◌<◌, ◌≤◌, ◌*◌, ◌++◌, drop, false, length, ap, sym, subst, ◌∙◌, inl, inr, arith}
use Rattle.std.proofs.lemmas.Bool.{both_ways, true≢false, cases_lt}
use Rattle.dg_bits.specs.ByteForm.{is_marked, numbers_of, IsPacked}
use Rattle.dg_bits.proofs.ByteFormLaws.{zeros, unmarked_past, numbers_of-padded, IsPacked-padded}
use Rattle.dg_bits.proofs.PageBits.from_bytes.Goals as goal

no_mark : (bytes : List ℕ) (size from : ℕ) → ((q : ℕ) → size ≤ q → q < from → is_marked bytes q ≡ false) → 8 * length bytes ≤ from → (q : ℕ) → size ≤ q → is_marked bytes q ≡ false
no_mark bytes size from none end q past =
    elim (cases_lt q from) [ inl h ↦ none q past h | inr h ↦ unmarked_past bytes q (omega arith) ]

pub invariant_of-result : goal.invariant_of-result
invariant_of-result g c =
    let bytes : List ℕ = c.args.bytes.now in
    subst (λ xs. IsPacked g.row.N (xs ++ drop (length bytes) (zeros 9))) (sym c.copy_from_slice.ensures.after)
    (IsPacked-padded g.row.N bytes c.requires.some_size c.requires.fits c.requires.whole (λ k. omega (arith, c.type_inv.bytes k)) (λ q past lt. c.loop-n.invariant q past (omega arith)))

pub returns-clause-past : goal.returns-clause-past
returns-clause-past g c =
    (λ none. absurd (true≢false none), λ w. absurd (both_ways _ (no_mark c.args.bytes.now g.row.N c.loop-n.n c.loop-n.invariant c.loop-n-test.false w.0 w.1) w.2))

pub returns-clause-read : goal.returns-clause-read
returns-clause-read g c =
    ap (λ xs. numbers_of (xs ++ drop (length c.args.bytes.now) (zeros 9))) c.copy_from_slice.ensures.after
    ∙ numbers_of-padded c.args.bytes.now

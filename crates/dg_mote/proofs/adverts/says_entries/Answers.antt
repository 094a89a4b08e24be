use Rattle.std.proofs.Common.{◌≡◌, ℕ, true, sym, ap, subst, ◌∙◌, ⊎_elim, arith}
use Rattle.std.proofs.lemmas.Bool.{cases_eq}
use Rattle.dg_volume.specs.Store.{held}
use Rattle.dg_mote.specs.Summary.{entry_for, entry_by, same_entry}
use Rattle.dg_mote.proofs.adverts.says_entries.Goals as goal

pub loop-image-preserved : goal.loop-image-preserved
loop-image-preserved c s tells i low less =
    let k = c.loop-image.image in
    let entries = c.args.entries.now in
    let here = ap (λ x. same_entry x (entry_by (held s k))) (sym c.entry_for.ensures) ∙ ap (same_entry c.entry_for.result) (sym (c.entry_of.ensures (held s k) (c.kept.ensures ∙ tells.kept k (omega (arith, c.loop-image-test.true, c.past_last-past.ensures, c.requires)) (λ x. x)))) ∙ sym c.is_same_entry.ensures ∙ c.if-not-is_same_entry.false in
    ⊎_elim
    (λ e. subst (λ (n : ℕ). same_entry (entry_for entries n) (entry_by (held s n)) ≡ true) (sym e) here)
    (λ other. c.loop-image.invariant s tells i low (omega (arith, less, other)))
    (cases_eq i k)

pub returns-clause-told : goal.returns-clause-told
returns-clause-told c is s tells i low high = c.loop-image.invariant s tells i low (omega (arith, c.loop-image-test.false, high, c.past_last-past.ensures))

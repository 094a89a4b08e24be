use Rattle.std.proofs.Common.{◌≡◌, ℕ, false, sym, ap, ◌∙◌, arith}
use Rattle.std.proofs.lemmas.Bool.{not-true}
use Rattle.dg_moments.specs.Moments.{keeps_version}
use Rattle.dg_moments.specs.Wholes.{kept_in}
use Rattle.dg_moments.proofs.MotesLemmas.{all_true, all_false, option_is}
use Rattle.dg_moments.proofs.changes.have_all.Goals as goal

pub returns-then-ne : goal.returns-then-ne
returns-then-ne c =
    let kept = c.args.kept.now in
    let fails : keeps_version (kept_in kept c.loop-mote.mote c.args.image) c.args.version ≡ false =
    ap (λ o. keeps_version o c.args.version) (sym c.kept_at.ensures)
    ∙ sym (option_is c.kept_at.result c.args.version) ∙ not-true _ (sym c.ne.ensures ∙ c.if-ne.true) in
    sym (all_false c.args.motes (λ (m : ℕ). keeps_version (kept_in kept m c.args.image) c.args.version) c.loop-mote.mote c.loop-mote-test.true fails)

pub returns : goal.returns
returns c =
    sym (all_true c.args.motes (λ (m : ℕ). keeps_version (kept_in c.args.kept.now m c.args.image) c.args.version)
    (λ m lt. c.loop-mote.invariant m (omega (arith, lt, c.loop-mote-test.false))))

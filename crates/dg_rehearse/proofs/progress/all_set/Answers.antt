use Rattle.std.proofs.Common.{◌≡◌, ℕ, Bool, true, false, sym, ap, ◌∙◌, arith}
use Rattle.std.specs.Prelude.{slice_index_or}
use Rattle.dg_rehearse.specs.Turns.{all_motes}
use Rattle.dg_rehearse.proofs.NoteLemmas.{all_more, all_none, not_all}
use Rattle.dg_rehearse.proofs.progress.all_set.Goals as goal

pub loop-mote-init : goal.loop-mote-init
loop-mote-init c = all_none (λ m. slice_index_or c.args.of.now m false)

pub loop-mote-preserved : goal.loop-mote-preserved
loop-mote-preserved c = all_more (λ m. slice_index_or c.args.of.now m false) c.loop-mote.mote c.loop-mote.invariant (sym c.is_set.ensures ∙ c.if-not-is_set.false)

pub returns-then-not-is_set : goal.returns-then-not-is_set
returns-then-not-is_set c = sym (not_all (λ m. slice_index_or c.args.of.now m false) c.loop-mote.mote c.args.motes (sym c.is_set.ensures ∙ c.if-not-is_set.true) c.loop-mote-test.true)

pub returns : goal.returns
returns c =
    let all : c.loop-mote.mote ≡ c.args.motes = omega (arith, c.loop-mote-test.false, c.loop-mote.auto.mote-end) in
    sym c.loop-mote.invariant ∙ ap (λ (k : ℕ). all_motes (λ m. slice_index_or c.args.of.now m false) k) all

use Rattle.std.proofs.Common.{sym, subst, ap, ◌∙◌}
use Rattle.dg_volume.specs.Start.{Boot}
use Rattle.dg_boot.specs.Ends.{BootOutcome}
use Rattle.dg_boot.proofs.CaseLemmas.{set_to, golden_kept_is, golden_copied_is}
use Rattle.dg_boot.proofs.starting.start_golden.Goals as goal

pub returns-then-is_golden-clause-boots : goal.returns-then-is_golden-clause-boots
returns-then-is_golden-clause-boots g c s m =
    let told = ap (λ p. p.program) c.snapshot.ensures ∙ m.tells.says.program in
    let golden = sym (c.is_golden.ensures s.app told) ∙ c.if-is_golden.true in
    let x = set_to s.app 0 Rattle.dg_volume.specs.Sizes.golden_version golden in
    subst (λ (b : Boot). BootOutcome c.start_golden_kept.result b (g.N.Nor.device c.args.nor.now) (g.N.Nor.device c.start_golden_kept.new.nor)) (sym (golden_kept_is s c.args.three x.app golden x.is))
    (c.start_golden_kept.ensures.boots s x.app m x.is)

pub returns-else-is_golden-clause-boots : goal.returns-else-is_golden-clause-boots
returns-else-is_golden-clause-boots g c s m =
    let told = ap (λ p. p.program) c.snapshot.ensures ∙ m.tells.says.program in
    let other = sym (c.is_golden.ensures s.app told) ∙ c.if-is_golden.false in
    subst (λ (b : Boot). BootOutcome c.start_golden_copied.result b (g.N.Nor.device c.args.nor.now) (g.N.Nor.device c.start_golden_copied.new.nor)) (sym (golden_copied_is s c.args.three other))
    (c.start_golden_copied.ensures.boots s m)

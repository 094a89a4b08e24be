use Rattle.std.proofs.Common.{Bool, sym, subst, ap, ◌∙◌}
use Rattle.dg_volume.specs.Start.{Boot, kept_boot}
use Rattle.dg_boot.specs.Ends.{BootOutcome}
use Rattle.dg_boot.proofs.CommitLemmas.{app_none}
use Rattle.dg_boot.proofs.CaseLemmas.{kept_blank}
use Rattle.dg_boot.proofs.starting.start_kept.Goals as goal

pub returns-in-Blank-clause-boots : goal.returns-in-Blank-clause-boots
returns-in-Blank-clause-boots g c s m =
    let three = c.has_three-three.result in
    let none = app_none s.app (sym c.in-Blank.is ∙ ap (λ p. p.program) c.snapshot.ensures ∙ m.tells.says.program) in
    let P : Boot → Type 0 = λ b. BootOutcome c.start_golden.result b (g.N.Nor.device c.args.nor.now) (g.N.Nor.device c.start_golden.new.nor) in
    subst P (sym (kept_blank s three none) ∙ ap (λ (b : Bool). kept_boot s b) (c.has_three-three.ensures s m.tells)) (c.start_golden.ensures.boots s m)

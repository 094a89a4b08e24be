use Rattle.std.proofs.Common.{List, ◌++◌, true, ap, sym, subst, ◌∙◌}
use Rattle.dg_script.specs.declared.report.Report.{Report}
use Rattle.dg_rules.specs.Changes.{final_lines}
use Rattle.dg_world.proofs.EndureLemmas.{stands_read}
use Rattle.dg_rehearse.specs.Ended.{TellsEach}
use Rattle.dg_rehearse.specs.Rehearsed.{Any}
use Rattle.dg_rehearse.specs.Turns.{all_motes, tells_of}
use Rattle.dg_rehearse.proofs.PlayLemmas.{same_goes_on}
use Rattle.dg_rehearse.proofs.EndLemmas.{ok_same}
use Rattle.dg_rehearse.proofs.stage.Stage.is_complete.Goals as goal

pub returns-in-Ok-clause-goes_on : goal.returns-in-Ok-clause-goes_on
returns-in-Ok-clause-goes_on g c =
    same_goes_on c.args.profile.now c.args.plan.now c.args.self.now.world c.args.self.now.world _ _ c.args.self.now.script.items c.args.self.now.moment Any c.requires.under_way c.finish.ensures.stands
    (λ w initial is stands. stands_read w initial _ _ c.finish.ensures.boards c.in-Ok.ensures.calm (c.finish.ensures.others w is) stands) (λ initial t. tt)

pub returns-in-Ok-clause-complete : goal.returns-in-Ok-clause-complete
returns-in-Ok-clause-complete g c = λ e.
    same_goes_on c.args.profile.now c.args.plan.now c.args.self.now.world c.args.self.now.world _ _ c.args.self.now.script.items c.args.self.now.moment _ c.requires.under_way c.finish.ensures.stands
    (λ w initial is stands. stands_read w initial _ _ c.finish.ensures.boards c.in-Ok.ensures.calm (c.finish.ensures.others w is) stands)
    (λ initial t.
    subst (λ (l : List Report). TellsEach c.args.profile.now.motes c.args.plan.now l)
    (c.deref.ensures.value ∙ c.in-Ok.ensures.finished t.world t.is ∙ ap (λ (xs : List Report). xs ++ final_lines t.world) c.clear.ensures.items) (c.all_have.ensures.each (ok_same c.all_have.result true e)))

pub returns-in-Ok-clause-value : goal.returns-in-Ok-clause-value
returns-in-Ok-clause-value g c = λ is e w k.
    sym (ok_same c.all_have.result is e)
    ∙ c.all_have.ensures.value
    ∙ ap (λ (l : List Report). all_motes (tells_of c.args.plan.now l) c.args.profile.now.motes) (c.deref.ensures.value ∙ c.in-Ok.ensures.finished w k ∙ ap (λ (xs : List Report). xs ++ final_lines w) c.clear.ensures.items)

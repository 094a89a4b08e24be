use Rattle.std.proofs.Common.{◌≡◌, inr, List, ℕ, Result, drop, ◌∙◌, sym, ap, subst}
use Rattle.dg_chain.specs.Checking.{answer_of, data_pages}
use Rattle.dg_chain.specs.Answers.{ChainAnswers, ChainEnds}
use Rattle.dg_chain.proofs.StepLemmas.{err_is, ends_after, pages_kept, answer_named, answer_own}
use Rattle.dg_chain.specs.declared.checking.ChainFault.{ChainFault}
use Rattle.dg_chain.proofs.checking.check.Goals as goal

pub returns-clause-answer : goal.returns-clause-answer
returns-clause-answer g c h keeps =
    let c0 = (g.N.Nor.device c.args.nor.now).image in
    let n = c.in_ok-count.count in
    let same : data_pages (g.N.Nor.device c.count_of.new.nor).image c.args.image n ≡ drop 1 h.complete =
    ap (λ (x : List ℕ). data_pages x c.args.image n) c.in_ok-count.ensures.ends.same_image ∙ pages_kept c0 c.args.image n h keeps (c.in_ok-count.ensures.count h keeps) in
    subst (λ (pages : List (List ℕ)). ChainAnswers c.check_pages.result (answer_of c.args.root.now pages)) same c.check_pages.ensures.answer

pub returns-clause-named : goal.returns-clause-named
returns-clause-named g c x h payload root keeps =
    answer_named x (drop 1 h.complete) c.args.root.now c.check_pages.result payload root (returns-clause-answer g c h keeps)

pub returns-clause-own : goal.returns-clause-own
returns-clause-own g c x h payload root keeps same =
    answer_own x (drop 1 h.complete) c.args.root.now c.check_pages.result payload root same (returns-clause-answer g c h keeps)

-- the descriptor could not be read
pub returns-in_err-count-clause-answer : goal.returns-in_err-count-clause-answer
returns-in_err-count-clause-answer g c h keeps =
    let stops = err_is c.from_residual.result _ c.from_residual.ensures.1 ∙ c.in_err-count.ensures.stopped in
    rw stops tt

pub returns-in_err-count-clause-named : goal.returns-in_err-count-clause-named
returns-in_err-count-clause-named g c x h payload root keeps =
    let stops = err_is c.from_residual.result _ c.from_residual.ensures.1 ∙ c.in_err-count.ensures.stopped in
    rw stops tt

pub returns-in_err-count-clause-own : goal.returns-in_err-count-clause-own
returns-in_err-count-clause-own g c x h payload root keeps same = inr (err_is c.from_residual.result _ c.from_residual.ensures.1 ∙ c.in_err-count.ensures.stopped)

pub returns-in_err-count-clause-awake : goal.returns-in_err-count-clause-awake
returns-in_err-count-clause-awake g c other = absurd (other (err_is c.from_residual.result _ c.from_residual.ensures.1 ∙ c.in_err-count.ensures.stopped))

pub returns-in_err-count-clause-ends : goal.returns-in_err-count-clause-ends
returns-in_err-count-clause-ends g c =
    let is = err_is c.from_residual.result _ c.from_residual.ensures.1 in
    subst (λ (y : Result ℕ ChainFault). ChainEnds y (g.N.Nor.device c.args.nor.now) (g.N.Nor.device c.count_of.new.nor)) (sym is) c.in_err-count.ensures.ends

pub returns-clause-ends : goal.returns-clause-ends
returns-clause-ends g c = ends_after c.check_pages.result _ _ _ c.in_ok-count.ensures.ends c.check_pages.ensures.ends

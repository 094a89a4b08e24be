use Rattle.std.proofs.Common.{true, false, ◌∙◌, sym}
use Rattle.dg_chain.specs.Checking.{data_pages}
use Rattle.dg_chain.proofs.StepLemmas.{answer_stops, answered}
use Rattle.dg_chain.proofs.checking.check_pages.Goals as goal

pub returns-in_err-last-clause-answer : goal.returns-in_err-last-clause-answer
returns-in_err-last-clause-answer g c =
    let c0 = (g.N.Nor.device c.args.nor.now).image in
    answer_stops c.args.root.now (data_pages c0 c.args.image c.args.count) c.in_err-last.field-0.0 c.from_residual.result c.from_residual.ensures.1 c.in_err-last.ensures.walks

pub returns-then-not-is_shape-clause-answer : goal.returns-then-not-is_shape-clause-answer
returns-then-not-is_shape-clause-answer g c =
    let c0 = (g.N.Nor.device c.args.nor.now).image in
    answered c0 (g.N.Nor.device c.walk.new.nor).image c.args.image c.args.count c.in_ok-length.length c.args.root.now c.in_ok-last.last false c.requires.some c.in_ok-last.ensures.walks.0 c.in_ok-last.ensures.walks.1
    c.in_ok-last.ensures.ends.same_image c.in_ok-length.ensures.length (sym c.is_shape.ensures ∙ c.if-not-is_shape.true)

pub returns-clause-answer : goal.returns-clause-answer
returns-clause-answer g c =
    let c0 = (g.N.Nor.device c.args.nor.now).image in
    answered c0 (g.N.Nor.device c.walk.new.nor).image c.args.image c.args.count c.in_ok-length.length c.args.root.now c.in_ok-last.last true c.requires.some c.in_ok-last.ensures.walks.0 c.in_ok-last.ensures.walks.1
    c.in_ok-last.ensures.ends.same_image c.in_ok-length.ensures.length (sym c.is_shape.ensures ∙ c.if-not-is_shape.false)

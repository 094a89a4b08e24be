use Rattle.std.proofs.Common.{◌≡◌, suc, ◌+◌, ◌-◌, ◌<◌, ◌∙◌, arith}
use Rattle.dg_nor.proofs.ReadLemmas.{Looked_then}
use Rattle.dg_chain.specs.Checking.{first_break, pages_on, data_pages}
use Rattle.dg_chain.proofs.StepLemmas.{last_or, last_of_some, walk_more, last_more, walk_stops, walk_ended, last_ended, stops_after}
use Rattle.dg_chain.proofs.checking.walk.Goals as goal

pub returns-in_err-kept-clause-walks : goal.returns-in_err-kept-clause-walks
returns-in_err-kept-clause-walks g c =
    let c0 = (g.N.Nor.device c.args.nor.now).image in
    let n = c.loop-page.page in
    let here : n < c.args.count + 1 = c.loop-page-test.true in
    let count : (c.args.count + 1) - n ≡ suc ((c.args.count + 1) - (n + 1)) = omega arith in
    walk_stops c0 (g.N.Nor.device c.loop-page.nor).image c.args.image n ((c.args.count + 1) - n) ((c.args.count + 1) - (n + 1)) c.loop-page.kept c.args.root.now (data_pages c0 c.args.image c.args.count) c.in_err-kept.field-0.0 c.from_residual.result
    c.from_residual.ensures.1 c.loop-page.invariant.looked.same_image count c.loop-page.invariant.broken c.in_err-kept.ensures.passes

pub loop-page-preserved : goal.loop-page-preserved
loop-page-preserved g c =
    let c0 = (g.N.Nor.device c.args.nor.now).image in
    let d = (g.N.Nor.device c.loop-page.nor).image in
    let n = c.loop-page.page in
    let here : n < c.args.count + 1 = c.loop-page-test.true in
    let m = (c.args.count + 1) - n in
    let k = (c.args.count + 1) - (n + 1) in
    let count : m ≡ suc k = omega arith in
    let before = c.loop-page.invariant in
    let passed = c.in_ok-kept.ensures.passes in
    record {
      broken = walk_more c0 d c.args.image n m k c.loop-page.kept c.in_ok-kept.kept (first_break c.args.root.now 1 (pages_on c0 c.args.image 1 c.args.count)) before.looked.same_image count passed.0 passed.1 before.broken;
      last = last_more c0 d c.args.image n m k c.loop-page.kept c.in_ok-kept.kept (last_or c.args.root.now (pages_on c0 c.args.image 1 c.args.count)) before.looked.same_image count passed.1 before.last;
      looked = Looked_then before.looked c.in_ok-kept.ensures.ends;
    }

pub returns-clause-walks : goal.returns-clause-walks
returns-clause-walks g c =
    let c0 = (g.N.Nor.device c.args.nor.now).image in
    let n = c.loop-page.page in
    let end : (c.args.count + 1) - n ≡ 0 = omega (arith, c.loop-page-test.false) in
    let before = c.loop-page.invariant in (
      walk_ended c0 c.args.image n ((c.args.count + 1) - n) c.loop-page.kept (first_break c.args.root.now 1 (data_pages c0 c.args.image c.args.count)) end before.broken,
      last_ended c0 c.args.image n ((c.args.count + 1) - n) c.loop-page.kept (last_or c.args.root.now (data_pages c0 c.args.image c.args.count)) end before.last
          ∙ last_of_some c.args.root.now c0 c.args.image 1 c.args.count c.requires.some,
    )

pub returns-in_err-kept-clause-ends : goal.returns-in_err-kept-clause-ends
returns-in_err-kept-clause-ends g c = stops_after c.from_residual.result c.pass_page.result _ _ _ _ c.from_residual.ensures.1 c.in_err-kept.was c.loop-page.invariant.looked c.pass_page.ensures.ends

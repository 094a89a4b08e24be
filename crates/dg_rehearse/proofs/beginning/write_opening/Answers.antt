use Rattle.std.proofs.lemmas.Result.{on_ok_weaker}
use Rattle.dg_rehearse.proofs.BeginLemmas.{opening_begins, opening_more, opening_ends, link_fits}
use Rattle.dg_rehearse.proofs.beginning.write_opening.Goals as goal

pub loop-link-init : goal.loop-link-init
loop-link-init c =
    opening_begins c.args.profile.now.motes c.as_slice-link-items.result.now c.in_ok-golden.golden c.args.script.now.items c.write_line.new.out.items c.write_line-2.new.out.items c.in_ok-golden.ensures c.in_ok-write_line.ensures.ok c.in_ok-write_line-2.ensures.ok

pub write_line-requires-in-loop-link-clause-fits : goal.write_line-requires-in-loop-link-clause-fits
write_line-requires-in-loop-link-clause-fits c =
    link_fits c.args.profile.now c.as_slice-link-items.result.now c.loop-link.link-index _ c.as_slice-link-items.ensures c.requires.allowed c.loop-link-test.true

pub loop-link-preserved : goal.loop-link-preserved
loop-link-preserved c =
    opening_more c.args.profile.now.motes c.as_slice-link-items.result.now c.loop-link.link-index _ c.args.script.now.items c.loop-link.script.items c.write_line-in-loop-link.new.out.items c.loop-link-test.true c.loop-link.invariant c.in_ok-write_line-3.ensures.ok

pub returns : goal.returns
returns c =
    on_ok_weaker c.write_line-3.result (λ e. opening_ends c.args.profile.now c.args.plan.now c.as_slice-link-items.result.now c.loop-link.link-index c.in_ok-image.image c.args.script.now.items c.loop-link.script.items c.write_line-3.new.out.items c.as_slice-link-items.ensures c.loop-link-test.false c.in_ok-image.ensures c.loop-link.invariant e) c.write_line-3.ensures.ok

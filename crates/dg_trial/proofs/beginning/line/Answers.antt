use Rattle.std.proofs.Common.{refl}
use Rattle.dg_trial.proofs.BeginLemmas.{line_begun, line_more, line_done}
use Rattle.dg_trial.proofs.beginning.line.Goals as goal

pub loop-far-init : goal.loop-far-init
loop-far-init c = line_begun c.new-links.result.items c.args.motes _ c.new-links.ensures.items c.requires refl

pub loop-far-preserved : goal.loop-far-preserved
loop-far-preserved c = line_more c.loop-far.links.items c.push.new.self.items c.args.motes c.loop-far.far _ c.in_ok-push.ensures.items c.loop-far-test.true refl c.loop-far.invariant

pub returns : goal.returns
returns c = line_done c.loop-far.links.items c.args.motes c.loop-far.far c.loop-far-test.false c.loop-far.invariant

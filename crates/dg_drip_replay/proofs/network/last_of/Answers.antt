use Rattle.std.proofs.Common.{sym, ◌∙◌, arith}
use Rattle.dg_drip_replay.proofs.SentLemmas.{last_here, last_not}
use Rattle.dg_drip_replay.proofs.network.last_of.Goals as goal

pub returns-then-is_of : goal.returns-then-is_of
returns-then-is_of c =
    sym (last_here c.args.sent.now c.loop-left.left _ c.args.node c.args.key c.loop-left-test.true c.loop-left.invariant.within (sym c.is_of.ensures ∙ c.if-is_of.true))
    ∙ c.loop-left.invariant.rest

pub loop-left-preserved : goal.loop-left-preserved
loop-left-preserved c =
    record {
      within = omega (arith, c.loop-left.invariant.within);
      rest = last_not c.args.sent.now c.loop-left.left _ c.args.node c.args.key c.loop-left-test.true c.loop-left.invariant.within (sym c.is_of.ensures ∙ c.if-is_of.false)
          ∙ c.loop-left.invariant.rest;
    }

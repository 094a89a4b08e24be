use Rattle.std.proofs.Common.{◌≡◌, ℕ, map, ap, subst, arith}
use Rattle.std.specs.Prelude.{Ok}
use Rattle.dg_rehearse.specs.Courses.{Moves, scene}
use Rattle.dg_rehearse.specs.Turns.{heard_courses}
use Rattle.dg_rehearse.proofs.TurnLemmas.{heard_more, heard_none, old_moves, far_moves, delivered_moves}
use Rattle.dg_rehearse.specs.Rehearsed.{staging}
use Rattle.dg_rehearse.proofs.PlayLemmas.{goes_nowhere, goes_then, still_under_way, still_sent, sent_now}
use Rattle.dg_rehearse.proofs.schedule.Schedule.deliver.Goals as goal

pub hear-requires-clause-under_way : goal.hear-requires-clause-under_way
hear-requires-clause-under_way g c = still_under_way c.args.profile.now c.args.plan.now _ _ c.loop-mote.invariant.goes c.requires.under_way

pub returns-in-TooMany-clause-goes_on : goal.returns-in-TooMany-clause-goes_on
returns-in-TooMany-clause-goes_on g c = goes_then _ _ _ _ _ c.loop-mote.invariant.goes c.in_ok-hear.ensures.goes_on

pub loop-mote-preserved : goal.loop-mote-preserved
loop-mote-preserved g c = record {
  goes = goes_then _ _ _ _ _ c.loop-mote.invariant.goes c.in_ok-hear.ensures.goes_on;
  moves = heard_more c.args.profile.now c.args.plan.now c.args.from c.in-Some.frame c.loop-mote.mote (scene c.args.self.now c.args.stage.now (map g.N.Nor.device c.args.boards.now.items)) (scene c.loop-mote.self c.loop-mote.stage (map g.N.Nor.device c.loop-mote.boards.items)) (scene c.hear.new.self c.hear.new.stage (map g.N.Nor.device c.hear.new.boards.items)) c.loop-mote.invariant.moves (c.in_ok-hear.ensures.moves (ap Ok c.in-Done.is));
  sent = still_sent c.args.profile.now c.args.plan.now _ _ c.args.from _ c.in_ok-hear.ensures.goes_on (still_under_way c.args.profile.now c.args.plan.now _ _ c.loop-mote.invariant.goes c.requires.under_way) c.loop-mote.invariant.sent;
}

pub returns-clause-goes_on : goal.returns-clause-goes_on
returns-clause-goes_on g c = c.loop-mote.invariant.goes

pub returns-then-sent-before-clause-goes_on : goal.returns-then-sent-before-clause-goes_on
returns-then-sent-before-clause-goes_on g c = goes_nowhere _ _ _

pub returns-in_default-clause-goes_on : goal.returns-in_default-clause-goes_on
returns-in_default-clause-goes_on g c = goes_nowhere _ _ _

pub loop-mote-init : goal.loop-mote-init
loop-mote-init g c = record {
  goes = goes_nowhere _ _ _;
  moves = heard_none c.args.profile.now c.args.plan.now c.args.from c.in-Some.frame (scene c.args.self.now c.args.stage.now (map g.N.Nor.device c.args.boards.now.items));
  sent = sent_now c.args.from c.args.before c.in-Some.frame c.frames_sent-sent.result (staging c.args.stage.now (map g.N.Nor.device c.args.boards.now.items)) c.requires.sent (λ w is. c.frames_sent-sent.ensures _ w is) (omega (arith, c.if-sent-before.false)) (c.numbered.ensures.some c.in-Some.frame c.in-Some.is).0;
}

pub returns-then-sent-before-clause-moves : goal.returns-then-sent-before-clause-moves
returns-then-sent-before-clause-moves g c = λ _. old_moves c.args.profile.now c.args.plan.now c.args.from c.args.before (scene c.args.self.now c.args.stage.now (map g.N.Nor.device c.args.boards.now.items)) c.frames_sent-sent.result (λ w is. c.frames_sent-sent.ensures _ w is.is) c.if-sent-before.true

pub returns-in_default-clause-moves : goal.returns-in_default-clause-moves
returns-in_default-clause-moves g c = λ _. far_moves c.args.profile.now c.args.plan.now c.args.from c.args.before (scene c.args.self.now c.args.stage.now (map g.N.Nor.device c.args.boards.now.items)) c.frames_sent-sent.result (λ w is. c.frames_sent-sent.ensures _ w is.is) c.if-sent-before.false (c.numbered.ensures.none c.in_default.is)

pub returns-clause-moves : goal.returns-clause-moves
returns-clause-moves g c = λ _.
    let is = c.numbered.ensures.some c.in-Some.frame c.in-Some.is in
    let all : c.loop-mote.mote ≡ c.args.profile.now.motes = omega (arith, c.loop-mote-test.false, c.loop-mote.auto.mote-end) in
    delivered_moves c.args.profile.now c.args.plan.now c.args.from c.args.before (scene c.args.self.now c.args.stage.now (map g.N.Nor.device c.args.boards.now.items)) (scene c.loop-mote.self c.loop-mote.stage (map g.N.Nor.device c.loop-mote.boards.items)) c.frames_sent-sent.result c.in-Some.frame (λ w is. c.frames_sent-sent.ensures _ w is.is) c.if-sent-before.false is.1 is.0
    (subst (λ (k : ℕ). Moves (heard_courses c.args.profile.now c.args.plan.now c.args.from c.in-Some.frame k) c.args.profile.now c.args.plan.now (scene c.args.self.now c.args.stage.now (map g.N.Nor.device c.args.boards.now.items)) (scene c.loop-mote.self c.loop-mote.stage (map g.N.Nor.device c.loop-mote.boards.items))) all c.loop-mote.invariant.moves)

use Rattle.std.proofs.Common.{arith}
use Rattle.dg_rounds.specs.Left.{left_of_round}
use Rattle.dg_rounds.proofs.RoundLemmas.{round_more, round_over}
use Rattle.dg_rounds.proofs.SweepLemmas.{progress}
use Rattle.dg_rounds.proofs.rounds.RoundEventsIterator.next.Goals as goal

pub returns-then-self-ge-ROUND_EVENTS-clause-steps : goal.returns-then-self-ge-ROUND_EVENTS-clause-steps
unfolding left_of_round
returns-then-self-ge-ROUND_EVENTS-clause-steps c = let e = round_over c.args.self.now.a c.args.self.now.b c.args.self.now.given (omega arith) in (e, e)

pub returns-clause-steps : goal.returns-clause-steps
unfolding left_of_round
returns-clause-steps c = round_more c.args.self.now.a c.args.self.now.b c.args.self.now.given _ (omega arith) c.event_at-event.ensures

pub returns-clause-goes : goal.returns-clause-goes
unfolding left_of_round
returns-clause-goes c = progress _ left_of_round c.args.self.now _ _ (λ _. tt) (round_more c.args.self.now.a c.args.self.now.b c.args.self.now.given _ (omega arith) c.event_at-event.ensures)

use Rattle.std.proofs.Common.{ap, ◌∙◌, sym, subst, take, Some, Ok}
use Rattle.dg_link.specs.Inboxes.{inbox_of, ReceivesFrame}
use Rattle.dg_link.proofs.InboxLemmas.{receives, is_none-frame}
use Rattle.dg_link.proofs.memory.MemLinkLink.receive.Goals as goal

pub returns-clause-received : goal.returns-clause-received
returns-clause-received c =
    let front = c.hand_over.ensures.front ∙ c.take_oldest-frame.ensures.frame in
    subst (λ boxes. ReceivesFrame c.args.at c.hand_over.new.into c.hand_over.result (Some c.args.self.now) (Some boxes)) (sym c.take_oldest-frame.ensures.rest) (receives c.args.self.now c.args.at c.hand_over.new.into c.hand_over.result front)

pub returns-clause-none : goal.returns-clause-none
returns-clause-none c =
    let both = is_none-frame (λ n. take n c.hand_over.new.into) (inbox_of c.args.self.now c.args.at) c.hand_over.result (c.hand_over.ensures.front ∙ c.take_oldest-frame.ensures.frame) in
    (λ none. both.0 cc, λ empty. ap Ok (both.1 empty))

use Rattle.std.proofs.Common.{◌≡◌, ◌≤◌, ◌++◌, ◌∷◌, [], ap, ◌∙◌, sym, subst}
use Rattle.std.specs.Prelude.{Contains}
use Rattle.circular_buffer.specs.Buffer.{buffer, keep_last}
use Rattle.dg_link.specs.Inboxes.{inbox_of}
use Rattle.dg_link.proofs.InboxLemmas.{inboxes-push_back, Contains-delivered}
use Rattle.dg_link.proofs.memory.MemLinkLink.send.Goals as goal

pub returns-clause-delivered : goal.returns-clause-delivered
returns-clause-delivered c =
    let ring = c.index_mut.result.now in
    let becomes : c.push_back.new.self ≡ buffer (keep_last ring.capacity (ring.items ++ c.args.bytes.now ∷ [])) ring.capacity = c.push_back.ensures.items ∙ ap (λ f. buffer (keep_last ring.capacity (ring.items ++ f ∷ [])) ring.capacity) c.new.ensures in
    inboxes-push_back c.self.inside.capacity c.self.inside.rings.items c.args.self.now c.args.to c.from.result ring c.push_back.new.self c.args.bytes.now c.self.view_is c.requires.receiver c.from.ensures c.index_mut.ensures.value c.self.invariant.1 becomes

pub returns-clause-waits : goal.returns-clause-waits
returns-clause-waits c =
    let capacity : 1 ≤ c.args.self.now.capacity = subst (λ boxes. 1 ≤ boxes.capacity) c.self.view_is c.self.invariant.0 in
    subst (λ boxes. Contains (inbox_of boxes c.args.to) c.args.bytes.now) (sym (returns-clause-delivered c)) (Contains-delivered c.args.self.now c.args.to c.args.bytes.now capacity c.requires.receiver)

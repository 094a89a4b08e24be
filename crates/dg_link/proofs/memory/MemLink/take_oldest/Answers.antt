use Rattle.dg_link.proofs.InboxLemmas.{inboxes-pop_front}
use Rattle.dg_link.proofs.memory.MemLink.take_oldest.Goals as goal

pub returns-clause-rest : goal.returns-clause-rest
returns-clause-rest c =
    inboxes-pop_front c.self.inside.capacity c.self.inside.rings.items c.args.self.now c.args.at c.from.result c.index_mut.result.now c.pop_front.new.self c.self.view_is c.requires c.from.ensures c.index_mut.ensures.value c.pop_front.ensures.items

use Rattle.std.proofs.Common.{ap, ◌∙◌, sym}
use Rattle.dg_link.proofs.InboxLemmas.{inboxes, inboxes-replicate}
use Rattle.dg_link.proofs.memory.MemLinkLink.open.Goals as goal

pub returns-clause-ok : goal.returns-clause-ok
returns-clause-ok c =
    ap (inboxes c.self.inside.capacity) c.in_ok-self-inside.ensures ∙ inboxes-replicate c.self.inside.capacity c.args.motes c.args.self.now (ap (λ b. b.capacity) (sym c.self.view_is))

use Rattle.std.proofs.Common.{sym, ap, ◌∙◌}
use Rattle.dg_mote.specs.Summary.{same_order}
use Rattle.dg_mote.proofs.AheadLemmas.{own_entries, other_entries}
use Rattle.dg_mote.proofs.adverts.would_say.Goals as goal

pub returns-then-not-says_entries : goal.returns-then-not-says_entries
returns-then-not-says_entries c s tells =
    let x = c.says_entries.ensures.other c.if-not-says_entries.true in
    sym (other_entries c.args.entries.now c.args.order.now c.args.wide s x.0 x.1 x.2 (x.3 s tells))

pub returns : goal.returns
returns c s tells =
    c.is_same_order.ensures
    ∙ ap (same_order c.args.order.now) (c.own_order.ensures s tells)
    ∙ sym (own_entries c.args.entries.now c.args.order.now c.args.wide s (λ j low high. c.says_entries.ensures.told c.if-not-says_entries.false s tells j low high))

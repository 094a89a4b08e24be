use Rattle.std.proofs.Common.{sym, ap, ◌∙◌, arith}
use Rattle.dg_volume.specs.Store.{held}
use Rattle.dg_mote.specs.Summary.{advertiser_ahead}
use Rattle.dg_mote.proofs.AheadLemmas.{ahead_found, ahead_none}
use Rattle.dg_mote.proofs.adverts.first_ahead.Goals as goal

pub returns-then-is_ahead-clause-least : goal.returns-then-is_ahead-clause-least
returns-then-is_ahead-clause-least c s tells =
    let i = c.loop-image.image in
    let entries = c.args.entries.now in
    let e = ap (λ x. advertiser_ahead x (held s i)) (sym c.entry_for.ensures) ∙ sym (c.is_ahead.ensures (held s i) (c.kept.ensures ∙ tells.kept i (omega (arith, c.loop-image-test.true, c.past_last-past.ensures, c.requires)) (λ x. x))) ∙ c.if-is_ahead.true in
    sym (ahead_found entries s i c.loop-image.auto.image (omega (arith, c.loop-image-test.true, c.past_last-past.ensures)) (c.loop-image.invariant s tells) e)

pub returns-clause-least : goal.returns-clause-least
returns-clause-least c s tells = sym (ahead_none c.args.entries.now s (λ j low high. c.loop-image.invariant s tells j low (omega (arith, c.loop-image-test.false, high, c.past_last-past.ensures))))

use Rattle.std.proofs.Common.{◌≡◌, true, sym, subst}
use Rattle.dg_frame.specs.Grammar.{in_range}
use Rattle.dg_frame.specs.declared.Message.{Message}
use Rattle.dg_mote.proofs.SayLemmas.{advert_fits, wide_said, narrow_said}
use Rattle.dg_mote.proofs.summary.advert_message.Goals as goal

pub returns-then-wide-clause-says : goal.returns-then-wide-clause-says
returns-then-wide-clause-says c s tells = wide_said c.args.id c.args.wide s c.wide_entries.result c.own_order-order.result c.if-wide.true (c.wide_entries.ensures s tells) (c.own_order-order.ensures s tells)

pub returns-then-wide-clause-fits : goal.returns-then-wide-clause-fits
returns-then-wide-clause-fits c =
    let s = c.requires.1.0 in
    let m = c.requires.1.1 in
    subst (λ (x : Message). in_range c.args.wide x ≡ true) (sym (returns-then-wide-clause-says c s m.tells)) (advert_fits c.requires.0 c.args.volume.now c.args.wide s c.args.id m)

pub returns-else-wide-clause-says : goal.returns-else-wide-clause-says
returns-else-wide-clause-says c s tells = narrow_said c.args.id c.args.wide s c.narrow_entries.result c.own_order-order.result c.if-wide.false (c.narrow_entries.ensures s tells) (c.own_order-order.ensures s tells)

pub returns-else-wide-clause-fits : goal.returns-else-wide-clause-fits
returns-else-wide-clause-fits c =
    let s = c.requires.1.0 in
    let m = c.requires.1.1 in
    subst (λ (x : Message). in_range c.args.wide x ≡ true) (sym (returns-else-wide-clause-says c s m.tells)) (advert_fits c.requires.0 c.args.volume.now c.args.wide s c.args.id m)

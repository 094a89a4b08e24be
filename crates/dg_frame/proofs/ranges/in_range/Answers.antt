use Rattle.std.proofs.Common.{rules, ◌≡◌, not, true, ap, sym, ◌∙◌}
use Rattle.std.specs.Prelude.{nat_eq}
use Rattle.std.proofs.lemmas.Bool.Decides.{Decides-at}
use Rattle.dg_frame.specs.Grammar.{in_range}
use Rattle.dg_frame.proofs.ReadingLemmas.{ranges}
use Rattle.dg_frame.proofs.ranges.in_range.Goals as goal

pub returns-in-Advert-clause-fields : goal.returns-in-Advert-clause-fields
unfolding in_range
returns-in-Advert-clause-fields c =
    let value : c.advert_fits.result ≡ in_range c.args.wide c.args.message.now = c.advert_fits.ensures ∙ sym (ap (in_range c.args.wide) c.in-Advert.is) in
    Decides-at c.advert_fits.result (in_range c.args.wide c.args.message.now) value (ranges c.args.wide c.args.message.now)

pub returns-then-page_fits-clause-fields : goal.returns-then-page_fits-clause-fields
unfolding in_range
returns-then-page_fits-clause-fields c =
    let value : not (nat_eq c.count.result 0) ≡ in_range c.args.wide c.args.message.now = search rules in
    Decides-at (not (nat_eq c.count.result 0)) (in_range c.args.wide c.args.message.now) value (ranges c.args.wide c.args.message.now)

pub returns-then-wide-clause-fields : goal.returns-then-wide-clause-fields
unfolding in_range
returns-then-wide-clause-fields c =
    let value : c.advert_fits-then-wide.result ≡ in_range c.args.wide c.args.message.now =
    c.advert_fits-then-wide.ensures ∙ sym (ap (λ w. in_range w c.args.message.now) c.if-wide.true ∙ ap (in_range true) c.in-Wide.is) in
    Decides-at c.advert_fits-then-wide.result (in_range c.args.wide c.args.message.now) value (ranges c.args.wide c.args.message.now)

use Rattle.std.proofs.Common.{◌||◌, sym, ap, ◌∙◌}
use Rattle.std.specs.Prelude.{nat_le}
use Rattle.dg_frame.specs.Sizes.{narrow_images}
use Rattle.dg_mote.proofs.SayLemmas.{order_told, order_untold}
use Rattle.dg_mote.proofs.summary.own_order.Goals as goal

pub returns-then-tells_image : goal.returns-then-tells_image
returns-then-tells_image c s tells =
    let same = ap (λ p. p.order) c.snapshot.ensures ∙ tells.says.order in
    same ∙ sym (order_told c.args.wide s (ap (λ o. c.args.wide || nat_le o.image narrow_images) (sym same) ∙ sym c.tells_image.ensures ∙ c.if-tells_image.true))

pub returns : goal.returns
returns c s tells =
    let same = ap (λ p. p.order) c.snapshot.ensures ∙ tells.says.order in
    sym (order_untold c.args.wide s (ap (λ o. c.args.wide || nat_le o.image narrow_images) (sym same) ∙ sym c.tells_image.ensures ∙ c.if-tells_image.false))

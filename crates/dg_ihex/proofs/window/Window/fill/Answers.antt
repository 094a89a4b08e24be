use Rattle.std.proofs.Common.{ap, ◌∙◌, unwrap_or, arith}
use Rattle.dg_ihex.proofs.WindowLemmas.{image_more, image_whole}
use Rattle.dg_ihex.proofs.window.Window.fill.Goals as goal

pub loop-at-preserved : goal.loop-at-preserved
loop-at-preserved c blocks h =
    image_more blocks c.loop-at.image c.args.self.now.lowest c.loop-at.at c.unwrap_or.result (omega arith) h.lowest
    (c.unwrap_or.ensures ∙ ap (λ o. unwrap_or o 255) (c.byte_at.ensures blocks h)) (c.loop-at.invariant blocks h)

pub returns : goal.returns
returns c blocks h size = image_whole blocks c.loop-at.image c.loop-at.at (omega (arith, size)) (omega arith) (omega arith) (c.loop-at.invariant blocks h)

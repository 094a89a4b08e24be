use Rattle.std.proofs.Common.{arith}
use Rattle.dg_ihex.specs.Blocks.{Block}
use Rattle.dg_ihex.proofs.BlockLemmas.{lowest_of-more, past_of-more}
use Rattle.dg_ihex.proofs.window.Window.span_with.Goals as goal

pub returns : goal.returns
returns c blocks h =
    let block : Block = record { address = c.args.address; bytes = c.args.bytes.now } in
    let low = lowest_of-more blocks block c.requires in
    let high = past_of-more blocks block in
    omega (arith, low, high, h.lowest, h.past)

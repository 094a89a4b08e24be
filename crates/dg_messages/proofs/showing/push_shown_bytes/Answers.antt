use Rattle.std.proofs.Common.{arith, ◌++◌}
use Rattle.dg_messages.specs.Showing.{shown}
use Rattle.dg_messages.proofs.ShowLemmas.{shown_whole}
use Rattle.dg_messages.proofs.showing.push_shown_bytes.Goals as goal

pub returns : goal.returns
returns c =
    shown_whole c.loop-byte.text.items c.args.bytes.now (c.args.text.now.items ++ shown c.args.bytes.now) c.loop-byte.before
    c.loop-byte.byte-index (omega (arith, c.loop-byte-test.false, c.loop-byte.auto.byte-index-end)) c.loop-byte.invariant

use Rattle.std.proofs.Common.{◌+◌, length, ap, sym, ◌∙◌, is_some, arith}
use Rattle.dg_ihex.proofs.WindowLemmas.{given_here, given_later}
use Rattle.dg_ihex.proofs.window.Window.overlaps.Goals as goal

pub returns-then-is_some : goal.returns-then-is_some
returns-then-is_some c blocks h =
    let given = sym (ap is_some (c.byte_at.ensures blocks h)) ∙ sym c.is_some.ensures ∙ c.if-is_some.true in
    given_here blocks c.loop-at.at (c.args.address + length c.args.bytes.now) (omega arith) given ∙ c.loop-at.invariant blocks h

pub loop-at-preserved : goal.loop-at-preserved
loop-at-preserved c blocks h =
    let none = sym (ap is_some (c.byte_at.ensures blocks h)) ∙ sym c.is_some.ensures ∙ c.if-is_some.false in
    given_later blocks c.loop-at.at (c.args.address + length c.args.bytes.now) (omega arith) none ∙ c.loop-at.invariant blocks h

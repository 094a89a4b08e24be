use Rattle.std.proofs.Common.{sym, ap, ◌∙◌, ◌+◌, ◌*◌, ◌/◌, get_or, set, take, arith}
use Rattle.dg_base.specs.Hexadecimal.{hex_digit}
use Rattle.dg_base.proofs.HexLemmas.{hex_text-nil, write_more}
use Rattle.dg_base.proofs.hexadecimal.write_pairs.Goals as goal

pub loop-at-init : goal.loop-at-init
loop-at-init c = sym hex_text-nil

pub loop-at-preserved : goal.loop-at-preserved
loop-at-preserved c =
    let at = c.loop-at.at in
    ap (λ x. take (2 * (at + 1)) (set (set c.loop-at.into (2 * at) x) (2 * at + 1) c.digit_of-in-loop-at.result)) c.digit_of.ensures
    ∙ ap (λ y. take (2 * (at + 1)) (set (set c.loop-at.into (2 * at) (hex_digit (get_or c.args.bytes.now at 0 / 16))) (2 * at + 1) y)) c.digit_of-in-loop-at.ensures
    ∙ write_more c.args.bytes.now c.loop-at.into at (omega arith) (omega arith) c.loop-at.invariant

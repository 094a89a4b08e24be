use Rattle.std.proofs.Common.{◌<◌, length, arith}
use Rattle.dg_lines.proofs.FrontLemmas.{any_err, front_at}
use Rattle.dg_lines.proofs.spelling.push_fields.Goals as goal

pub returns-in_err-push_behind-clause-err : goal.returns-in_err-push_behind-clause-err
returns-in_err-push_behind-clause-err c =
    let inside : c.loop-field.field-index < length c.args.fields.now = omega arith in
    any_err c.from_residual.result
    (front_at c.args.out.now.items c.loop-field.out.items c.push_behind.new.out.items c.args.fields.now c.loop-field.field-index _ inside c.loop-field.invariant.0 c.in_err-push_behind.ensures.err)

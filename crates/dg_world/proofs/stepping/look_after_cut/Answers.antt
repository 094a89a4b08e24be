use Rattle.dg_world.proofs.DispatchLemmas.{none_told}
use Rattle.dg_world.proofs.KnownLemmas.{no_value}
use Rattle.dg_world.proofs.StepLemmas.{unread_told, as_failed}
use Rattle.std.proofs.Common.{true, None, Option, Bool}
use Rattle.dg_world.proofs.stepping.look_after_cut.Goals as goal

pub returns-then-not-mounts_board-clause-reported : goal.returns-then-not-mounts_board-clause-reported
returns-then-not-mounts_board-clause-reported g c = λ s stands.
    let none : Option Bool = None in
    unread_told none c.args.mote c.args.before.now s _ c.args.out.now.items (no_value c.args.before.now (none_told c.args.before.now c.is_none.result true c.is_none.ensures c.if-is_none.true))

pub returns-in_err-orderly-clause-reported : goal.returns-in_err-orderly-clause-reported
returns-in_err-orderly-clause-reported g c = λ s stands.
    as_failed c.look_again.result c.from_residual.result c.in_err-orderly.field-0.0 c.args.mote c.args.before.now s _ _ c.args.out.now.items c.look_again.new.out.items c.in_err-orderly.was c.from_residual.ensures.1 (c.look_again.ensures.reported s stands)

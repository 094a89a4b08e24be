use Rattle.std.proofs.Common.{◌*◌, length, arith}
use Rattle.dg_nor.proofs.DeviceLemmas.{OnErr_from}
use Rattle.dg_object.specs.Object.{pages_for}
use Rattle.dg_slot.specs.Layout.{page_operations}
use Rattle.dg_volume.proofs.HaltLemmas.{halted_within}
use Rattle.dg_volume.proofs.formatting.fill_golden.Goals as goal

pub returns-in_err-open-clause-stopped : goal.returns-in_err-open-clause-stopped
returns-in_err-open-clause-stopped g c =
    OnErr_from c.from_residual.result
    (halted_within (page_operations * c.loop-p.p) page_operations (page_operations * pages_for (length c.args.golden.now)) _ _ _ (omega (arith, c.loop-p-test.true, c.pages_of-p-end.ensures)) c.loop-p.invariant.ran c.in_err-open.ensures.stopped)

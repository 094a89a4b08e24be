use Rattle.std.proofs.Common.{◌+◌, ◌*◌, length, arith}
use Rattle.std.proofs.lemmas.Result.{on_err_weaker}
use Rattle.dg_object.specs.Object.{pages_for}
use Rattle.dg_slot.specs.Layout.{page_operations}
use Rattle.dg_volume.proofs.HaltLemmas.{halted_within}
use Rattle.dg_volume.proofs.formatting.write_golden.Goals as goal

pub returns-clause-stopped : goal.returns-clause-stopped
returns-clause-stopped g c =
    let n = page_operations * pages_for (length c.args.golden.now) in
    on_err_weaker c.fill_golden.result (λ stopped. halted_within 2 n (2 + n) _ _ _ (omega arith) c.in_ok-slot.ensures.ran stopped) c.fill_golden.ensures.stopped

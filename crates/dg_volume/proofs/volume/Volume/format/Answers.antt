use Rattle.std.proofs.Common.{rules}
use Rattle.dg_nor.proofs.DeviceLemmas.{Ran_then}
use Rattle.dg_volume.specs.Store.{golden_row}
use Rattle.dg_volume.proofs.HaltLemmas.{halted_after, stopped_after}
use Rattle.dg_volume.proofs.FreshLemmas.{golden_first, fresh_stands}
use Rattle.dg_volume.proofs.volume.Volume.format.Goals as goal

pub returns-in_err-format-clause-golden_first : goal.returns-in_err-format-clause-golden_first
returns-in_err-format-clause-golden_first g c _ =
    golden_first _ _ _ (golden_row c.args.name.now c.args.golden.now) c.in_ok-write_golden.ensures.kept c.in_err-format.ensures.touches

pub returns-in_err-format-clause-halted : goal.returns-in_err-format-clause-halted
returns-in_err-format-clause-halted g c _ = search (rules, halted_after)

pub returns-in_err-format-clause-stopped : goal.returns-in_err-format-clause-stopped
returns-in_err-format-clause-stopped g c _ = search (rules, stopped_after)

pub returns-clause-formatted : goal.returns-clause-formatted
returns-clause-formatted g c =
    fresh_stands _ _ c.args.name.now c.args.golden.now c.args.used c.fresh.result.snapshot c.in_ok-write_golden.ensures.kept c.in_ok-format.ensures.touches c.in_ok-format.ensures.controls c.fresh.ensures.snapshot

pub returns-clause-ran : goal.returns-clause-ran
returns-clause-ran g c = Ran_then c.in_ok-write_golden.ensures.ran c.in_ok-format.ensures.ran

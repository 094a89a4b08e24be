use Rattle.std.proofs.Common.{sym, subst}
use Rattle.dg_rules.specs.World.{site, store_at}
use Rattle.dg_rules.specs.Events.{hear_by}
use Rattle.dg_world.specs.Alone.{IsReset, Powers}
use Rattle.dg_world.specs.inner.Outcomes.{as_outcome}
use Rattle.dg_world.proofs.DispatchLemmas.{ends_at}
use Rattle.dg_world.proofs.AloneLemmas.{AppliesAlone, alone_ticks, alone_hears, alone_starts, alone_ok, alone_err, powers_on, powers_done}
use Rattle.dg_world.proofs.alone.play_alone.Goals as goal

pub returns-in_ok-tick-in-Tick-clause-plays : goal.returns-in_ok-tick-in-Tick-clause-plays
returns-in_ok-tick-in-Tick-clause-plays g c = λ w stands known at wide.
    let e = c.in-Tick in
    let x = c.tick in
    let ends = subst (AppliesAlone (as_outcome x.result x.new.outcome) w c.args.runs.now x.new.runs c.args.now _ _) (sym e.is)
    (alone_ticks (as_outcome x.result x.new.outcome) w c.args.runs.now x.new.runs c.args.now _ _ e.mote e.dt e.word (x.ensures.ends w e.mote))
    stands at wide in
    alone_ok x.result x.new.outcome w c.args.event.now _ _ _ _ c.in_ok-tick-in-Tick.was known stands ends

pub returns-in_ok-tick-in-Tick-clause-powers : goal.returns-in_ok-tick-in-Tick-clause-powers
returns-in_ok-tick-in-Tick-clause-powers g c = λ h. absurd (subst IsReset c.in-Tick.is h)

pub returns-in_err-tick-in-Tick-clause-plays : goal.returns-in_err-tick-in-Tick-clause-plays
returns-in_err-tick-in-Tick-clause-plays g c = λ w stands known at wide.
    let e = c.in-Tick in
    let x = c.tick in
    let ends = subst (AppliesAlone (as_outcome x.result x.new.outcome) w c.args.runs.now x.new.runs c.args.now _ _) (sym e.is)
    (alone_ticks (as_outcome x.result x.new.outcome) w c.args.runs.now x.new.runs c.args.now _ _ e.mote e.dt e.word (x.ensures.ends w e.mote))
    stands at wide in
    alone_err x.result c.from_residual.result c.in_err-tick-in-Tick.field-0.0 x.new.outcome w c.args.event.now _ _ _ _ c.in_err-tick-in-Tick.was c.from_residual.ensures.1 ends

pub returns-in_err-tick-in-Tick-clause-powers : goal.returns-in_err-tick-in-Tick-clause-powers
returns-in_err-tick-in-Tick-clause-powers g c = λ h. absurd (subst IsReset c.in-Tick.is h)

pub returns-in_ok-reset-in-Reset-clause-plays : goal.returns-in_ok-reset-in-Reset-clause-plays
returns-in_ok-reset-in-Reset-clause-plays g c = λ w stands known at wide.
    let e = c.in-Reset in
    let x = c.reset in
    let ends = subst (AppliesAlone (as_outcome x.result x.new.outcome) w c.args.runs.now x.new.runs c.args.now _ _) (sym e.is)
    (alone_starts (as_outcome x.result x.new.outcome) w c.args.runs.now x.new.runs c.args.now _ _ e.mote e.dt e.word (x.ensures.ends w e.mote (sym c.from-id.ensures)))
    stands at wide in
    alone_ok x.result x.new.outcome w c.args.event.now _ _ _ _ c.in_ok-reset-in-Reset.was known stands ends

pub returns-in_ok-reset-in-Reset-clause-powers : goal.returns-in_ok-reset-in-Reset-clause-powers
returns-in_ok-reset-in-Reset-clause-powers g c = λ h. powers_done tt _ _ _ (subst (λ r. Powers r (g.N.Nor.device c.args.board.now) (g.N.Nor.device c.reset.new.board)) c.in_ok-reset-in-Reset.was c.reset.ensures.powers)

pub returns-in_err-reset-in-Reset-clause-plays : goal.returns-in_err-reset-in-Reset-clause-plays
returns-in_err-reset-in-Reset-clause-plays g c = λ w stands known at wide.
    let e = c.in-Reset in
    let x = c.reset in
    let ends = subst (AppliesAlone (as_outcome x.result x.new.outcome) w c.args.runs.now x.new.runs c.args.now _ _) (sym e.is)
    (alone_starts (as_outcome x.result x.new.outcome) w c.args.runs.now x.new.runs c.args.now _ _ e.mote e.dt e.word (x.ensures.ends w e.mote (sym c.from-id.ensures)))
    stands at wide in
    alone_err x.result c.from_residual-in_err-reset-in-Reset.result c.in_err-reset-in-Reset.field-0.0 x.new.outcome w c.args.event.now _ _ _ _ c.in_err-reset-in-Reset.was c.from_residual-in_err-reset-in-Reset.ensures.1 ends

pub returns-in_err-reset-in-Reset-clause-powers : goal.returns-in_err-reset-in-Reset-clause-powers
returns-in_err-reset-in-Reset-clause-powers g c = λ h. powers_on c.from_residual-in_err-reset-in-Reset.result c.in_err-reset-in-Reset.field-0.0 _ _ c.from_residual-in_err-reset-in-Reset.ensures.1 (subst (λ r. Powers r (g.N.Nor.device c.args.board.now) (g.N.Nor.device c.reset.new.board)) c.in_err-reset-in-Reset.was c.reset.ensures.powers)

pub returns-in_ok-hear-in-Frame-clause-plays : goal.returns-in_ok-hear-in-Frame-clause-plays
returns-in_ok-hear-in-Frame-clause-plays g c = λ w stands known at wide.
    let e = c.in-Frame in
    let x = c.hear in
    let ends = subst (AppliesAlone (as_outcome x.result x.new.outcome) w c.args.runs.now x.new.runs c.args.now _ _) (sym e.is)
    (alone_hears (as_outcome x.result x.new.outcome) w c.args.runs.now x.new.runs c.args.now _ _ e.mote e.dt e.word e.bytes (λ stands. ends_at (λ bytes. hear_by w (store_at w e.mote) (site w e.mote).runs c.args.now e.word bytes) e.bytes c.as_slice-frame.result.now (as_outcome x.result x.new.outcome) w e.mote c.args.runs.now x.new.runs _ _ (sym c.as_slice-frame.ensures) (x.ensures.ends w e.mote stands)))
    stands at wide in
    alone_ok x.result x.new.outcome w c.args.event.now _ _ _ _ c.in_ok-hear-in-Frame.was known stands ends

pub returns-in_ok-hear-in-Frame-clause-powers : goal.returns-in_ok-hear-in-Frame-clause-powers
returns-in_ok-hear-in-Frame-clause-powers g c = λ h. absurd (subst IsReset c.in-Frame.is h)

pub returns-in_err-hear-in-Frame-clause-plays : goal.returns-in_err-hear-in-Frame-clause-plays
returns-in_err-hear-in-Frame-clause-plays g c = λ w stands known at wide.
    let e = c.in-Frame in
    let x = c.hear in
    let ends = subst (AppliesAlone (as_outcome x.result x.new.outcome) w c.args.runs.now x.new.runs c.args.now _ _) (sym e.is)
    (alone_hears (as_outcome x.result x.new.outcome) w c.args.runs.now x.new.runs c.args.now _ _ e.mote e.dt e.word e.bytes (λ stands. ends_at (λ bytes. hear_by w (store_at w e.mote) (site w e.mote).runs c.args.now e.word bytes) e.bytes c.as_slice-frame.result.now (as_outcome x.result x.new.outcome) w e.mote c.args.runs.now x.new.runs _ _ (sym c.as_slice-frame.ensures) (x.ensures.ends w e.mote stands)))
    stands at wide in
    alone_err x.result c.from_residual-in_err-hear-in-Frame.result c.in_err-hear-in-Frame.field-0.0 x.new.outcome w c.args.event.now _ _ _ _ c.in_err-hear-in-Frame.was c.from_residual-in_err-hear-in-Frame.ensures.1 ends

pub returns-in_err-hear-in-Frame-clause-powers : goal.returns-in_err-hear-in-Frame-clause-powers
returns-in_err-hear-in-Frame-clause-powers g c = λ h. absurd (subst IsReset c.in-Frame.is h)

use Rattle.std.proofs.Common.{Result, Ok, sym, ap, subst, ◌∙◌, option_map, IfSome}
use Rattle.dg_nor.proofs.DeviceLemmas.{OnErr_from}
use Rattle.dg_volume.specs.Acts.{Stops}
use Rattle.dg_frame.specs.Spelling.{frame_of}
use Rattle.dg_mote.specs.Model.{MoteStep}
use Rattle.dg_mote.specs.Ticks.{tick_of}
use Rattle.dg_mote.specs.Motes.{Done, IsRead}
use Rattle.dg_nor.specs.declared.device.Stopped.{Stopped}
use Rattle.dg_mote.specs.declared.mote.Did.{Did}
use Rattle.dg_mote.specs.declared.mote.Did.TheVariants.{Idle}
use Rattle.dg_mote.proofs.ClearLemmas.{tick_clears, tick_acts, clears_room, cleared, if_ok, on_ok, on_err}
use Rattle.dg_mote.proofs.ConsistentLemmas.{turn_consistent, stop_consistent, on_each, on_each_err}
use Rattle.dg_mote.proofs.mote.Mote.tick.Goals as goal

pub clear_gesture-requires-clause-room : goal.clear_gesture-requires-clause-room
clear_gesture-requires-clause-room g c =
    let x = c.requires.mote in
    clears_room x.0 x.1 c.args.self.now.volume c.args.now (sym (c.clears.ensures x.0 x.1 x.2.since x.2.mounted.tells) ∙ c.if-clears.true) x.2.mounted.tells

pub returns-in_err-clear_gesture-clause-stopped : goal.returns-in_err-clear_gesture-clause-stopped
returns-in_err-clear_gesture-clause-stopped g c = OnErr_from c.from_residual.result (λ m s h.
    let turn = tick_clears m s c.args.now c.args.word (sym (c.clears.ensures m s h.since h.mounted.tells) ∙ c.if-clears.true) in
    subst (λ (t : MoteStep Did). Stops t.trail (g.N.Nor.device c.args.nor.now) (g.N.Nor.device c.clear_gesture.new.nor)) (sym turn) (c.in_err-clear_gesture.ensures.stopped s h.mounted))

pub returns-then-clears-clause-done : goal.returns-then-clears-clause-done
returns-then-clears-clause-done g c m s h =
    let a = g.N.Nor.device c.args.nor.now in
    let b = g.N.Nor.device c.clear_gesture.new.nor in
    let v = c.args.self.now in
    let w = c.clear_gesture.new.volume in
    let turn = tick_clears m s c.args.now c.args.word (sym (c.clears.ensures m s h.since h.mounted.tells) ∙ c.if-clears.true) in
    subst (λ (t : MoteStep Did). Done t a b (record v { volume = w }) Idle) (sym turn)
    (cleared a b v w m s h (c.in_ok-clear_gesture.ensures.acted s h.mounted) c.in_ok-clear_gesture.ensures.lent c.in_ok-clear_gesture.ensures.job)

pub returns-then-clears-clause-sent : goal.returns-then-clears-clause-sent
returns-then-clears-clause-sent g c m s h =
    c.requires.empty ∙ sym (ap (λ (t : MoteStep Did). option_map frame_of t.sent) (tick_clears m s c.args.now c.args.word (sym (c.clears.ensures m s h.since h.mounted.tells) ∙ c.if-clears.true)))

pub returns-clause-done : goal.returns-clause-done
returns-clause-done g c = if_ok c.tick_mode.result (λ did done m s h.
    subst (λ (t : MoteStep Did). Done t (g.N.Nor.device c.args.nor.now) (g.N.Nor.device c.tick_mode.new.nor) c.tick_mode.new.self did)
    (sym (tick_acts m s c.args.now c.args.word (sym (c.clears.ensures m s h.since h.mounted.tells) ∙ c.if-clears.false))) (done m s h)) c.tick_mode.ensures.done

pub returns-clause-sent : goal.returns-clause-sent
returns-clause-sent g c = on_ok c.tick_mode.result (λ sent m s h.
    sent m s h ∙ sym (ap (λ (t : MoteStep Did). option_map frame_of t.sent) (tick_acts m s c.args.now c.args.word (sym (c.clears.ensures m s h.since h.mounted.tells) ∙ c.if-clears.false)))) c.tick_mode.ensures.sent

pub returns-clause-stopped : goal.returns-clause-stopped
returns-clause-stopped g c = on_err c.tick_mode.result (λ stopped m s h.
    subst (λ (t : MoteStep Did). Stops t.trail (g.N.Nor.device c.args.nor.now) (g.N.Nor.device c.tick_mode.new.nor))
    (sym (tick_acts m s c.args.now c.args.word (sym (c.clears.ensures m s h.since h.mounted.tells) ∙ c.if-clears.false))) (stopped m s h)) c.tick_mode.ensures.stopped

pub returns-then-clears-clause-read : goal.returns-then-clears-clause-read
returns-then-clears-clause-read g c m s h =
    subst (λ (t : MoteStep Did). IfSome t.sent (IsRead m.wide)) (sym (tick_clears m s c.args.now c.args.word (sym (c.clears.ensures m s h.since h.mounted.tells) ∙ c.if-clears.true))) tt

pub returns-clause-read : goal.returns-clause-read
returns-clause-read g c = on_ok c.tick_mode.result (λ read m s h.
    subst (λ (t : MoteStep Did). IfSome t.sent (IsRead m.wide)) (sym (tick_acts m s c.args.now c.args.word (sym (c.clears.ensures m s h.since h.mounted.tells) ∙ c.if-clears.false))) (read m s h)) c.tick_mode.ensures.read

pub returns-then-clears-clause-consistent : goal.returns-then-clears-clause-consistent
returns-then-clears-clause-consistent g c = λ golden.
    let a = g.N.Nor.device c.args.nor.now in
    let b = g.N.Nor.device c.clear_gesture.new.nor in
    let v = c.args.self.now in
    let r : Result Did Stopped = Ok Idle in
    turn_consistent golden (λ m s. tick_of m s c.args.now c.args.word) (λ m s. c.a_mote_keeps_consistency.ensures.ticked golden m s c.args.now c.args.word) r a b v (record v { volume = c.clear_gesture.new.volume }) (returns-then-clears-clause-done g c)

pub returns-clause-consistent : goal.returns-clause-consistent
returns-clause-consistent g c = on_each _ c.tick_mode.result (λ golden.
    let a = g.N.Nor.device c.args.nor.now in
    let b = g.N.Nor.device c.tick_mode.new.nor in
    turn_consistent golden (λ m s. tick_of m s c.args.now c.args.word) (λ m s. c.a_mote_keeps_consistency.ensures.ticked golden m s c.args.now c.args.word) c.tick_mode.result a b c.args.self.now c.tick_mode.new.self (returns-clause-done g c))

pub returns-in_err-clear_gesture-clause-stops_consistent : goal.returns-in_err-clear_gesture-clause-stops_consistent
returns-in_err-clear_gesture-clause-stops_consistent g c = on_each_err _ c.from_residual.result (λ golden.
    let a = g.N.Nor.device c.args.nor.now in
    let b = g.N.Nor.device c.clear_gesture.new.nor in
    stop_consistent golden (λ m s. tick_of m s c.args.now c.args.word) (λ m s. c.a_mote_keeps_consistency.ensures.ticked golden m s c.args.now c.args.word) (c.a_mote_keeps_consistency.ensures.stopped golden) c.from_residual.result a b c.args.self.now
    (returns-in_err-clear_gesture-clause-stopped g c))

pub returns-clause-stops_consistent : goal.returns-clause-stops_consistent
returns-clause-stops_consistent g c = on_each_err _ c.tick_mode.result (λ golden.
    let a = g.N.Nor.device c.args.nor.now in
    let b = g.N.Nor.device c.tick_mode.new.nor in
    stop_consistent golden (λ m s. tick_of m s c.args.now c.args.word) (λ m s. c.a_mote_keeps_consistency.ensures.ticked golden m s c.args.now c.args.word) (c.a_mote_keeps_consistency.ensures.stopped golden) c.tick_mode.result a b c.args.self.now
    (returns-clause-stopped g c))

use Rattle.std.proofs.Common.{ℕ, List, map, inl, inr, refl, subst}
use Rattle.dg_base.specs.Outside.{Puts, PutsPrefix}
use Rattle.dg_meter.specs.Meters.{metered_device}
use Rattle.dg_outside.specs.Outside.{Outside, with_input, with_output, with_boards}
use Rattle.dg_base.specs.declared.answers.Status.TheVariants.{WriteFault}
use Rattle.dg_cost.proofs.RunLemmas.{rehearsed}
use Rattle.dg_cost.proofs.call.cost.Goals as goal

pub returns-in-Ok-write-clause-done : goal.returns-in-Ok-write-clause-done
returns-in-Ok-write-clause-done g c = λ rest.
    let ran = c.replay_counted-status.result in
    let device = metered_device g.N.Nor.device in
    let a : Outside = with_boards (map device c.args.boards.now.items)
    (with_output (g.K.Sink, c.args.out.now) (with_input (g.S.Source, c.args.input.now) rest)) in
    let b : Outside = with_boards (map device c.look_again.new.boards.items)
    (with_output (g.K.Sink, c.write.new.self) (with_input (g.S.Source, c.replay_counted-status.new.input) rest)) in
    inr (rehearsed c.args.asked.now c.replay_counted-status.new.counter c.look_again.new.costs ran ran a b c.new.result.items
    c.replay_counted-status.new.out.bytes.items c.as_slice.result.now c.in-Ok-text_of.text.items
    c.replay_counted-status.new.out.faults (map device c.look.new.boards.items)
    (map device c.replay_counted-status.new.boards.items) c.look.ensures.read c.look_again.ensures.read c.if-report-gt0.false (c.failed.ensures.frames c.if-failed.false) (c.failed.ensures.wholes c.if-failed.false) c.new.ensures.items c.as_slice.ensures.value
    (c.replay_counted-status.ensures.done rest) (c.replay_counted-status.ensures.counted (c.new-counter.ensures.seen (map device c.look.new.boards.items) (map device c.look.new.boards.items) c.in-Ok.ensures.given) rest)
    c.in-Ok-text_of.ensures (inl (
      refl,
      subst (λ (bytes : List ℕ). Puts a.output.written b.output.written bytes) c.deref.ensures.value
          c.in-Ok-write.ensures.ok,
    )))

pub returns-in-Ok-text_of-clause-done : goal.returns-in-Ok-text_of-clause-done
returns-in-Ok-text_of-clause-done g c = λ rest.
    let ran = c.replay_counted-status.result in
    let device = metered_device g.N.Nor.device in
    let a : Outside = with_boards (map device c.args.boards.now.items)
    (with_output (g.K.Sink, c.args.out.now) (with_input (g.S.Source, c.args.input.now) rest)) in
    let b : Outside = with_boards (map device c.look_again.new.boards.items)
    (with_output (g.K.Sink, c.write.new.self) (with_input (g.S.Source, c.replay_counted-status.new.input) rest)) in
    inr (rehearsed c.args.asked.now c.replay_counted-status.new.counter c.look_again.new.costs ran WriteFault a b c.new.result.items
    c.replay_counted-status.new.out.bytes.items c.as_slice.result.now c.in-Ok-text_of.text.items
    c.replay_counted-status.new.out.faults (map device c.look.new.boards.items)
    (map device c.replay_counted-status.new.boards.items) c.look.ensures.read c.look_again.ensures.read c.if-report-gt0.false (c.failed.ensures.frames c.if-failed.false) (c.failed.ensures.wholes c.if-failed.false) c.new.ensures.items c.as_slice.ensures.value
    (c.replay_counted-status.ensures.done rest) (c.replay_counted-status.ensures.counted (c.new-counter.ensures.seen (map device c.look.new.boards.items) (map device c.look.new.boards.items) c.in-Ok.ensures.given) rest)
    c.in-Ok-text_of.ensures (inr (
      refl,
      subst (λ (bytes : List ℕ). PutsPrefix a.output.written b.output.written bytes) c.deref.ensures.value
          c.in-Err-write.ensures.err,
      c.in-Err-write.ensures.failed,
    )))

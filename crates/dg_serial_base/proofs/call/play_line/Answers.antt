use Rattle.std.proofs.Common.{refl}
use Rattle.dg_outside.specs.Outside.{with_input, with_output}
use Rattle.dg_serial_base.specs.BaseEvents.{Base}
use Rattle.dg_serial_base.specs.inner.Standing.{Outset}
use Rattle.dg_serial_base.specs.declared.running.Running.{Running}
use Rattle.dg_serial_base.proofs.EndLemmas.{outset_of, input_ends, power_ends, refused_same}
use Rattle.dg_serial_base.proofs.FirstLemmas.{first_played}
use Rattle.dg_serial_base.proofs.ResultLemmas.{counts_after}
use Rattle.dg_serial_base.proofs.call.play_line.Goals as goal

pub returns-in-Ok-clause-ends : goal.returns-in-Ok-clause-ends
returns-in-Ok-clause-ends g c = λ s rest stands.
    let b : Base = record { id = c.args.id; step = c.args.step; seed = c.args.seed } in
    let x = c.in-Ok.ensures.ends s stands in
    let before = with_output (g.K.Sink, c.args.out.now) (with_input (g.S.Source, c.args.input.now) rest) in
    let after = with_output (g.K.Sink, c.play_input.new.out) (with_input (g.S.Source, c.play_input.new.input) rest) in
    let a : Outset = outset_of b s before in
    input_ends c.frames_come_back.ensures.read b s (g.N.Nor.device c.args.nor.now) (g.N.Nor.device c.play_input.new.nor) before after c.play_input.result c.play_input.new.self.running c.play_input.new.self.line
    (c.play_input.ensures.ends a (first_played a c.in-Ok.running _ _ c.new-line.ensures.stream x.0 x.1))

pub returns-in-Ok-clause-refused : goal.returns-in-Ok-clause-refused
returns-in-Ok-clause-refused g c = λ none. absurd (c.in-Ok.ensures.none none)

pub returns-in-Ok-clause-counts : goal.returns-in-Ok-clause-counts
returns-in-Ok-clause-counts g c = counts_after c.play_input.result _ _ _ c.in-Ok.ensures.counts c.play_input.ensures.counts

pub returns-in-Err-clause-ends : goal.returns-in-Err-clause-ends
returns-in-Err-clause-ends g c = λ s rest stands.
    let b : Base = record { id = c.args.id; step = c.args.step; seed = c.args.seed } in
    let x = c.in-Err.ensures.ends s stands in
    let before = with_output (g.K.Sink, c.args.out.now) (with_input (g.S.Source, c.args.input.now) rest) in
    power_ends c.frames_come_back.ensures.read b s (g.N.Nor.device c.args.nor.now) (g.N.Nor.device c.power.new.nor) before before c.in-Err.end x.0 x.1 refl refl

pub returns-in-Err-clause-refused : goal.returns-in-Err-clause-refused
returns-in-Err-clause-refused g c = λ none. (refused_same Running (Unit {0}) c.in-Err.end _ _ (c.in-Err.ensures.none none), refl, refl)

pub returns-in-Err-clause-writes : goal.returns-in-Err-clause-writes
returns-in-Err-clause-writes g c = c.in-Err.ensures.writes _

pub returns-in-Err-clause-reads : goal.returns-in-Err-clause-reads
returns-in-Err-clause-reads g c = c.in-Err.ensures.reads _

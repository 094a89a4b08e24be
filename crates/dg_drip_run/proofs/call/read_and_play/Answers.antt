use Rattle.std.proofs.lemmas.Result.{err_from_is_err_and}
use Rattle.dg_outside.specs.Outside.{input_of, output_of}
use Rattle.dg_end.specs.Lines.{text_outcome}
use Rattle.dg_drip_run.specs.inner.Lines.{drip_stage}
use Rattle.dg_drip_run.proofs.ReadLemmas.{came_none, script_ended}
use Rattle.dg_drip_run.proofs.call.read_and_play.Goals as goal

pub returns-in_err-reader-clause-came : goal.returns-in_err-reader-clause-came
returns-in_err-reader-clause-came g c =
    let p = err_from_is_err_and c.from_residual.result c.from_residual.ensures.1 in
    rw (p.1, p.2) (came_none (input_of (g.S.Source, c.args.input.now)) (output_of (g.K.Sink, c.args.out.now)))

pub returns-in_err-player-clause-came : goal.returns-in_err-player-clause-came
returns-in_err-player-clause-came g c =
    let p = err_from_is_err_and c.from_residual-in_err-player.result c.from_residual-in_err-player.ensures.1 in
    rw (p.1, p.2) (came_none (input_of (g.S.Source, c.args.input.now)) (output_of (g.K.Sink, c.args.out.now)))

pub returns-in_err-number-clause-came : goal.returns-in_err-number-clause-came
returns-in_err-number-clause-came g c =
    let p = err_from_is_err_and c.from_residual-in_err-number.result c.from_residual-in_err-number.ensures.1 in
    rw (p.1, p.2) c.in_err-number.ensures.answer

pub returns-clause-came : goal.returns-clause-came
returns-clause-came g c =
    let now = drip_stage c.play_lines.new.reader c.play_lines.new.player (input_of (g.S.Source, c.play_lines.new.input)) (output_of (g.K.Sink, c.play_lines.new.out)) in
    script_ended (text_outcome (λ text. text.items) c.end_script.result) _ now c.in_ok-number.number c.in_ok-number.ensures.still c.in_ok-number.ensures.answer c.end_script.ensures

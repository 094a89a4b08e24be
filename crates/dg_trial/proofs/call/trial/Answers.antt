use Rattle.std.proofs.Common.{map, arith}
use Rattle.dg_outside.specs.Outside.{output_of}
use Rattle.dg_end.specs.Lines.{text_outcome}
use Rattle.dg_trial.proofs.EndLemmas.{whole_ends, trial_ends, trial_cause, trial_unfailed, tells_whole}
use Rattle.dg_trial.proofs.call.trial.Goals as goal

pub returns-clause-ends : goal.returns-clause-ends
returns-clause-ends g c = λ rest.
    let outcome = text_outcome (λ text. text.items) c.play_and_tell-outcome.result in
    trial_ends c.answer.result outcome c.args.motes c.args.pages c.args.seed
    (output_of (g.K.Sink, c.args.out.now)) (output_of (g.K.Sink, c.answer.new.out)) (map g.N.Nor.device c.args.boards.now.items) (map g.N.Nor.device c.play_and_tell-outcome.new.boards.items) rest
    (whole_ends c.trials_end_whole.ensures outcome c.args.motes c.args.pages c.args.seed (map g.N.Nor.device c.args.boards.now.items) (map g.N.Nor.device c.play_and_tell-outcome.new.boards.items) c.requires.some c.requires.few c.requires.some_pages c.requires.few_pages c.play_and_tell-outcome.ensures)
    c.answer.ensures.ends c.answer.ensures.counts

pub returns-clause-cause : goal.returns-clause-cause
returns-clause-cause g c =
    trial_cause c.answer.result (text_outcome (λ text. text.items) c.play_and_tell-outcome.result) c.args.motes c.args.pages c.args.seed
    (output_of (g.K.Sink, c.args.out.now)) (output_of (g.K.Sink, c.answer.new.out)) _ _ c.play_and_tell-outcome.ensures c.answer.ensures.ends

pub returns-clause-unfailed : goal.returns-clause-unfailed
returns-clause-unfailed g c =
    trial_unfailed c.answer.result (text_outcome (λ text. text.items) c.play_and_tell-outcome.result) (output_of (g.K.Sink, c.args.out.now)) (output_of (g.K.Sink, c.answer.new.out)) c.answer.ensures.ends

pub returns-clause-whole : goal.returns-clause-whole
returns-clause-whole g c =
    let outcome = text_outcome (λ text. text.items) c.play_and_tell-outcome.result in
    let old = map g.N.Nor.device c.args.boards.now.items in
    let new = map g.N.Nor.device c.play_and_tell-outcome.new.boards.items in
    tells_whole c.answer.result outcome c.args.motes c.args.pages c.args.seed (output_of (g.K.Sink, c.args.out.now)) (output_of (g.K.Sink, c.answer.new.out)) old new (omega (arith, c.requires.some))
    (whole_ends c.trials_end_whole.ensures outcome c.args.motes c.args.pages c.args.seed old new c.requires.some c.requires.few c.requires.some_pages c.requires.few_pages c.play_and_tell-outcome.ensures) c.answer.ensures.ends

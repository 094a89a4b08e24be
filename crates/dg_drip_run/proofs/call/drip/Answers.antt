use Rattle.dg_outside.specs.Outside.{output_of, with_input, with_output}
use Rattle.dg_end.specs.Lines.{text_outcome}
use Rattle.dg_drip_run.specs.Dripped.{played}
use Rattle.dg_drip_run.proofs.CauseLemmas.{ends_so}
use Rattle.dg_drip_run.proofs.call.drip.Goals as goal

pub returns-clause-replayed : goal.returns-clause-replayed
returns-clause-replayed g c = λ rest. record {
  outcome = text_outcome (λ text. text.items) c.read_and_play-outcome.result;
  between = output_of (g.K.Sink, c.read_and_play-outcome.new.out);
  came = c.read_and_play-outcome.ensures.came;
  answered = c.answer.ensures.ends;
}

pub returns-clause-ends : goal.returns-clause-ends
returns-clause-ends g c = λ rest.
    ends_so c.answer.result (with_output (g.K.Sink, c.args.out.now) (with_input (g.S.Source, c.args.input.now) rest)) (with_output (g.K.Sink, c.answer.new.out) (with_input (g.S.Source, c.read_and_play-outcome.new.input) rest))
    (returns-clause-replayed g c rest)

pub returns-clause-spread : goal.returns-clause-spread
returns-clause-spread g c = λ rest.
    let laws = c.values_spread.ensures in
    record {
      greatest = λ x. laws.greatest (played x.came.script);
      rises = λ x. laws.rises (played x.came.script);
      made = λ x. laws.made (played x.came.script);
      rounds = λ x. laws.rounds (played x.came.script);
      sweeps = λ x. laws.sweeps (played x.came.script);
    }

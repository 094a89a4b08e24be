use Rattle.std.specs.Prelude.{Ok, Err}
use Rattle.std.proofs.Common.{refl}
use Rattle.dg_outside.specs.Outside.{input_of, output_of}
use Rattle.dg_serve.proofs.NetworkLemmas.{none_unlinked}
use Rattle.dg_serve.proofs.network.serve_network.Goals as goal

pub returns-in-Ok-clause-served : goal.returns-in-Ok-clause-served
returns-in-Ok-clause-served g c = record {
  outcome = Ok c.in-Ok.profile;
  read = c.in-Ok.ensures.read;
  done = c.serve.ensures.served (input_of (g.S.Source, c.args.input.now)) (input_of (g.S.Source, c.read_network.new.input));
}

pub returns-in-Err-clause-served : goal.returns-in-Err-clause-served
returns-in-Err-clause-served g c = record { outcome = Err c.in-Err.end; read = c.in-Err.ensures.read; done = record { told = c.fail.ensures.ends; same = refl } }

pub returns-in-Err-clause-link_fault : goal.returns-in-Err-clause-link_fault
returns-in-Err-clause-link_fault g c = λ is.
    absurd (none_unlinked c.in-Err.end c.fail.result (input_of (g.S.Source, c.args.input.now)) (input_of (g.S.Source, c.read_network.new.input)) (output_of (g.K.Sink, c.args.out.now)) (output_of (g.K.Sink, c.fail.new.out)) c.in-Err.ensures.read c.fail.ensures.ends is)

pub returns-in-Ok-clause-buffers : goal.returns-in-Ok-clause-buffers
returns-in-Ok-clause-buffers g c = let b = c.a_mote_buffers_little.ensures in (b.alive, b.values)

pub returns-in-Err-clause-buffers : goal.returns-in-Err-clause-buffers
returns-in-Err-clause-buffers g c = let b = c.a_mote_buffers_little.ensures in (b.alive, b.values)

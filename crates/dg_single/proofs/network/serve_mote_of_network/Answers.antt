use Rattle.std.specs.Prelude.{Ok, Err}
use Rattle.dg_outside.specs.Outside.{Outside, input_of, output_of, link_state, outside}
use Rattle.dg_single.proofs.NetworkOver.{ended_over}
use Rattle.dg_single.proofs.network.serve_mote_of_network.Goals as goal

pub returns-in-Ok-clause-served : goal.returns-in-Ok-clause-served
returns-in-Ok-clause-served g c = λ boards owns. record {
  outcome = Ok c.in-Ok.profile;
  read = c.in-Ok.ensures.read;
  done = c.serve_in.ensures.done (input_of (g.S.Source, c.args.input.now)) (input_of (g.S.Source, c.read_network.new.input)) boards owns;
}

pub returns-in-Err-clause-served : goal.returns-in-Err-clause-served
returns-in-Err-clause-served g c = λ boards owns.
    let a : Outside = outside (input_of (g.S.Source, c.args.input.now)) (output_of (g.K.Sink, c.args.out.now)) (link_state (g.L.Link, c.args.link.now)) (g.C.Clock.told c.args.clock.now) boards in
    record {
      outcome = Err c.in-Err.end;
      read = c.in-Err.ensures.read;
      done = ended_over c.in-Err.end c.fail.result c.args.mote a (g.N.Nor.device c.args.board.now) (input_of (g.S.Source, c.read_network.new.input)) (output_of (g.K.Sink, c.fail.new.out)) owns.is c.fail.ensures.ends;
    }

pub returns-in-Ok-clause-buffers : goal.returns-in-Ok-clause-buffers
returns-in-Ok-clause-buffers g c = let b = c.a_mote_buffers_little.ensures in (b.alive, b.values)

pub returns-in-Err-clause-buffers : goal.returns-in-Err-clause-buffers
returns-in-Err-clause-buffers g c = let b = c.a_mote_buffers_little.ensures in (b.alive, b.values)

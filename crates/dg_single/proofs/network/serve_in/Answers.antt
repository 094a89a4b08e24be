use Rattle.std.proofs.Common.{arith}
use Rattle.dg_base.specs.declared.answers.Status.{Status}
use Rattle.dg_netcfg.specs.declared.profile.ProfileFault.TheVariants as fault
use Rattle.dg_outside.specs.Outside.{Outside, output_of, link_state, outside}
use Rattle.dg_end.specs.declared.ends.End.TheVariants as ends
use Rattle.dg_single.proofs.NetworkOver.{served_here, refused_here, ended_over, owns_fewer}
use Rattle.dg_single.proofs.network.serve_in.Goals as goal

pub returns-then-mote-profile-clause-done : goal.returns-then-mote-profile-clause-done
returns-then-mote-profile-clause-done g c = λ before after boards owns.
    let a : Outside = outside before (output_of (g.K.Sink, c.args.out.now)) (link_state (g.L.Link, c.args.link.now)) (g.C.Clock.told c.args.clock.now) boards in
    refused_here c.args.mote c.args.profile.now c.fail.result c.args.seed c.args.turns a _ (omega arith) (ended_over (ends.BadProfile fault.Id) c.fail.result c.args.mote a (g.N.Nor.device c.args.board.now) after (output_of (g.K.Sink, c.fail.new.out)) owns.is c.fail.ensures.ends)

pub returns-clause-done : goal.returns-clause-done
returns-clause-done g c = λ before after boards owns.
    served_here c.args.mote c.args.profile.now c.serve_mote.result c.args.seed c.args.turns _ _ (omega arith) (c.serve_mote.ensures.served before after boards (owns_fewer 16 c.args.profile.now.motes c.args.mote (g.N.Nor.device c.args.board.now) boards c.requires.motes.1 owns))

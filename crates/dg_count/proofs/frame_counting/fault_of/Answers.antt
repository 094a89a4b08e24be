use Rattle.dg_frame.specs.Spelling.{frame_of}
use Rattle.dg_count.proofs.FaultLemmas.{refusal_is, fault_at, no_fault_at}
use Rattle.dg_count.proofs.frame_counting.fault_of.Goals as goal

pub returns-in-Some : goal.returns-in-Some
returns-in-Some c boards w is =
    fault_at w c.args.mote c.args.number c.is_wide.result (frame_of c.in-Some.message.now) c.refusal.result (c.in-Some.ensures.sent boards w is)
    (c.is_wide.ensures boards w is)
    (refusal_is (frame_of c.in-Some.message.now) c.in-Some.message.now c.is_wide.result c.refusal.result c.refusal.ensures.read c.refusal.ensures.refused)

pub returns-in-None : goal.returns-in-None
returns-in-None c boards w is = no_fault_at w c.args.mote c.args.number (c.in-None.ensures.sent boards w is)

use Rattle.dg_mote.proofs.ReceivingLemmas.{tick_goes, frame_goes}
use Rattle.dg_mote.proofs.changes.packets_come_in_frames.Goals as goal

pub returns-clause-ticked : goal.returns-clause-ticked
returns-clause-ticked c = tick_goes

pub returns-clause-heard : goal.returns-clause-heard
returns-clause-heard c = frame_goes

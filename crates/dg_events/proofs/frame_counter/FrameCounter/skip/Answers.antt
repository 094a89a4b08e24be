use Rattle.dg_events.proofs.FrameEvents.{skipped}
use Rattle.dg_events.proofs.frame_counter.FrameCounter.skip.Goals as goal

pub returns : goal.returns
returns c e lines past p h has = skipped c.args.self.now e lines past p h has

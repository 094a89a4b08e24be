use Rattle.dg_events.proofs.FrameLemmas.{nothing_framed, nothing_outside}
use Rattle.dg_events.proofs.frame_counter.FrameCounter.new.Goals as goal

pub returns : goal.returns
returns c kept = (
  nothing_framed c.new.result.items c.none.result c.new.ensures.items c.none.ensures,
  nothing_outside c.none-2.result c.none-2.ensures,
)

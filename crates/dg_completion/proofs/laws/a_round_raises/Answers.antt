use Rattle.dg_completion.proofs.WalkLemmas.{WalkLaws}
use Rattle.dg_completion.proofs.RoundLemmas.{round_raises}
use Rattle.dg_completion.proofs.laws.a_round_raises.Goals as goal

pub returns : goal.returns
returns c =
    let laws : WalkLaws = record { free = c.a_free_event_keeps_a_good_world.ensures; later = c.a_mote_stays_well.ensures.later; said = c.what_is_sent_is_read.ensures.said } in
    let asks = c.a_drained_mote_asks.ensures in
    round_raises laws c.a_mote_drains.ensures c.a_drained_mote_advertises.ensures asks.asks asks.requests c.a_drained_mote_serves.ensures c.a_page_comes.ensures

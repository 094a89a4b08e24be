use Rattle.dg_completion.proofs.WalkLemmas.{WalkLaws}
use Rattle.dg_completion.proofs.RoundLemmas.{ticks_drain}
use Rattle.dg_completion.proofs.laws.a_round_brings_a_mote_to_rest.Goals as goal

pub returns : goal.returns
returns c =
    let laws : WalkLaws = record { free = c.a_free_event_keeps_a_good_world.ensures; later = c.a_mote_stays_well.ensures.later; said = c.what_is_sent_is_read.ensures.said } in
    ticks_drain laws c.a_mote_drains.ensures

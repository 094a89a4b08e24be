use Rattle.dg_mote.proofs.RoundDrain.{spends}
use Rattle.dg_mote.proofs.rounds.ticks_take_few_commits.Goals as goal

pub returns : goal.returns
returns c table x now n is_table w =
    let starts = c.starts_end.ensures in
    spends (record { count = starts.count; counted = starts.counted; order = starts.order; begins = c.trails_begin.ensures.boot }) table (c.a_table_holds_sound_rows.ensures.sound table is_table)
    (λ y at well. c.a_mote_stays_well.ensures.tick_effect table y.mote y.store at 0 is_table well) (λ y at then h well. c.a_mote_stays_well.ensures.later table y.mote y.store at then h well) x now n w

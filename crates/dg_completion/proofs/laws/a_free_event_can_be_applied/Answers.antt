use Rattle.dg_completion.proofs.FreeLemmas.{Laws}
use Rattle.dg_completion.proofs.SpendLemmas.{TakeLaws}
use Rattle.dg_completion.proofs.MetLemmas.{applies_law, spend_law}
use Rattle.dg_completion.proofs.laws.a_free_event_can_be_applied.Goals as goal

pub returns : goal.returns
returns c =
    let starts = c.starts_end.ensures in
    let changes = c.what_a_mote_may_change.ensures in
    let laws : Laws = record {
      agrees = c.agreement_is_kept.ensures.stepped;
      later = c.a_mote_stays_well.ensures.later;
      restarts = record { exactly = c.a_restart_is_for_the_order.ensures.exactly; nothing = c.a_restart_is_for_the_order.ensures.nothing };
      starts = record {
        boots = c.a_start_ends.ensures;
        count = starts.count;
        counted = starts.counted;
        chosen = starts.by_gesture;
        order = starts.order;
        golden_copied = starts.golden_copied;
        golden_stays = starts.golden_stays;
      };
      changes = record { ticked = changes.ticked; advert = changes.advert; request = changes.request; packet = changes.packet };
      sound = c.a_table_holds_sound_rows.ensures.sound;
    } in
    let takes : TakeLaws = record { ends = c.acts_end.ensures.take; begins = c.trails_begin.ensures.take } in
    record { applies = applies_law laws takes; spends = spend_law laws takes }

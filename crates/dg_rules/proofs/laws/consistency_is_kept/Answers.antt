use Rattle.dg_object.specs.Object.{Row}
use Rattle.dg_rules.proofs.ConsistentLemmas.{ConsistentLaws, step_consistent, stops_consistent, declare_consistent, starts_sound}
use Rattle.dg_rules.proofs.laws.consistency_is_kept.Goals as goal

pub returns : goal.returns
returns c =
    let keep = c.trails_keep_consistency.ensures in
    let mote = c.a_mote_keeps_consistency.ensures in
    let laws : (golden : Row) → ConsistentLaws golden = λ golden. record {
      restarts = record { exactly = c.a_restart_is_for_the_order.ensures.exactly; nothing = c.a_restart_is_for_the_order.ensures.nothing };
      orders = keep.order golden;
      injects = keep.inject golden;
      boots = keep.boot golden;
      starts = keep.starts golden;
      ends = c.a_start_ends.ensures;
      ticks = mote.ticked golden;
      hears = mote.heard golden;
    } in
    record {
      stepped = λ golden w v x reports here fits did. step_consistent golden (laws golden) w here x v reports fits did;
      stopped = λ golden w e here fits. stops_consistent golden (laws golden) w here e fits;
      declared = λ golden w v row reports here fits did. declare_consistent golden w v row reports here fits did;
      starts = λ golden w e here fits. starts_sound golden (laws golden) w here e fits;
    }

use Rattle.dg_rules.proofs.ConsistentRuns.{RunLaws, run_kept, run_starts, run_halves}
use Rattle.dg_rules.proofs.laws.any_frames_leave_stores_consistent.Goals as goal

pub returns : goal.returns
returns c =
    let keep = c.consistency_is_kept.ensures in
    let laws : RunLaws = record { fresh = c.trails_keep_consistency.ensures.fresh; stepped = keep.stepped; stopped = keep.stopped; declared = keep.declared; starts = keep.starts } in
    record {
      kept = λ g played v script. run_kept laws g played v script;
      starts = λ g played v script. run_starts laws g played v script;
      halves = λ g played v e script fits. run_halves laws g played v script e fits;
    }

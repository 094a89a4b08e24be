use Rattle.std.proofs.Common.{List, []}
use Rattle.std.specs.Prelude.{Option, IfSome}
use Rattle.std.specs.List.{AllByRecursion}
use Rattle.dg_rules.specs.World.{World}
use Rattle.dg_rules.specs.Runs.{Played, EachAfter}
use Rattle.dg_rules.specs.Promises.{IsLegal, KeepsAll, StartsRow}
use Rattle.dg_rules.specs.Premises.{LeavesAgreement, WorldAgrees}
use Rattle.dg_completion.specs.Played.{RoundsBring}
use Rattle.dg_replay.proofs.GoldenLemmas.{honest_runs, honest_worlds, progress_honest, ended_complete, ended_pipelined, halves_agree}
use Rattle.dg_replay.proofs.ConsistentLemmas.{progress_consistent}
use Rattle.dg_replay.specs.Ending.{script_of}
use Rattle.dg_replay.proofs.laws.replays_keep_the_rules.Goals as goal

pub returns : goal.returns
unfolding EachAfter
returns c = λ table input came.
    let steps = c.every_step_is_legal.ensures in
    let rounds = c.rounds_of_scripts_bring_pages.ensures in
    let any = c.any_frames_leave_stores_consistent.ensures in
    record {
      honest = λ f honest. record {
        legal = honest_runs input came f (record { golden = c.scripts_with_golden.ensures.plays; boards = c.scripts_with_boards.ensures.plays }) (λ (ps : List Played). EachAfter IsLegal [] ps) tt (λ u v played from. steps.legal u v played from) honest;
        keeps = honest_runs input came f (record { golden = c.scripts_with_golden.ensures.plays; boards = c.scripts_with_boards.ensures.plays }) (λ (ps : List Played). AllByRecursion KeepsAll ps) tt (λ u v played from. steps.keeps u v played from) honest;
        starts = honest_runs input came f (record { golden = c.scripts_with_golden.ensures.plays; boards = c.scripts_with_boards.ensures.plays }) (λ (ps : List Played). AllByRecursion StartsRow ps) tt (λ u v played from. steps.starts u v played from) honest;
        agrees = honest_worlds input came f (record { golden = c.scripts_with_golden.ensures.plays; boards = c.scripts_with_boards.ensures.plays }) (λ (ps : List Played) (last : Option World). AllByRecursion LeavesAgreement ps × IfSome last WorldAgrees) (tt, tt) (λ u v played from. steps.agrees u v played from) honest;
        halves = λ w step reported more is next here holds.
            halves_agree (record { golden = c.scripts_with_golden.ensures.halves; boards = c.scripts_with_boards.ensures.halves }) input came f w step reported more honest is next here holds;
        rounds = honest_runs input came f (record { golden = c.scripts_with_golden.ensures.plays; boards = c.scripts_with_boards.ensures.plays }) RoundsBring rounds.nothing (λ u v played from. rounds.brings u played v from) honest;
        pipeline = λ w v t is ends. ended_pipelined input came f (record { golden = c.scripts_with_golden.ensures.plays; boards = c.scripts_with_boards.ensures.plays }) c.scripts_end_complete.ensures.pipeline w v t honest is ends;
        completes = λ w v n k is ends enough most. ended_complete input came f (record { golden = c.scripts_with_golden.ensures.plays; boards = c.scripts_with_boards.ensures.plays }) c.scripts_end_complete.ensures.completes w v n k honest is ends enough most;
      };
      frames = λ none alone f. progress_honest (script_of input) came none alone f;
      consistent = λ alone golden w is only. progress_consistent (record { kept = any.kept; starts = any.starts; halves = any.halves }) input came alone golden w is only;
    }

use Rattle.std.specs.Prelude.{◌≡◌, ◌∷◌, ◌++◌, [], ℕ, false, List, length}
use Rattle.dg_meter.specs.Meters.{metered_device}
use Rattle.dg_volume.specs.Store.{Store}
use Rattle.dg_rules.specs.Runs.{Played}
use Rattle.dg_moments.specs.Moments.{event_moment}
use Rattle.dg_moments.specs.Telling.{StaysTold, IsTold, KnowsAll}
use Rattle.dg_moments.proofs.TellingLemmas.{Stage}
use Rattle.dg_moments.proofs.wholes.Wholes.note_lines.Given as goal

-- what the lines so far tell was noted
abbrev pub invariant-loop-report : goal.invariant-loop-report
invariant-loop-report g l = StaysTold l.initial.self l.self × ((stores : List Store) (past : List Played) (p : Played) → l.motes ≡ length stores → p.reports ≡ l.reports
    → l.now ≡ event_moment (past ++ p ∷ []) → IsTold l.mote (metered_device g.N.Nor.device l.board) stores past p → KnowsAll l.initial.self stores past
    → l.self.lost ≡ false → (image : ℕ) → Stage l.self stores past p image l.report-index)

use Rattle.std.proofs.Common.{map}
use Rattle.dg_rounds.specs.Rounds.{times, sweep}
use Rattle.dg_script.specs.Items.{unreported}
use Rattle.dg_replay.specs.Untouched.{KeepBytes}
use Rattle.dg_replay.proofs.StepLemmas.{PlayedSoFar, told_by}
use Rattle.dg_replay.proofs.rounds.play_sweeps.Given as goal

-- this many sweeps are played
abbrev pub invariant-loop : goal.invariant-loop
invariant-loop g l =
    PlayedSoFar (unreported (times l.counter (sweep l.links))) l.fn.world l.world (map g.N.Nor.device l.fn.boards.items) (map g.N.Nor.device l.boards.items) (told_by l.fn.line_report.text.items (map g.N.Nor.device l.fn.boards.items) (g.W.Watcher.saw l.fn.watcher)) (told_by l.line_report.text.items (map g.N.Nor.device l.boards.items) (g.W.Watcher.saw l.watcher))
    × KeepBytes (unreported (times l.count (sweep l.links))) (map g.N.Nor.device l.fn.boards.items) (map g.N.Nor.device l.boards.items)

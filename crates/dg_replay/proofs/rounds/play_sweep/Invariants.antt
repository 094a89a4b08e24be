use Rattle.std.proofs.Common.{map, take}
use Rattle.dg_rounds.specs.Rounds.{sweep}
use Rattle.dg_script.specs.Items.{unreported}
use Rattle.dg_replay.specs.Untouched.{KeepBytes}
use Rattle.dg_replay.proofs.StepLemmas.{PlayedSoFar, told_by}
use Rattle.dg_replay.proofs.rounds.play_sweep.Given as goal

-- the rounds over this many links are played
abbrev pub invariant-loop-link : goal.invariant-loop-link
invariant-loop-link g l =
    PlayedSoFar (unreported (sweep (take l.link-index l.links))) l.fn.world l.world (map g.N.Nor.device l.fn.boards.items) (map g.N.Nor.device l.boards.items) (told_by l.fn.line_report.text.items (map g.N.Nor.device l.fn.boards.items) (g.W.Watcher.saw l.fn.watcher)) (told_by l.line_report.text.items (map g.N.Nor.device l.boards.items) (g.W.Watcher.saw l.watcher))
    × KeepBytes (unreported (sweep l.links)) (map g.N.Nor.device l.fn.boards.items) (map g.N.Nor.device l.boards.items)

use Rattle.std.proofs.Common.{[], ◌∷◌, map}
use Rattle.dg_object.specs.Sizes.{packets}
use Rattle.dg_rounds.specs.Rounds.{times, paced, passed}
use Rattle.dg_script.specs.Items.{unreported}
use Rattle.dg_replay.specs.Untouched.{KeepBytes}
use Rattle.dg_replay.proofs.StepLemmas.{PlayedSoFar, told_by}
use Rattle.dg_replay.proofs.rounds.play_packets.Given as goal

-- this many packets are played
abbrev pub invariant-loop : goal.invariant-loop
invariant-loop g l =
    PlayedSoFar (unreported (times l.counter (paced l.a ∷ passed l.a l.b ∷ []))) l.fn.world l.world (map g.N.Nor.device l.fn.boards.items) (map g.N.Nor.device l.boards.items) (told_by l.fn.line_report.text.items (map g.N.Nor.device l.fn.boards.items) (g.W.Watcher.saw l.fn.watcher)) (told_by l.line_report.text.items (map g.N.Nor.device l.boards.items) (g.W.Watcher.saw l.watcher))
    × KeepBytes (unreported (times packets (paced l.a ∷ passed l.a l.b ∷ []))) (map g.N.Nor.device l.fn.boards.items) (map g.N.Nor.device l.boards.items)

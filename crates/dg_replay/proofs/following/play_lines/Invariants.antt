use Rattle.std.proofs.Common.{◌≡◌, ◌-◌, map}
use Rattle.dg_script.specs.Sizes.{most_used_bytes}
use Rattle.dg_replay.proofs.LinesReadLemmas.{LinesRead}
use Rattle.dg_replay.proofs.following.play_lines.Given as goal

-- some whole lines were read, played and reported
abbrev pub invariant-loop-line_report : goal.invariant-loop-line_report
invariant-loop-line_report g l =
    LinesRead (g.S.Source.left l.fn.input) (g.S.Source.left l.input) l.reader l.number l.player (map g.N.Nor.device l.fn.boards.items) (map g.N.Nor.device l.boards.items) (g.K.Sink.written l.fn.out) (g.K.Sink.written l.out) (g.W.Watcher.saw l.fn.watcher (map g.N.Nor.device l.fn.boards.items) (map g.N.Nor.device l.fn.boards.items)) (g.W.Watcher.saw l.watcher (map g.N.Nor.device l.fn.boards.items) (map g.N.Nor.device l.boards.items))
    × (g.S.Source.faults l.input ≡ g.S.Source.faults l.fn.input)
    × (g.K.Sink.faults l.out ≡ g.K.Sink.faults l.fn.out)

-- each line takes some of the bytes that are used
abbrev pub decreases-loop-line_report : goal.decreases-loop-line_report
decreases-loop-line_report g l = most_used_bytes - l.reader.passed

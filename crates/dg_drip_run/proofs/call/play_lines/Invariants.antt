use Rattle.std.proofs.Common.{◌≡◌, ◌-◌}
use Rattle.dg_script.specs.Sizes.{most_used_bytes}
use Rattle.dg_outside.specs.Outside.{input_of, output_of}
use Rattle.dg_drip_run.specs.inner.Lines.{LinesPlayed, drip_stage}
use Rattle.dg_drip_run.proofs.call.play_lines.Given as goal

-- some lines that end in LF were read, played and reported
abbrev pub invariant-loop-number : goal.invariant-loop-number
invariant-loop-number g l =
    LinesPlayed ⊥ (drip_stage l.fn.reader l.fn.player (input_of (g.S.Source, l.fn.input)) (output_of (g.K.Sink, l.fn.out))) l.number
    (drip_stage l.reader l.player (input_of (g.S.Source, l.input)) (output_of (g.K.Sink, l.out)))
    × (g.S.Source.faults l.input ≡ g.S.Source.faults l.fn.input)
    × (g.K.Sink.faults l.out ≡ g.K.Sink.faults l.fn.out)

-- each line takes some of the bytes that are used
abbrev pub decreases-loop-number : goal.decreases-loop-number
decreases-loop-number g l = most_used_bytes - l.reader.passed

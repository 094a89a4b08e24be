use Rattle.std.proofs.Common.{◌≡◌, ◌+◌, ◌-◌, ◌*◌, ◌≤◌, ◌<◌, [], length}
use Rattle.dg_base.specs.Sizes.{most_input}
use Rattle.dg_serial_base.specs.inner.Standing.{Calm, Outset, code_on_line, IsStood, StreamPlayed, Consumed}
use Rattle.dg_serial_base.proofs.playing.Player.play_input.Given as goal

abbrev pub invariant-loop-used : goal.invariant-loop-used
invariant-loop-used g l =
    IsStood l.self.running (g.N.Nor.device l.nor).image × Calm (g.N.Nor.device l.initial.nor) (g.N.Nor.device l.nor) × (g.K.Sink.faults l.out ≡ g.K.Sink.faults l.initial.out)
    × (g.S.Source.faults l.input ≡ g.S.Source.faults l.initial.input) × (l.self.running.timeline.moment ≤ 60000 + 120000 * l.used) × (l.self.running.timeline.step ≤ 60000) × (l.used ≤ most_input) × (0 < length l.piece)
    × ((a : Outset) → StreamPlayed a [] (code_on_line (g.K.Sink.written l.initial.out) l.initial.self.running l.initial.self.line (g.N.Nor.device l.initial.nor))
    → Consumed a l.used (g.S.Source.left l.initial.input) (g.S.Source.left l.input) (code_on_line (g.K.Sink.written l.out) l.self.running l.self.line (g.N.Nor.device l.nor)))

abbrev pub decreases-loop-used : goal.decreases-loop-used
decreases-loop-used g l = most_input - l.used

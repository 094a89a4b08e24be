use Rattle.std.proofs.Common.{◌≡◌, ℕ, ◌+◌, ◌*◌, ◌≤◌, List, ◌++◌, take}
use Rattle.dg_serial_base.specs.inner.Standing.{Calm, Outset, code_on_line, IsStood, StreamPlayed}
use Rattle.dg_serial_base.proofs.playing.Player.play_bytes.Given as goal

abbrev pub invariant-loop-byte : goal.invariant-loop-byte
invariant-loop-byte g l =
    IsStood l.self.running (g.N.Nor.device l.nor).image × Calm (g.N.Nor.device l.initial.nor) (g.N.Nor.device l.nor) × (g.K.Sink.faults l.out ≡ g.K.Sink.faults l.initial.out)
    × (l.self.running.timeline.moment ≤ l.initial.self.running.timeline.moment + 120000 * l.byte-index) × (l.self.running.timeline.step ≡ l.initial.self.running.timeline.step)
    × ((a : Outset) (stream : List ℕ) → StreamPlayed a stream (code_on_line (g.K.Sink.written l.initial.out) l.initial.self.running l.initial.self.line (g.N.Nor.device l.initial.nor))
    → StreamPlayed a (stream ++ take l.byte-index l.bytes) (code_on_line (g.K.Sink.written l.out) l.self.running l.self.line (g.N.Nor.device l.nor)))

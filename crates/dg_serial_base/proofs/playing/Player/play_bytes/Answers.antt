use Rattle.std.proofs.Common.{ℕ, ◌≤◌, List, ◌++◌, length, take, refl, ap, sym, ◌∙◌, append-nil, arith}
use Rattle.std.proofs.lemmas.List.{take_all}
use Rattle.dg_serial_base.specs.inner.Standing.{code_on_line, StreamEnds, Counts, ReadCounts}
use Rattle.dg_serial_base.proofs.StartLemmas.{calm_same, calm_then}
use Rattle.dg_serial_base.proofs.ResultLemmas.{handed, counts_by_after}
use Rattle.dg_serial_base.proofs.PlayLemmas.{played_along, next_byte, halted_bytes}
use Rattle.dg_serial_base.proofs.playing.Player.play_bytes.Goals as goal

pub loop-byte-init : goal.loop-byte-init
loop-byte-init g c = (c.requires.stood, calm_same _, refl, omega arith, refl, λ a stream p. played_along a stream _ _ (sym (append-nil stream)) p)

pub play_byte-requires-clause-stood : goal.play_byte-requires-clause-stood
play_byte-requires-clause-stood g c = c.loop-byte.invariant.0

pub returns-in_err-play_byte-clause-ends : goal.returns-in_err-play_byte-clause-ends
returns-in_err-play_byte-clause-ends g c = λ a stream p.
    let i = c.loop-byte.byte-index in
    handed (λ r. StreamEnds r a (stream ++ c.args.bytes.now) (code_on_line (g.K.Sink.written c.play_byte.new.out) c.play_byte.new.self.running c.play_byte.new.self.line (g.N.Nor.device c.play_byte.new.nor)))
    c.from_residual.result c.in_err-play_byte.field-0.0 c.from_residual.ensures.1
    (halted_bytes c.streams_go_on.ensures c.in_err-play_byte.field-0.0 a stream c.args.bytes.now i (g.K.Sink.written c.play_byte.new.out) (g.N.Nor.device c.play_byte.new.nor) c.loop-byte-test.true
    (c.in_err-play_byte.ensures.ends a (stream ++ take i c.args.bytes.now) (c.loop-byte.invariant.5 a stream p)))

pub returns-in_err-play_byte-clause-counts : goal.returns-in_err-play_byte-clause-counts
returns-in_err-play_byte-clause-counts g c =
    let a = g.N.Nor.device c.args.nor.now in
    let z = g.N.Nor.device c.play_byte.new.nor in
    handed (λ r. Counts r a z) c.from_residual.result c.in_err-play_byte.field-0.0 c.from_residual.ensures.1 (counts_by_after c.in_err-play_byte.field-0.0 a (g.N.Nor.device c.loop-byte.nor) z c.loop-byte.invariant.1 c.in_err-play_byte.ensures.counts)

pub returns-in_err-play_byte-clause-reads : goal.returns-in_err-play_byte-clause-reads
returns-in_err-play_byte-clause-reads g c = λ n. handed (λ r. ReadCounts r n n) c.from_residual.result c.in_err-play_byte.field-0.0 c.from_residual.ensures.1 (c.in_err-play_byte.ensures.reads n)

pub loop-byte-preserved : goal.loop-byte-preserved
loop-byte-preserved g c =
    let i = c.loop-byte.byte-index in
    let inv = c.loop-byte.invariant in
    let x = c.in_ok-play_byte.ensures in (
      x.stood,
      calm_then _ _ _ inv.1 x.counts,
      x.writes ∙ inv.2,
      omega (arith, x.moment, inv.3),
      x.step ∙ inv.4,
      λ a stream p.
          played_along a _ _ (code_on_line (g.K.Sink.written c.play_byte.new.out) c.play_byte.new.self.running c.play_byte.new.self.line (g.N.Nor.device c.play_byte.new.nor)) (next_byte stream c.args.bytes.now i c.loop-byte-test.true)
          (x.ends a (stream ++ take i c.args.bytes.now) (inv.5 a stream p)),
    )

pub returns-clause-ends : goal.returns-clause-ends
returns-clause-ends g c = λ a stream p.
    let i = c.loop-byte.byte-index in
    let le : length c.args.bytes.now ≤ i = omega (arith, c.loop-byte-test.false) in
    played_along a (stream ++ take i c.args.bytes.now) (stream ++ c.args.bytes.now)
    (code_on_line (g.K.Sink.written c.loop-byte.out) c.loop-byte.self.running c.loop-byte.self.line (g.N.Nor.device c.loop-byte.nor))
    (ap (λ (xs : List ℕ). stream ++ xs) (take_all i c.args.bytes.now le)) (c.loop-byte.invariant.5 a stream p)

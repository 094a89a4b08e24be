use Rattle.std.proofs.Common.{◌≡◌, ◌≤◌, ℕ, refl, sym, ◌∙◌, subst, arith}
use Rattle.dg_base.specs.Sizes.{most_input}
use Rattle.dg_serial_base.specs.inner.Standing.{code_on_line, Counts, WriteCounts, ReadCounts, WritesBy, ReadsBy, Consumed, InputEnds}
use Rattle.dg_serial_base.proofs.StartLemmas.{calm_same, calm_then}
use Rattle.dg_serial_base.proofs.ResultLemmas.{handed, counts_by_after}
use Rattle.dg_serial_base.proofs.InputLemmas.{consumed_none, consumed_more, input_ends, input_fails, last_ends, last_counts, last_writes}
use Rattle.dg_serial_base.proofs.playing.Player.play_input.Goals as goal

pub loop-used-init : goal.loop-used-init
loop-used-init g c = (c.requires.stood, calm_same _, refl, refl, omega (arith, c.requires.early), c.requires.little, omega arith, c.requires.some, λ a p. consumed_none a (g.S.Source.left c.args.input.now) (code_on_line (g.K.Sink.written c.args.out.now) c.args.self.now.running c.args.self.now.line (g.N.Nor.device c.args.nor.now)) p)

pub play_piece-requires-clause-some : goal.play_piece-requires-clause-some
play_piece-requires-clause-some g c = c.loop-used.invariant.7

pub play_piece-requires-clause-stood : goal.play_piece-requires-clause-stood
play_piece-requires-clause-stood g c = c.loop-used.invariant.0

pub play_piece-requires-clause-early : goal.play_piece-requires-clause-early
play_piece-requires-clause-early g c = let inv = c.loop-used.invariant in omega (arith, inv.4, inv.6)

pub play_piece-requires-clause-little : goal.play_piece-requires-clause-little
play_piece-requires-clause-little g c = c.loop-used.invariant.5

pub returns-in_err-count-clause-ends : goal.returns-in_err-count-clause-ends
returns-in_err-count-clause-ends g c = λ a p.
    let inv = c.loop-used.invariant in
    let f = c.in_err-count.field-0.0 in
    let x = inv.8 a p in
    handed (λ r. InputEnds r a (g.S.Source.left c.args.input.now) (g.S.Source.left c.play_piece.new.input) (code_on_line (g.K.Sink.written c.play_piece.new.out) c.play_piece.new.self.running c.play_piece.new.self.line (g.N.Nor.device c.play_piece.new.nor)))
    c.from_residual.result f c.from_residual.ensures.1
    (input_fails a c.loop-used.used (g.S.Source.left c.args.input.now) (g.S.Source.left c.loop-used.input) (g.S.Source.left c.play_piece.new.input)
    (code_on_line (g.K.Sink.written c.loop-used.out) c.loop-used.self.running c.loop-used.self.line (g.N.Nor.device c.loop-used.nor))
    (code_on_line (g.K.Sink.written c.play_piece.new.out) c.play_piece.new.self.running c.play_piece.new.self.line (g.N.Nor.device c.play_piece.new.nor)) x f inv.6 (c.in_err-count.ensures.ends a x.stream x.played))

pub returns-in_err-count-clause-counts : goal.returns-in_err-count-clause-counts
returns-in_err-count-clause-counts g c =
    let a = g.N.Nor.device c.args.nor.now in
    let z = g.N.Nor.device c.play_piece.new.nor in
    handed (λ r. Counts r a z) c.from_residual.result c.in_err-count.field-0.0 c.from_residual.ensures.1 (counts_by_after c.in_err-count.field-0.0 a (g.N.Nor.device c.loop-used.nor) z c.loop-used.invariant.1 c.in_err-count.ensures.counts)

pub returns-in_err-count-clause-writes : goal.returns-in_err-count-clause-writes
returns-in_err-count-clause-writes g c =
    let z = g.K.Sink.faults c.play_piece.new.out in
    let f = c.in_err-count.field-0.0 in
    handed (λ r. WriteCounts r (g.K.Sink.faults c.args.out.now) z) c.from_residual.result f c.from_residual.ensures.1 (subst (λ (n : ℕ). WritesBy f n z) c.loop-used.invariant.2 c.in_err-count.ensures.writes)

pub returns-in_err-count-clause-reads : goal.returns-in_err-count-clause-reads
returns-in_err-count-clause-reads g c =
    let z = g.S.Source.faults c.play_piece.new.input in
    let f = c.in_err-count.field-0.0 in
    handed (λ r. ReadCounts r (g.S.Source.faults c.args.input.now) z) c.from_residual.result f c.from_residual.ensures.1 (subst (λ (n : ℕ). ReadsBy f n z) c.loop-used.invariant.3 c.in_err-count.ensures.reads)

pub returns-then-count-eq0-clause-ends : goal.returns-then-count-eq0-clause-ends
returns-then-count-eq0-clause-ends g c = λ a p.
    let inv = c.loop-used.invariant in
    let x = inv.8 a p in
    input_ends a c.loop-used.used (g.S.Source.left c.args.input.now) (g.S.Source.left c.loop-used.input) (g.S.Source.left c.play_piece.new.input)
    (code_on_line (g.K.Sink.written c.loop-used.out) c.loop-used.self.running c.loop-used.self.line (g.N.Nor.device c.loop-used.nor))
    (code_on_line (g.K.Sink.written c.play_piece.new.out) c.play_piece.new.self.running c.play_piece.new.self.line (g.N.Nor.device c.play_piece.new.nor)) x c.in_ok-count.count c.if-count-eq0.true inv.6
    (c.in_ok-count.ensures.ends a x.stream x.played)

pub returns-then-count-eq0-clause-counts : goal.returns-then-count-eq0-clause-counts
returns-then-count-eq0-clause-counts g c = calm_then _ _ _ c.loop-used.invariant.1 c.in_ok-count.ensures.counts

pub loop-used-preserved : goal.loop-used-preserved
loop-used-preserved g c =
    let inv = c.loop-used.invariant in
    let x = c.in_ok-count.ensures in (
      x.stood,
      calm_then _ _ _ inv.1 x.counts,
      x.writes ∙ inv.2,
      x.reads ∙ inv.3,
      omega (arith, x.moment, inv.4),
      subst (λ (n : ℕ). n ≤ 60000) (sym x.step) inv.5,
      omega (arith, x.few, inv.6),
      omega (arith, c.play_piece.auto.piece, inv.7),
      λ a p.
          let y = inv.8 a p in
          consumed_more a c.loop-used.used (g.S.Source.left c.args.input.now) (g.S.Source.left c.loop-used.input) (g.S.Source.left c.play_piece.new.input)
          (code_on_line (g.K.Sink.written c.loop-used.out) c.loop-used.self.running c.loop-used.self.line (g.N.Nor.device c.loop-used.nor))
          (code_on_line (g.K.Sink.written c.play_piece.new.out) c.play_piece.new.self.running c.play_piece.new.self.line (g.N.Nor.device c.play_piece.new.nor)) y _ c.in_ok-count.count
          (x.ends a y.stream y.played),
    )

pub returns-clause-ends : goal.returns-clause-ends
returns-clause-ends g c = λ a p.
    let inv = c.loop-used.invariant in
    let all : c.loop-used.used ≡ most_input = omega (arith, inv.6, c.loop-used-test.false) in
    let l0 = g.S.Source.left c.args.input.now in
    let l1 = g.S.Source.left c.loop-used.input in
    let now = code_on_line (g.K.Sink.written c.loop-used.out) c.loop-used.self.running c.loop-used.self.line (g.N.Nor.device c.loop-used.nor) in
    last_ends a l0 l1 (g.S.Source.left c.expect_end.new.input) now (subst (λ (n : ℕ). Consumed a n l0 l1 now) all (inv.8 a p)) c.expect_end.result c.expect_end.ensures.ends

pub returns-clause-counts : goal.returns-clause-counts
returns-clause-counts g c = last_counts c.expect_end.result (g.S.Source.left c.loop-used.input) (g.S.Source.left c.expect_end.new.input) _ _ c.expect_end.ensures.ends c.loop-used.invariant.1

pub returns-clause-writes : goal.returns-clause-writes
returns-clause-writes g c = last_writes c.expect_end.result (g.S.Source.left c.loop-used.input) (g.S.Source.left c.expect_end.new.input) _ _ c.expect_end.ensures.ends c.loop-used.invariant.2

pub returns-clause-reads : goal.returns-clause-reads
returns-clause-reads g c =
    let z = g.S.Source.faults c.expect_end.new.input in
    subst (λ (n : ℕ). ReadCounts c.expect_end.result n z) c.loop-used.invariant.3 c.expect_end.ensures.counts

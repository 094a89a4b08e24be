use Rattle.std.proofs.Common.{ℕ, List, length, take, refl, ap, sym, ◌∙◌, subst, Ok, arith}
use Rattle.dg_serial_base.specs.inner.Standing.{code_on_line, CountsBy, WritesBy, ReadsBy}
use Rattle.dg_end.specs.declared.ends.End.{End}
use Rattle.dg_serial_base.proofs.StartLemmas.{calm_same}
use Rattle.dg_serial_base.proofs.InputLemmas.{piece_read, piece_halts, piece_unread, take_fits}
use Rattle.dg_serial_base.proofs.playing.Player.play_piece.Goals as goal

pub slice_bounds-play_bytes-end : goal.slice_bounds-play_bytes-end
slice_bounds-play_bytes-end g c = let t = c.in-Ok.ensures.taken in take_fits c.in-Ok.count c.read_piece.new.piece t.0 t.3.0 t.3.1

pub slice_bounds-play_bytes-end-in-Ok : goal.slice_bounds-play_bytes-end-in-Ok
slice_bounds-play_bytes-end-in-Ok g c = let t = c.in-Ok.ensures.taken in t.3.0 ∙ sym (ap (λ (xs : List ℕ). length xs) t.3.1)

pub play_bytes-requires-clause-early : goal.play_bytes-requires-clause-early
play_bytes-requires-clause-early g c =
    let t = c.in-Ok.ensures.taken in
    let e = ap (λ (xs : List ℕ). length xs) t.3.1 in
    omega (arith, c.requires.early, e, t.2)

pub returns-in-Ok-play_bytes-clause-ends : goal.returns-in-Ok-play_bytes-clause-ends
returns-in-Ok-play_bytes-clause-ends g c = λ a stream p.
    let t = c.in-Ok.ensures.taken in
    piece_read a stream (take c.in-Ok.count c.read_piece.new.piece) t.0 c.args.most c.in-Ok.count (g.S.Source.left c.args.input.now) (g.S.Source.left c.read_piece.new.input)
    (code_on_line (g.K.Sink.written c.play_bytes.new.out) c.play_bytes.new.self.running c.play_bytes.new.self.line (g.N.Nor.device c.play_bytes.new.nor)) t.3.1 t.1 t.2 t.3.0 (λ z. c.in-Ok.ensures.ended (ap (λ (n : ℕ). Ok n) z)) (c.in-Ok-play_bytes.ensures.ends a stream p)

pub returns-in-Ok-play_bytes-clause-few : goal.returns-in-Ok-play_bytes-clause-few
returns-in-Ok-play_bytes-clause-few g c = let t = c.in-Ok.ensures.taken in omega (arith, t.3.0, t.2)

pub returns-in-Ok-play_bytes-clause-moment : goal.returns-in-Ok-play_bytes-clause-moment
returns-in-Ok-play_bytes-clause-moment g c =
    let t = c.in-Ok.ensures.taken in
    let e = ap (λ (xs : List ℕ). length xs) t.3.1 in
    omega (arith, c.in-Ok-play_bytes.ensures.moment, e, t.3.0)

pub returns-in-Err-play_bytes-clause-ends : goal.returns-in-Err-play_bytes-clause-ends
returns-in-Err-play_bytes-clause-ends g c = λ a stream p.
    let t = c.in-Ok.ensures.taken in
    piece_halts c.in-Err-play_bytes.end a stream (take c.in-Ok.count c.read_piece.new.piece) t.0 c.args.most (g.S.Source.left c.args.input.now) (g.S.Source.left c.read_piece.new.input)
    (code_on_line (g.K.Sink.written c.play_bytes.new.out) c.play_bytes.new.self.running c.play_bytes.new.self.line (g.N.Nor.device c.play_bytes.new.nor)) t.3.1 t.1 t.2 (c.in-Err-play_bytes.ensures.ends a stream p)

pub returns-in-Err-play_bytes-clause-reads : goal.returns-in-Err-play_bytes-clause-reads
returns-in-Err-play_bytes-clause-reads g c =
    let f = g.S.Source.faults c.args.input.now in
    subst (λ (n : ℕ). ReadsBy c.in-Err-play_bytes.end f n) (sym c.in-Ok.ensures.counts) (c.in-Err-play_bytes.ensures.reads f)

pub returns-in-Err-clause-ends : goal.returns-in-Err-clause-ends
returns-in-Err-clause-ends g c = λ a stream p.
    let t = c.in-Err.ensures.taken in
    piece_unread c.in-Err.end a stream t.0 c.args.most (g.S.Source.left c.args.input.now) (g.S.Source.left c.read_piece.new.input)
    (code_on_line (g.K.Sink.written c.args.out.now) c.args.self.now.running c.args.self.now.line (g.N.Nor.device c.args.nor.now)) c.in-Err.ensures.why t.4 t.1 p

pub returns-in-Err-clause-counts : goal.returns-in-Err-clause-counts
returns-in-Err-clause-counts g c = let a = g.N.Nor.device c.args.nor.now in subst (λ (x : End). CountsBy x a a) (sym c.in-Err.ensures.why) (calm_same a)

pub returns-in-Err-clause-writes : goal.returns-in-Err-clause-writes
returns-in-Err-clause-writes g c = let n = g.K.Sink.faults c.args.out.now in subst (λ (x : End). WritesBy x n n) (sym c.in-Err.ensures.why) refl

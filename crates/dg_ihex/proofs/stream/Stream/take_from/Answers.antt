use Rattle.std.proofs.Common.{arith, refl, subst, take, drop, ◌-◌, ◌++◌}
use Rattle.std.proofs.lemmas.Result.{err_from_is_err_and}
use Rattle.dg_ihex.specs.Sizes.{most_text}
use Rattle.dg_ihex.specs.Streams.{Going, TellsFault}
use Rattle.dg_ihex.proofs.StreamLemmas.{going_more, last_bare, front_bare, line_piece, piece_more, fault_piece, room_before}
use Rattle.dg_ihex.proofs.stream.Stream.take_from.Goals as goal

pub returns-then-end-next-clause-goes : goal.returns-then-end-next-clause-goes
returns-then-end-next-clause-goes c input g few =
    let piece = c.args.piece.now in
    let from = c.args.from in
    let l = c.next_line-end in
    let n = l.result.1 in
    subst (Going _) (piece_more input piece from n (omega (arith, l.ensures.start, l.ensures.end)))
    (going_more c.args.self.now _ (input ++ take from piece) (take (n - from) (drop from piece)) g
    (last_bare piece from l.result.0 n (omega (arith, c.if-end-next.true)) l.ensures.text) refl c.in_ok-extend_from_slice.ensures.items)

pub returns-in_err-end_line-clause-goes : goal.returns-in_err-end_line-clause-goes
returns-in_err-end_line-clause-goes c input g few =
    let piece = c.args.piece.now in
    let from = c.args.from in
    let l = c.next_line-end in
    let n = l.result.1 in
    let goes = l.ensures.goes_on c.requires in
    let ended = l.ensures.ended (omega (arith, l.ensures.end, c.if-end-next.false)) in
    let bare = front_bare piece from l.result.0 n goes l.ensures.within ended l.ensures.text in
    let p = err_from_is_err_and c.from_residual-in_err-end_line.result c.from_residual-in_err-end_line.ensures.1 in
    let fault = c.in_err-end_line.field-0.0 in
    rw (p.1, p.2) (fault_piece fault input piece n
    (subst (TellsFault fault) (line_piece input piece from l.result.0 n goes l.ensures.within ended l.ensures.text)
    (c.in_err-end_line.ensures (input ++ take from piece) g (room_before input piece from most_text c.requires few) bare)))

pub returns-clause-goes : goal.returns-clause-goes
returns-clause-goes c input g few =
    let piece = c.args.piece.now in
    let from = c.args.from in
    let l = c.next_line-end in
    let n = l.result.1 in
    let goes = l.ensures.goes_on c.requires in
    let ended = l.ensures.ended (omega (arith, l.ensures.end, c.if-end-next.false)) in
    let bare = front_bare piece from l.result.0 n goes l.ensures.within ended l.ensures.text in
    subst (Going c.end_line.new.self) (line_piece input piece from l.result.0 n goes l.ensures.within ended l.ensures.text)
    (c.in_ok-end_line.ensures (input ++ take from piece) g (room_before input piece from most_text c.requires few) bare)

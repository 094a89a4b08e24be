use Rattle.std.proofs.Common.{ℕ, List, ap, sym, ◌∙◌, subst, Ok}
use Rattle.dg_base.specs.Outside.{Takes}
use Rattle.dg_serial_base.specs.inner.Standing.{LastEnds, ReadCounts}
use Rattle.dg_serial_base.proofs.ResultLemmas.{handed}
use Rattle.dg_serial_base.proofs.InputLemmas.{none_of_length, one_of, last_unread}
use Rattle.dg_serial_base.proofs.reading.expect_end.Goals as goal

pub returns-in_err-read_piece-clause-ends : goal.returns-in_err-read_piece-clause-ends
returns-in_err-read_piece-clause-ends g c =
    let old = g.S.Source.left c.args.input.now in
    let new = g.S.Source.left c.read_piece.new.input in
    let f = c.in_err-read_piece.field-0.0 in
    let t = c.in_err-read_piece.ensures.taken in
    handed (λ r. LastEnds r old new) c.from_residual.result f c.from_residual.ensures.1 (last_unread f t.0 old new c.in_err-read_piece.ensures.why t.4 t.1)

pub returns-in_err-read_piece-clause-counts : goal.returns-in_err-read_piece-clause-counts
returns-in_err-read_piece-clause-counts g c =
    handed (λ r. ReadCounts r (g.S.Source.faults c.args.input.now) (g.S.Source.faults c.read_piece.new.input)) c.from_residual.result c.in_err-read_piece.field-0.0 c.from_residual.ensures.1 c.in_err-read_piece.ensures.counts

pub returns-then-branch-eq0-clause-ends : goal.returns-then-branch-eq0-clause-ends
returns-then-branch-eq0-clause-ends g c =
    let old = g.S.Source.left c.args.input.now in
    let new = g.S.Source.left c.read_piece.new.input in
    let t = c.in_ok-read_piece.ensures.taken in
    (subst (λ (x : List ℕ). Takes old new x) (none_of_length t.0 (sym t.3.0 ∙ c.if-branch-eq0.true)) t.1, c.in_ok-read_piece.ensures.ended (ap (λ (n : ℕ). Ok n) c.if-branch-eq0.true))

pub returns-clause-ends : goal.returns-clause-ends
returns-clause-ends g c =
    let old = g.S.Source.left c.args.input.now in
    let new = g.S.Source.left c.read_piece.new.input in
    let t = c.in_ok-read_piece.ensures.taken in
    let o = one_of t.0 t.2 (λ z. c.if-branch-eq0.false (t.3.0 ∙ z)) in
    (o.0, subst (λ (x : List ℕ). Takes old new x) o.1 t.1)

use Rattle.std.proofs.Common.{◌<◌, length, codes, sym, refl, ◌∙◌, arith}
use Rattle.std.proofs.lemmas.Bool.{eqb-true, eqb-false}
use Rattle.dg_outside.specs.Outside.{output_of, with_input, with_output}
use Rattle.dg_end.specs.Texts.{line}
use Rattle.dg_cli.proofs.BaseLemmas.{over_none, over_first, based_on_over, no_link_of_base, no_link_told}
use Rattle.dg_cli.proofs.VerbLemmas.{nowhere}
use Rattle.dg_cli.proofs.base.base_first.Goals as goal

pub returns-then-is_empty-clause-done : goal.returns-then-is_empty-clause-done
returns-then-is_empty-clause-done g c = λ rest.
    over_none g.N.Nor.device c.args.boards.now _ _ _ _ (eqb-true _ _ (sym c.is_empty.ensures ∙ c.if-is_empty.true)) (record {
      unread = refl;
      boards = refl;
      written = c.tell_no_board.ensures.written;
      room = c.tell_no_board.ensures.room;
    })

pub returns-then-is_empty-clause-link : goal.returns-then-is_empty-clause-link
returns-then-is_empty-clause-link g c =
    no_link_told c.tell_no_board.result (line (codes "noboard 1 0")) (output_of (g.K.Sink, c.args.out.now)) (output_of (g.K.Sink, c.tell_no_board.new.out)) c.tell_no_board.ensures.written

pub returns-clause-done : goal.returns-clause-done
returns-clause-done g c = λ rest.
    let some : 0 < length c.args.boards.now = omega (arith, eqb-false _ _ (sym c.is_empty.ensures ∙ c.if-is_empty.false)) in
    over_first g.N.Nor.device c.args.boards.now _ _ _ _ _ _ some
    (based_on_over _ _ _ _ (with_output (g.K.Sink, c.args.out.now) (with_input (g.S.Source, c.args.input.now) rest))
    (with_output (g.K.Sink, c.base.new.out) (with_input (g.S.Source, c.base.new.input) rest)) rest.boards rest.boards _ _ (c.base.ensures.does rest))

pub returns-clause-link : goal.returns-clause-link
returns-clause-link g c = no_link_of_base c.base.result _ _ _ _ _ (c.base.ensures.does nowhere)

pub returns-clause-reads : goal.returns-clause-reads
returns-clause-reads g c = (c.base.ensures.does nowhere).causes.reads

pub returns-clause-writes : goal.returns-clause-writes
returns-clause-writes g c = (c.base.ensures.does nowhere).causes.writes

use Rattle.std.proofs.Common.{refl, arith}
use Rattle.dg_object.specs.Object.{row_of}
use Rattle.dg_outside.specs.Outside.{input_of}
use Rattle.dg_end.specs.Lines.{text_outcome}
use Rattle.dg_tool.specs.Done.{FedBoards}
use Rattle.dg_tool.specs.Rules.{inject_rule}
use Rattle.dg_tool.proofs.BoardLemmas.{lent_back}
use Rattle.dg_tool.proofs.ToolLemmas.{input_done}
use Rattle.dg_tool.proofs.AgreementLemmas.{inject_agrees}
use Rattle.dg_tool.proofs.inject.Goals as goal

pub returns : goal.returns
returns g c =
    let outcome = text_outcome (λ text. text.items) c.inject_first-outcome.result in
    let lent = c.as_mut_slice.ensures in
    record {
      does = λ rest.
          inject_agrees c.trails_keep_agreement.ensures.inject c.a_chip_stands_for_a_shaped_store.ensures c.args.image c.args.version c.args.name.now _ _ _ c.requires.image
          (input_done _ outcome _ _ c.answer.ensures.ends c.answer.ensures.counts refl refl _
          (lent_back g.N.Nor.device (λ old new. FedBoards outcome (inject_rule old (row_of c.args.image c.args.version c.args.name.now)) (input_of (g.S.Source, c.args.input.now)) (input_of (g.S.Source, c.inject_first-outcome.new.input)) old new) c.args.boards.now.len
          _ c.args.boards.now.items c.inject_first-outcome.new.boards _ lent.value (omega (arith, c.inject_first-outcome.auto.boards, lent.len)) c.inject_first-outcome.ensures.done)
          c.inject_first-outcome.ensures.counts);
    }

use Rattle.std.proofs.Common.{refl, arith, map}
use Rattle.dg_end.specs.Lines.{text_outcome}
use Rattle.dg_tool.specs.Endings.{FirstInForm}
use Rattle.dg_tool.specs.Done.{OnBoards}
use Rattle.dg_tool.specs.Rules.{migrate_rule}
use Rattle.dg_tool.proofs.BoardLemmas.{lent_back}
use Rattle.dg_tool.proofs.ToolLemmas.{numbered_done}
use Rattle.dg_tool.proofs.AgreementLemmas.{migrate_agrees}
use Rattle.dg_tool.proofs.migrate.Goals as goal

pub returns : goal.returns
returns g c =
    let outcome = text_outcome (λ text. text.items) c.migrate_first-outcome.result in
    let lent = c.as_mut_slice.ensures in
    let old = map g.N.Nor.device c.args.boards.now.items in
    record {
      does = λ rest.
          migrate_agrees c.trails_keep_agreement.ensures.migrate c.a_chip_stands_for_a_shaped_store.ensures c.a_volume_has_one_form.ensures.known _ _ _
          (numbered_done _ outcome _ _ c.answer.ensures.ends c.answer.ensures.counts refl refl (λ form. FirstInForm form old) (λ form. migrate_rule old form)
          (λ form. lent_back g.N.Nor.device (λ old new. FirstInForm form old → OnBoards outcome (migrate_rule old form) ⊥ old new) c.args.boards.now.len
          _ c.args.boards.now.items c.migrate_first-outcome.new.boards _ lent.value (omega (arith, c.migrate_first-outcome.auto.boards, lent.len)) (c.migrate_first-outcome.ensures form))
          refl);
    }

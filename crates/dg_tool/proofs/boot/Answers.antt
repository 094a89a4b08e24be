use Rattle.std.proofs.Common.{refl, arith}
use Rattle.dg_end.specs.Lines.{text_outcome}
use Rattle.dg_tool.specs.Done.{OnBoards}
use Rattle.dg_tool.specs.Rules.{boot_rule}
use Rattle.dg_tool.proofs.BoardLemmas.{lent_back}
use Rattle.dg_tool.proofs.ToolLemmas.{first_done}
use Rattle.dg_tool.proofs.AgreementLemmas.{boot_agrees}
use Rattle.dg_volume.specs.declared.volume.StartCause.TheVariants as cause
use Rattle.dg_tool.proofs.boot.Goals as goal

pub returns : goal.returns
returns g c =
    let outcome = text_outcome (λ text. text.items) c.boot_first-outcome.result in
    let lent = c.as_mut_slice.ensures in
    record {
      does = λ rest.
          boot_agrees (λ table s agrees. c.trails_keep_agreement.ensures.boot table cause.Power s agrees) c.a_chip_stands_for_a_shaped_store.ensures _ _ _
          (first_done _ outcome _ _ c.answer.ensures.ends c.answer.ensures.counts refl refl _
          (lent_back g.N.Nor.device (λ old new. OnBoards outcome (boot_rule old) ⊥ old new) c.args.boards.now.len
          _ c.args.boards.now.items c.boot_first-outcome.new.boards _ lent.value (omega (arith, c.boot_first-outcome.auto.boards, lent.len)) c.boot_first-outcome.ensures)
          refl);
    }

use Rattle.std.proofs.Common.{refl, arith}
use Rattle.dg_volume.specs.Trails.{order_trail}
use Rattle.dg_volume.specs.Changes.{order_refusal}
use Rattle.dg_tool.specs.Verbs.{order_by}
use Rattle.dg_tool.specs.Done.{OnBoards}
use Rattle.dg_tool.specs.Rules.{trail_rule}
use Rattle.dg_end.specs.Lines.{text_outcome}
use Rattle.dg_tool.proofs.BoardLemmas.{lent_back}
use Rattle.dg_tool.proofs.ToolLemmas.{first_done}
use Rattle.dg_tool.proofs.AgreementLemmas.{order_agrees}
use Rattle.dg_tool.proofs.order.Goals as goal

pub returns : goal.returns
returns g c =
    let outcome = text_outcome (λ text. text.items) c.order_first-outcome.result in
    let lent = c.as_mut_slice.ensures in
    record {
      does = λ rest.
          order_agrees c.trails_keep_agreement.ensures.order c.a_chip_stands_for_a_shaped_store.ensures c.args.order.now _ _ _
          (first_done _ outcome _ _ c.answer.ensures.ends c.answer.ensures.counts refl refl _
          (lent_back g.N.Nor.device (λ old new. OnBoards outcome (trail_rule old (λ s. order_by c.args.order.now (order_refusal s c.args.order.now)) (λ s. order_trail s c.args.order.now)) ⊥ old new) c.args.boards.now.len
          _ c.args.boards.now.items c.order_first-outcome.new.boards _ lent.value (omega (arith, c.order_first-outcome.auto.boards, lent.len)) c.order_first-outcome.ensures)
          refl);
    }

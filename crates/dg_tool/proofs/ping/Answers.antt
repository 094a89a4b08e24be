use Rattle.std.proofs.Common.{refl, arith}
use Rattle.dg_end.specs.Lines.{text_outcome}
use Rattle.std.specs.Prelude.{Ok}
use Rattle.dg_tool.specs.Endings.{Acting}
use Rattle.dg_tool.specs.Verbs.{ping_text}
use Rattle.dg_tool.specs.Done.{OnBoards}
use Rattle.dg_tool.specs.Rules.{reading_rule}
use Rattle.dg_tool.proofs.BoardLemmas.{lent_back}
use Rattle.dg_tool.proofs.ToolLemmas.{first_done}
use Rattle.dg_tool.proofs.ping.Goals as goal

pub returns-clause-does : goal.returns-clause-does
returns-clause-does g c = λ rest.
    let outcome = text_outcome (λ text. text.items) c.ping_first-outcome.result in
    let lent = c.as_mut_slice.ensures in
    first_done _ outcome _ _ c.answer.ensures.ends c.answer.ensures.counts refl refl _
    (lent_back g.N.Nor.device (λ old new. OnBoards outcome (reading_rule old (λ s. Acting (Ok (ping_text s)))) ⊥ old new) c.args.boards.now.len
    _ c.args.boards.now.items c.ping_first-outcome.new.boards _ lent.value (omega (arith, c.ping_first-outcome.auto.boards, lent.len)) c.ping_first-outcome.ensures.done)
    refl

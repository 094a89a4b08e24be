use Rattle.std.proofs.Common.{refl}
use Rattle.dg_end.specs.Lines.{text_outcome}
use Rattle.dg_end.proofs.CommandLemmas.{command_ends}
use Rattle.dg_chain_tool.proofs.wrap.Goals as goal

pub returns : goal.returns
returns g c = record {
  does = λ rest. command_ends _ (text_outcome (λ text. text.items) c.wrap_input-outcome.result) _ _ c.answer.ensures.ends c.answer.ensures.counts refl refl _ (c.wrap_input-outcome.ensures.done, refl) c.wrap_input-outcome.ensures.counts;
}

use Rattle.std.proofs.Common.{ℕ, [], ◌∷◌, ◌++◌, ap, ◌∙◌}
use Rattle.std.specs.Prelude.{codes}
use Rattle.dg_end.specs.Texts.{numbers, line}
use Rattle.dg_end.specs.declared.ends.End.TheVariants as ends
use Rattle.dg_tool.specs.Verbs.{have_text}
use Rattle.dg_tool.proofs.OutcomeLemmas.{at_end}
use Rattle.dg_volume.specs.Filling.{new_row}
use Rattle.dg_chain_tool.proofs.ReceiveLemmas.{Received, told_made, told_wants}
use Rattle.dg_chain_tool.proofs.receiving.receive_told.Goals as goal

pub returns-in_err-receive_new : goal.returns-in_err-receive_new
returns-in_err-receive_new g c = record {
  ends = λ s mounted. at_end _ (Received c.args.root.now s (new_row c.args.new.now) _ _) c.from_residual.result c.in_err-receive_new.field-0.0 c.from_residual.ensures.1 (c.in_err-receive_new.ensures.ends s mounted);
}

pub returns-in_err-line : goal.returns-in_err-line
returns-in_err-line g c = record {
  ends = λ s mounted.
      let row = new_row c.args.new.now in
      at_end _ (Received c.args.root.now s row _ _) c.from_residual-in_err-line.result ends.Memory c.from_residual-in_err-line.ensures.1 (told_wants (have_text row) _ _ _ _ _ (c.in_ok-receive_new.ensures.ends s mounted));
}

pub returns : goal.returns
returns g c = record {
  ends = λ s mounted.
      let row = new_row c.args.new.now in
      told_made c.in_ok-line.line.items (have_text row) _ _ _ _ _ (c.in_ok-receive_new.ensures.ends s mounted)
      (c.in_ok-line.ensures ∙ ap (λ (n : ℕ). line (codes "have" ++ numbers (0 ∷ n ∷ row.version ∷ c.from-pages.result ∷ []))) c.from-number.ensures
      ∙ ap (λ (n : ℕ). line (codes "have" ++ numbers (0 ∷ row.image ∷ row.version ∷ n ∷ []))) (c.from-pages.ensures ∙ c.pages.ensures));
}

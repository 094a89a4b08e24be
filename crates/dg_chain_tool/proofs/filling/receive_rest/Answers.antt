use Rattle.std.proofs.Common.{◌≡◌, ℕ, List, Option, drop, sym, ap, subst, ◌∙◌, arith}
use Rattle.dg_object.specs.Object.{object}
use Rattle.dg_volume.specs.Changes.{FitAll}
use Rattle.dg_chain.specs.Checking.{Break, first_break}
use Rattle.dg_volume.specs.Filling.{new_row}
use Rattle.dg_chain_tool.specs.inner.Filling.{fill_to, FillEnds}
use Rattle.dg_chain_tool.specs.inner.Words.{first_foreign, foreign_from}
use Rattle.dg_chain_tool.proofs.ReceiveLemmas.{from_some}
use Rattle.dg_chain_tool.proofs.filling.receive_rest.Goals as goal

pub receive_whole-requires-clause-fit : goal.receive_whole-requires-clause-fit
receive_whole-requires-clause-fit g c = λ s mounted. subst (λ (n : ℕ). FitAll c.args.new.now.image (drop n (object (new_row c.args.new.now))) s) c.if-done-eq0.true (c.requires.fit s mounted)

pub returns : goal.returns
returns g c = record {
  ends = λ s mounted.
      let row = new_row c.args.new.now in
      let n = c.args.done in
      let rest = drop n (object row) in
      let same : first_break c.expected_of-first.result n rest ≡ first_foreign c.args.root.now (object row) n =
      ap (λ (e : List ℕ). first_break e n rest) c.expected_of-first.ensures ∙ ap (foreign_from c.args.root.now (object row)) (sym (from_some n (omega (arith, c.if-done-eq0.false)))) in
      subst (λ (f : Option Break). FillEnds c.receive_data.result f (fill_to f n s row.image rest) (g.N.Nor.device c.args.nor.now) (g.N.Nor.device c.receive_data.new.nor) c.receive_data.new.volume) same (c.receive_data.ensures.ends s mounted);
}

use Rattle.std.proofs.Common.{◌-◌, [], sym, ◌∙◌, arith}
use Rattle.dg_object.specs.Object.{object}
use Rattle.dg_object.proofs.RowLemmas.{get_or-object}
use Rattle.dg_volume.specs.Filling.{new_row}
use Rattle.dg_chain_tool.proofs.FillLemmas.{expected_first, expected_later}
use Rattle.dg_chain_tool.proofs.filling.expected_of.Goals as goal

pub returns-then-page-eq1 : goal.returns-then-page-eq1
returns-then-page-eq1 c = expected_first c.args.root.now (object (new_row c.args.new.now)) c.args.page c.if-page-eq1.true

pub returns : goal.returns
returns c =
    let row = new_row c.args.new.now in
    expected_later c.args.root.now (object row) c.args.page c.field_of.result c.page.new.into c.if-page-eq1.false (get_or-object row (c.args.page - 1) [] (omega arith) ∙ sym c.page.ensures) c.field_of.ensures

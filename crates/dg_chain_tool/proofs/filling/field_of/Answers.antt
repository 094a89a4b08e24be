use Rattle.std.proofs.Common.{drop, ◌∙◌, arith, length-drop}
use Rattle.std.proofs.lemmas.List.{take_all}
use Rattle.dg_chain_tool.proofs.filling.field_of.Goals as goal

pub returns : goal.returns
returns c = c.copy_from_slice.ensures.after ∙ take_all 32 (drop 1072 c.args.page.now) (omega (arith, length-drop 1072 c.args.page.now, c.told-page))

use Rattle.std.proofs.Common.{rules, ◌∙◌}
use Rattle.dg_script.proofs.NumberLineLemmas.{if_equal, same_four}
use Rattle.dg_script.proofs.plain.begins_with.Goals as goal

pub returns : goal.returns
returns c = if_equal c.from_le_bytes.result c.from_le_bytes-2.result (λ same. same_four c.args.text.now c.args.letters c.from_le_bytes.result c.requires (search rules) (search rules) (search rules) c.from_le_bytes.ensures (same ∙ c.from_le_bytes-2.ensures))

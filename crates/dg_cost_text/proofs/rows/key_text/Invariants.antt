use Rattle.std.proofs.Common.{◌≡◌, take}
use Rattle.std.specs.List.{flat_map}
use Rattle.dg_cost_text.specs.Table.{part_text}
use Rattle.dg_cost_text.proofs.rows.key_text.Given as goal

-- the parts so far
abbrev pub invariant-loop-part : goal.invariant-loop-part
invariant-loop-part l = l.key.items ≡ flat_map part_text (take l.part-index l.parts)

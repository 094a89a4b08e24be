use Rattle.std.proofs.Common.{◌≡◌, ◌++◌, take}
use Rattle.dg_end.specs.Texts.{numbers}
use Rattle.dg_end.proofs.text.push_numbers.Given as goal

-- the numbers so far are appended
abbrev pub invariant-loop-value : goal.invariant-loop-value
invariant-loop-value l = l.text.items ≡ l.initial.text.items ++ numbers (take l.value-index l.values)

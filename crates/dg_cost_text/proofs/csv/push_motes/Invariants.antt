use Rattle.std.proofs.Common.{◌≡◌, ◌++◌, take}
use Rattle.dg_cost_text.specs.Csv.{motes_text}
use Rattle.dg_cost_text.proofs.csv.push_motes.Given as goal

-- the motes so far are appended
abbrev pub invariant-loop-number : goal.invariant-loop-number
invariant-loop-number l = l.text.items ≡ l.initial.text.items ++ motes_text 0 (take l.number l.motes)

-- the bytes so far are digits, and the number is what they encode after the first one
use Rattle.std.proofs.Common.{◌≡◌, ◌+◌, ◌≤◌, ◌∷◌, true, take}
use Rattle.std.specs.Str.{all_ascii_digits}
use Rattle.std.specs.Str.Parse.{digits_value}
use Rattle.dg_script.proofs.numbers.more_digits.Given as goal

abbrev pub invariant-loop-count : goal.invariant-loop-count
invariant-loop-count l =
    (all_ascii_digits (take l.count l.text) ≡ true) × (l.count ≤ 8 → l.number ≡ digits_value 10 ((48 + l.first) ∷ take l.count l.text))

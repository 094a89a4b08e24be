-- What is done for each number in turn (docs/COMMANDS.md, "Serve").
use Rattle.std.specs.Prelude.{ℕ, zero, suc, List, [], ◌++◌}

-- what f gives for each number below n, in ascending order
unfoldable pub each : {A : Type 0} → ℕ → (ℕ → List A) → List A
each zero f = []
each (suc n) f = each n f ++ f n

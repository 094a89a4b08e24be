use Rattle.std.proofs.Common.{ℕ, ◌+◌, ◌<◌, ◌≤◌}
use Rattle.dg_nor.specs.Chip.{sector}
use Rattle.dg_nor.specs.Reads.{Looked}
use Rattle.dg_control.specs.Places.{place_in, IsCommitted}
use Rattle.dg_breaks.proofs.bytes.place_byte.Given as goal

-- the places after this one are not committed
abbrev pub invariant-loop-back : goal.invariant-loop-back
invariant-loop-back g l =
    let old = g.N.Nor.device l.fn.nor in
    record {
      behind : (j : ℕ) → 32 ≤ j + l.back → j < 32 → IsCommitted (place_in (sector old.image l.index) j) → ⊥;
      looked : Looked old (g.N.Nor.device l.nor);
    }

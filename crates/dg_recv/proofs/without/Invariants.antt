use Rattle.std.proofs.Common.{◌≡◌, ℕ, ◌&&◌, not, ltb}
use Rattle.std.specs.FinSet as set
use Rattle.dg_object.specs.Sizes.{packets}
use Rattle.dg_recv.proofs.without.Given as goal

-- the packets so far that are in the set are taken out
abbrev pub invariant-loop-packet : goal.invariant-loop-packet
invariant-loop-packet l =
    (q : ℕ) → set.contains l.want q ≡ (ltb q packets && not (ltb q l.packet && set.contains l.got q))

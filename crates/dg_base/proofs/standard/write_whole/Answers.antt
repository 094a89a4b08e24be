-- A write appends the next bytes to those that were written.
use Rattle.std.proofs.Common.{ℕ, ◌+◌, ◌-◌, ◌≤◌, length, take, drop, List, sym, subst, arith, take-add, Option}
use Rattle.std.proofs.lemmas.List.{take_rest, length-take}
use Rattle.std.proofs.KnownBytes.{Appends-trans}
use Rattle.std.specs.Io.KnownBytes.{Appends}
use Rattle.dg_base.proofs.standard.write_whole.Goals as goal

further : (a b c : Option (List ℕ)) (bytes : List ℕ) (done count : ℕ) → Appends a b (take done bytes)
    → Appends b c (take count (take (length bytes - done) (drop done bytes))) → Appends a c (take (done + count) bytes)
further a b c bytes done count p q =
    subst (Appends a c) (sym (take-add done count bytes))
    (Appends-trans a b c _ _ p (subst (λ xs. Appends b c (take count xs)) (take_rest bytes done) q))

pub loop-done-preserved : goal.loop-done-preserved
loop-done-preserved g c =
    let within : c.in-Ok.count ≤ length (take (length c.args.bytes.now - c.loop-done.done) (drop c.loop-done.done c.args.bytes.now)) = c.in-Ok.ensures.bound in
    (omega (arith, length-take {A = ℕ}), further _ _ _ c.args.bytes.now c.loop-done.done c.in-Ok.count c.loop-done.invariant.1 c.in-Ok.ensures.bytes)

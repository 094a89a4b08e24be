use Rattle.std.proofs.Common.{◌≡◌, ℕ, ◌≤◌, ◌+◌, ◌-◌, Bool, true, false, List, take, drop, refl, arith}
use Rattle.std.proofs.lemmas.Bool.{both_ways}
use Rattle.std.proofs.lemmas.List.{length-take}
use Rattle.dg_bits.specs.ByteForm.{is_marked}
use Rattle.dg_bits.proofs.ByteFormLaws.{unmarked_past}
use Rattle.dg_frame.proofs.fields.set_at.Goals as goal

true_unless : (b : Bool) → (b ≡ false → ⊥) → b ≡ true
true_unless true f = refl
true_unless false f = absurd (f refl)

-- six bytes have no bit past the 48th
none_past : (xs : List ℕ) (n k : ℕ) → k ≤ 6 → 48 ≤ n → is_marked (take k xs) n ≡ true → ⊥
none_past xs n k short far is = both_ways (is_marked (take k xs) n) (unmarked_past (take k xs) n (omega (arith, length-take k xs))) is

pub unwrap-requires : goal.unwrap-requires
unwrap-requires c = true_unless _ (λ none. let h = c.from_bytes.ensures.past.0 none in none_past (drop c.args.at c.args.bytes.now) h.0 ((c.args.at + 6) - c.args.at) (omega arith) h.1 h.2)

use Rattle.std.proofs.Common.{◌≡◌, Bool, true, false, refl, arith}
use Rattle.std.proofs.lemmas.Bool.{both_ways}
use Rattle.dg_bits.specs.ByteForm.{is_marked}
use Rattle.dg_bits.proofs.ByteFormLaws.{unmarked_past}
use Rattle.deluge_c.proofs.messages.set_in.Goals as goal

true_unless : (b : Bool) → (b ≡ false → ⊥) → b ≡ true
true_unless true f = refl
true_unless false f = absurd (f refl)

-- six bytes have no bit past the 48th
pub unwrap-requires : goal.unwrap-requires
unwrap-requires c =
    true_unless _ (λ none. let h = c.from_bytes.ensures.past.0 none in let want = c.args.want.now in both_ways (is_marked want h.0) (unmarked_past want h.0 (omega (arith, h.1, c.told-want))) h.2)

use Rattle.std.proofs.Common.{◌≡◌, ℕ, ◌+◌, ◌/◌, ◌^◌, ◌<◌, ap, ◌∙◌, arith}
use Rattle.std.proofs.lemmas.Nat.{shr-shr, ones_le_self}
use Rattle.std.specs.Int.{bit_at}
use Rattle.std.specs.Int.Count.{ones, ones_step, ones-le}
use Rattle.dg_bits.proofs.bits_set.Goals as goal

-- the bits from place i on
from_place : (n i : ℕ) → ones (n / 2 ^ i) ≡ bit_at n i + ones (n / 2 ^ (i + 1))
from_place n i = ones_step (n / 2 ^ i) ∙ ap (λ x. bit_at n i + ones x) (shr-shr n i 1)

none_left : (n : ℕ) → n < 256 → ones (n / 256) ≡ 0
none_left n lt = let e : n / 256 ≡ 0 = omega arith in ap ones e ∙ omega (arith, ones_le_self 0)

all_eight : (f d : ℕ → ℕ) → ((i : ℕ) → f i ≡ d i + f (i + 1)) → f 8 ≡ 0 → f 0 ≡ d 7 + d 6 + d 5 + d 4 + d 3 + d 2 + d 1 + d 0
all_eight f d step none = omega (arith, step 0, step 1, step 2, step 3, step 4, step 5, step 6, step 7)

pub returns-clause-bits : goal.returns-clause-bits
returns-clause-bits c =
    let whole : c.args.byte ≡ c.args.byte / 1 = omega arith in
    ap ones whole ∙ all_eight (λ i. ones (c.args.byte / 2 ^ i)) (bit_at c.args.byte) (from_place c.args.byte) (none_left c.args.byte (omega (arith, c.ranges.byte.fits)))

pub returns-clause-few : goal.returns-clause-few
returns-clause-few c = ones-le 8 c.args.byte (omega (arith, c.ranges.byte.fits))

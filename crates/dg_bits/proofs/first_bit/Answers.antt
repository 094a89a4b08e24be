use Rattle.std.proofs.Common.{◌≡◌, ℕ, suc, pow-suc, ◌-◌, ◌/◌, ◌%◌, ◌^◌, ◌<◌, ◌≤◌, ap, ◌∙◌, arith}
use Rattle.std.proofs.Math.Pow.{pow_mono}
use Rattle.std.proofs.lemmas.Nat.{pow_pos, leading_top, le-div, div_below}
use Rattle.std.specs.Int.{bit_at}
use Rattle.std.specs.Int.Count.{count_leading_zeros}
use Rattle.dg_bits.proofs.first_bit.Goals as goal

-- the highest bit of a number of j + 1 bits
top_bit : (n j : ℕ) → 2 ^ j ≤ n → n < 2 ^ suc j → bit_at n j ≡ 1
top_bit n j low high =
    let one : n / 2 ^ j ≡ 1 = omega (arith, le-div 1 n (2 ^ j) (pow_pos j) (omega arith), div_below n (2 ^ j) 2 (pow_pos j) (omega (arith, pow-suc 2 j))) in
    ap (λ x. x % 2) one

-- no bit is set above it
above_top : (n j i : ℕ) → n < 2 ^ suc j → j < i → bit_at n i ≡ 0
above_top n j i high past =
    let none : n / 2 ^ i ≡ 0 = omega (arith, div_below n (2 ^ i) 1 (pow_pos i) (omega (arith, pow_mono {i = suc j} {j = i} (omega arith)))) in
    ap (λ x. x % 2) none

pub returns-clause-below : goal.returns-clause-below
returns-clause-below c = omega (arith, (leading_top 8 c.args.byte c.requires (omega (arith, c.ranges.byte.fits))).1)

pub returns-clause-here : goal.returns-clause-here
returns-clause-here c =
    let top = leading_top 8 c.args.byte c.requires (omega (arith, c.ranges.byte.fits)) in
    let place : 7 - count_leading_zeros 8 c.args.byte ≡ top.0 = omega (arith, top.1) in
    ap (bit_at c.args.byte) place ∙ top_bit c.args.byte top.0 top.2 top.3

pub returns-clause-before : goal.returns-clause-before
returns-clause-before c = λ i lt.
    let top = leading_top 8 c.args.byte c.requires (omega (arith, c.ranges.byte.fits)) in
    above_top c.args.byte top.0 (7 - i) top.3 (omega (arith, top.1))

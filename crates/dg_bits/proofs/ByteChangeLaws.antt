-- Bytes that change: a bit of one byte, and two sets joined byte by byte.
use Rattle.std.proofs.Common.{◌≡◌, ◌≢◌, ℕ, ◌-◌, ◌/◌, ◌%◌, ◌<◌, Bool, true, false, not, ◌&&◌, ◌||◌, List, length, get_or, slice_index, eqb, sym, ap, ◌∙◌, max, inl, inr, arith}
use Rattle.std.proofs.Math.ListN.{set as put, length-set}
use Rattle.std.proofs.lemmas.Bool.{cases_lt, cases_eq, eq-eqb, ne_eqb, or_left}
use Rattle.std.proofs.lemmas.Bool.Decides.{nat_tests}
use Rattle.std.proofs.lemmas.List.{get_or_past, get_or-set_other, get_or-set_same}
use Rattle.std.proofs.lemmas.Nat.{or_lt}
use Rattle.std.proofs.lemmas.Nat.Bits.{bit_at-lt, bit_at_or}
use Rattle.std.specs.Int.{bit_at}
use Rattle.std.specs.Int.RustNames.{bit_or}
use Rattle.std.specs.FinSet as set
use Rattle.dg_bits.specs.ByteForm.{is_marked, numbers_of, IsPacked}
use Rattle.dg_bits.specs.ModelLaws.{contains-numbers_of}
use Rattle.dg_bits.specs.ModelLaws.{same_numbers}
use Rattle.dg_bits.proofs.SetLaws.{contains-put, contains-without, contains-both}

-- ---- one byte is changed

-- b is the byte of number n with that number's bit as v, and each other bit unchanged
pub record ChangesBit (bytes : List ℕ) (n v b : ℕ) : Type 0 where
  pub here : bit_at b (7 - n % 8) ≡ v
  pub others : (i : ℕ) → i < 8 → i ≢ 7 - n % 8 → bit_at b i ≡ bit_at (get_or bytes (n / 8) 0) i

marked_here : (bytes : List ℕ) (n v b : ℕ) → n / 8 < length bytes → ChangesBit bytes n v b → is_marked (put bytes (n / 8) b) n ≡ eqb v 1
unfolding is_marked
marked_here bytes n v b h c =
    ap (λ x. eqb (bit_at x (7 - n % 8)) 1) (get_or-set_same bytes (n / 8) b 0 h) ∙ ap (λ x. eqb x 1) c.here

marked_there : (bytes : List ℕ) (n v b q : ℕ) → n / 8 < length bytes → ChangesBit bytes n v b → q ≢ n → is_marked (put bytes (n / 8) b) q ≡ is_marked bytes q
unfolding is_marked
marked_there bytes n v b q h c other =
    elim (cases_eq (q / 8) (n / 8)) [
      | inl same ↦
          ap (λ x. eqb (bit_at (get_or (put bytes (n / 8) b) x 0) (7 - q % 8)) 1) same
          ∙ ap (λ x. eqb (bit_at x (7 - q % 8)) 1) (get_or-set_same bytes (n / 8) b 0 h)
          ∙ ap (λ x. eqb x 1) (c.others (7 - q % 8) (omega arith) (omega arith))
          ∙ ap (λ x. eqb (bit_at (get_or bytes x 0) (7 - q % 8)) 1) (sym same)
      | inr apart ↦ ap (λ x. eqb (bit_at x (7 - q % 8)) 1) (get_or-set_other bytes (n / 8) (q / 8) b 0 apart)
    ]

tells_put : (n q : ℕ) (before after : Bool) → (q ≡ n → after ≡ true) → (q ≢ n → after ≡ before) → after ≡ (eqb q n || before)
tells_put n q before after same other =
    elim (cases_eq q n) [
      | inl e ↦ same e ∙ sym (or_left _ _ (eq-eqb q n e))
      | inr ne ↦ other ne ∙ ap (λ b. b || before) (sym (ne_eqb q n ne))
    ]

tells_without : (n q : ℕ) (before after : Bool) → (q ≡ n → after ≡ false) → (q ≢ n → after ≡ before) → after ≡ (not (eqb q n) && before)
tells_without n q before after same other =
    elim (cases_eq q n) [
      | inl e ↦ same e ∙ ap (λ b. not b && before) (sym (eq-eqb q n e))
      | inr ne ↦ other ne ∙ ap (λ b. not b && before) (sym (ne_eqb q n ne))
    ]

-- the set after a bit was set
pub numbers_of-marked : (bytes : List ℕ) (n b : ℕ) → n / 8 < length bytes → ChangesBit bytes n 1 b → numbers_of (put bytes (n / 8) b) ≡ set.insert (numbers_of bytes) n
numbers_of-marked bytes n b h c =
    same_numbers _ _ (λ q.
    contains-numbers_of _ q
    ∙ tells_put n q (is_marked bytes q) _ (λ e. ap (is_marked (put bytes (n / 8) b)) e ∙ marked_here bytes n 1 b h c) (marked_there bytes n 1 b q h c)
    ∙ ap (λ x. eqb q n || x) (sym (contains-numbers_of bytes q))
    ∙ sym (contains-put (numbers_of bytes) n q))

-- the set after a bit was cleared
pub numbers_of-cleared : (bytes : List ℕ) (n b : ℕ) → n / 8 < length bytes → ChangesBit bytes n 0 b → numbers_of (put bytes (n / 8) b) ≡ set.remove (numbers_of bytes) n
numbers_of-cleared bytes n b h c =
    same_numbers _ _ (λ q.
    contains-numbers_of _ q
    ∙ tells_without n q (is_marked bytes q) _ (λ e. ap (is_marked (put bytes (n / 8) b)) e ∙ marked_here bytes n 0 b h c) (marked_there bytes n 0 b q h c)
    ∙ ap (λ x. not (eqb q n) && x) (sym (contains-numbers_of bytes q))
    ∙ sym (contains-without (numbers_of bytes) n q))

byte_fits : (bytes : List ℕ) (i b : ℕ) → b < 256 → ((k : ℕ) → slice_index bytes k < 256) → (k : ℕ) → slice_index (put bytes i b) k < 256
byte_fits bytes i b h fit k =
    elim (cases_eq k i) [
      | inl e ↦
          elim (cases_lt i (length bytes)) [
            | inl lt ↦ let at : get_or (put bytes i b) k 0 ≡ b = ap (λ x. get_or (put bytes i b) x 0) e ∙ get_or-set_same bytes i b 0 lt in omega arith
            | inr past ↦ let at : get_or (put bytes i b) k 0 ≡ 0 = get_or_past (put bytes i b) k 0 (rw length-set (omega arith)) in omega arith
          ]
      | inr ne ↦ let at : get_or (put bytes i b) k 0 ≡ get_or bytes k 0 = get_or-set_other bytes i k b 0 ne in omega (arith, fit k)
    ]

-- packed bytes stay packed if one bit below the size changes
pub IsPacked-changed : (size : ℕ) (bytes : List ℕ) (n v b : ℕ) → IsPacked size bytes → n < size → b < 256 → ChangesBit bytes n v b → IsPacked size (put bytes (n / 8) b)
IsPacked-changed size bytes n v b packed lt fits c =
    record {
      width = length-set bytes (n / 8) b ∙ packed.width;
      bytes_fit = byte_fits bytes (n / 8) b fits packed.bytes_fit;
      within = λ q past. marked_there bytes n v b q (omega (arith, packed.width, packed.not_over)) c (omega arith) ∙ packed.within q past;
      not_empty = packed.not_empty;
      not_over = packed.not_over;
    }

-- ---- two sets joined byte by byte

-- each byte of c has the bits of a's and of b's
pub record JoinsBytes (a b c : List ℕ) : Type 0 where
  pub joined : (k : ℕ) → get_or c k 0 ≡ bit_or (get_or a k 0) (get_or b k 0)

joined_bit : (x y : ℕ) → x < 2 → y < 2 → eqb (max x y) 1 ≡ (eqb x 1 || eqb y 1)
joined_bit x y hx hy = grind (arith, nat_tests)

is_marked-joined : (a b c : List ℕ) → JoinsBytes a b c → (n : ℕ) → is_marked c n ≡ (is_marked a n || is_marked b n)
unfolding is_marked
is_marked-joined a b c j n =
    ap (λ x. eqb (bit_at x (7 - n % 8)) 1) (j.joined (n / 8))
    ∙ ap (λ x. eqb x 1) (bit_at_or (get_or a (n / 8) 0) (get_or b (n / 8) 0) (7 - n % 8))
    ∙ joined_bit _ _ (bit_at-lt (get_or a (n / 8) 0) (7 - n % 8)) (bit_at-lt (get_or b (n / 8) 0) (7 - n % 8))

pub numbers_of-joined : (a b c : List ℕ) → JoinsBytes a b c → numbers_of c ≡ set.union (numbers_of a) (numbers_of b)
numbers_of-joined a b c j =
    same_numbers _ _ (λ q.
    contains-numbers_of c q
    ∙ is_marked-joined a b c j q
    ∙ (λ i. sym (contains-numbers_of a q) i || sym (contains-numbers_of b q) i)
    ∙ sym (contains-both (numbers_of a) (numbers_of b) q))

pub IsPacked-joined : (size : ℕ) (a b c : List ℕ) → IsPacked size a → IsPacked size b → JoinsBytes a b c → length c ≡ 9 → IsPacked size c
IsPacked-joined size a b c pa pb j long =
    record {
      width = long;
      bytes_fit = λ k. rw (j.joined k) (or_lt 8 (get_or a k 0) (get_or b k 0) (pa.bytes_fit k) (pb.bytes_fit k));
      within = λ q past. is_marked-joined a b c j q ∙ (λ i. pa.within q past i || pb.within q past i);
      not_empty = pa.not_empty;
      not_over = pa.not_over;
    }

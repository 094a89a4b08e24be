-- Lists of bytes that are made of lists of bytes.
use Rattle.std.proofs.Common.{ℕ, ◌+◌, ◌/◌, ◌^◌, ◌<◌, suc, zero, List, [], ◌∷◌, ◌++◌, take, drop, replicate, arith, get_or-drop}
use Rattle.std.proofs.lemmas.Nat.{mod_below}
use Rattle.std.proofs.lemmas.List.Elements.{All-from_get_or}
use Rattle.std.specs.Int.{bytes_high_first, byte_at}
use Rattle.std.specs.List.{All, flat_map}
use Rattle.dg_words.specs.Cells.{AreBytes}
use Rattle.dg_words.specs.Lists.{padded}

pub AreBytes-nil : AreBytes []
AreBytes-nil k = omega arith

pub AreBytes-cons : (x : ℕ) (xs : List ℕ) → x < 256 → AreBytes xs → AreBytes (x ∷ xs)
AreBytes-cons x xs h hs zero = h
AreBytes-cons x xs h hs (suc k) = hs k

pub AreBytes-append : (xs ys : List ℕ) → AreBytes xs → AreBytes ys → AreBytes (xs ++ ys)
AreBytes-append [] ys hx hy = hy
AreBytes-append (x ∷ xs) ys hx hy = AreBytes-cons x (xs ++ ys) (hx 0) (AreBytes-append xs ys (λ k. hx (suc k)) hy)

pub AreBytes-take : (n : ℕ) (xs : List ℕ) → AreBytes xs → AreBytes (take n xs)
AreBytes-take zero xs h = AreBytes-nil
AreBytes-take (suc n) [] h = AreBytes-nil
AreBytes-take (suc n) (x ∷ xs) h = AreBytes-cons x (take n xs) (h 0) (AreBytes-take n xs (λ k. h (suc k)))

pub AreBytes-drop : (n : ℕ) (xs : List ℕ) → AreBytes xs → AreBytes (drop n xs)
AreBytes-drop n xs h k = rw (get_or-drop n xs k 0) (h (n + k))

pub AreBytes-replicate : (n x : ℕ) → x < 256 → AreBytes (replicate n x)
AreBytes-replicate zero x h = AreBytes-nil
AreBytes-replicate (suc n) x h = AreBytes-cons x (replicate n x) h (AreBytes-replicate n x h)

pub AreBytes-padded : (n x : ℕ) (xs : List ℕ) → x < 256 → AreBytes xs → AreBytes (padded n x xs)
unfolding padded
AreBytes-padded n x xs h hs = AreBytes-append xs (replicate _ x) hs (AreBytes-replicate _ x h)

pub AreBytes-flat_map : {X : Type 0} (f : X → List ℕ) (xs : List X) → ((x : X) → AreBytes (f x)) → AreBytes (flat_map f xs)
AreBytes-flat_map f [] h = AreBytes-nil
AreBytes-flat_map f (x ∷ xs) h = AreBytes-append (f x) (flat_map f xs) (h x) (AreBytes-flat_map f xs h)

byte_at-small : (k n : ℕ) → byte_at k n < 256
byte_at-small zero n = omega arith
byte_at-small (suc k) n = mod_below (n / 256 ^ suc k) 256 (omega arith)

-- the bytes of a number
pub AreBytes-high_first : (k n : ℕ) → AreBytes (bytes_high_first k n)
AreBytes-high_first zero n = AreBytes-nil
AreBytes-high_first (suc k) n = AreBytes-cons (byte_at k n) (bytes_high_first k n) (byte_at-small k n) (AreBytes-high_first k n)

pub All-from_AreBytes : (xs : List ℕ) → AreBytes xs → All (λ b. b < 2 ^ 8) xs
All-from_AreBytes xs h = All-from_get_or (λ b. b < 2 ^ 8) xs 0 (λ i _. h i)

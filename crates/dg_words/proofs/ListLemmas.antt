-- The elements of lists that are padded, given by a function of the position, or joined.
use Rattle.std.proofs.Common.{◌≡◌, ℕ, ◌+◌, ◌-◌, ◌*◌, ◌<◌, ◌≤◌, suc, zero, List, [], ◌++◌, length, take, drop, get_or, map, replicate, refl, sym, ap, ◌∙◌, subst, arith, append_assoc, length-append, length-take, length-drop, take-append-drop, add-zero, inl, inr}
use Rattle.std.proofs.Math.Seq.{take-append-add}
use Rattle.std.proofs.lemmas.Bool.{cases_lt}
use Rattle.std.specs.List.{range_with_len, flat_map}
use Rattle.std.proofs.Math.Nat.{sub-zero}
use Rattle.std.proofs.lemmas.List.{length-replicate, get_or-replicate, get_or_append_left, get_or-append_right, take_at, drop_at, drop-replicate, append-nil, take-append-le, take_all, drop_all, drop-drop}
use Rattle.std.proofs.lemmas.List.FromFn.{length-map-range_with_len, get_or-map-range_with_len}
use borrow.Rule.Slice.PartMut.{put_mid, post_of}
use Rattle.dg_words.specs.Lists.{tabulate, padded, concatenated}

pub length-padded : (n x : ℕ) (xs : List ℕ) → length xs ≤ n → length (padded n x xs) ≡ n
unfolding padded
length-padded n x xs h = omega (arith, length-append xs (replicate (n - length xs) x), length-replicate (n - length xs) x)

pub padded_none : (n x : ℕ) → padded n x [] ≡ replicate n x
unfolding padded
padded_none n x = ap (λ (m : ℕ). replicate m x) (sub-zero n)

-- the list itself comes first
pub take-padded : (n x k : ℕ) (xs : List ℕ) → length xs ≡ k → take k (padded n x xs) ≡ xs
unfolding padded
take-padded n x k xs e = take_at xs (replicate (n - length xs) x) k e

pub get_or-padded_front : (n x k d : ℕ) (xs : List ℕ) → k < length xs → get_or (padded n x xs) k d ≡ get_or xs k d
unfolding padded
get_or-padded_front n x k d xs h = get_or_append_left xs (replicate (n - length xs) x) d k h

-- the padding comes after it
pub get_or-padded_behind : (n x k d : ℕ) (xs : List ℕ) → length xs ≤ k → k < n → get_or (padded n x xs) k d ≡ x
unfolding padded
get_or-padded_behind n x k d xs low high =
    get_or-append_right xs (replicate (n - length xs) x) (length xs) k d refl low
    ∙ get_or-replicate (n - length xs) (k - length xs) x d (omega arith)

-- a piece that is appended to the list replaces padding
pub padded-append : (n x k j : ℕ) (front piece : List ℕ) → length front ≡ k → length piece ≡ j → put_mid k j (padded n x front) piece ≡ padded n x (front ++ piece)
unfolding padded
padded-append n x k j front piece e f =
    ap (λ (zs : List ℕ). zs ++ (piece ++ post_of k j (padded n x front))) (take_at front (replicate (n - length front) x) k e)
    ∙ ap (λ (zs : List ℕ). front ++ (piece ++ drop j zs)) (drop_at front (replicate (n - length front) x) k e)
    ∙ ap (λ (zs : List ℕ). front ++ (piece ++ zs)) (drop-replicate j (n - length front) x)
    ∙ sym (append_assoc front piece (replicate (n - length front - j) x))
    ∙ ap (λ (m : ℕ). (front ++ piece) ++ replicate m x) rest
  where
    rest : n - length front - j ≡ n - length (front ++ piece)
    rest = omega (arith, length-append front piece)

pub length-tabulate : {A : Type 0} (n : ℕ) (f : ℕ → A) → length (tabulate n f) ≡ n
length-tabulate n f = length-map-range_with_len f 0 n

pub get_or-tabulate : {A : Type 0} (n k : ℕ) (f : ℕ → A) (d : A) → k < n → get_or (tabulate n f) k d ≡ f k
get_or-tabulate n k f d h = get_or-map-range_with_len f 0 n k k d h (omega arith)

-- what the next number of a range adds
pub flat_map-range_more : {A : Type 0} (f : ℕ → List A) (a n : ℕ) → flat_map f (range_with_len a n) ++ f (a + n) ≡ flat_map f (range_with_len a (suc n))
flat_map-range_more f a zero = ap f (add-zero a) ∙ sym (append-nil (f a))
flat_map-range_more f a (suc n) =
    append_assoc (f a) (flat_map f (range_with_len (a + 1) n)) (f (a + suc n))
    ∙ ap (λ zs. f a ++ zs) (ap (λ m. flat_map f (range_with_len (a + 1) n) ++ f m) place ∙ flat_map-range_more f (a + 1) n)
  where
    place : a + suc n ≡ a + 1 + n
    place = omega arith

pub take-padded_front : (n x k : ℕ) (xs : List ℕ) → k ≤ length xs → take k (padded n x xs) ≡ take k xs
unfolding padded
take-padded_front n x k xs h = take-append-le k xs (replicate (n - length xs) x) h

-- a list of the full length gets no padding
pub padded_full : (n x : ℕ) (xs : List ℕ) → length xs ≡ n → padded n x xs ≡ xs
unfolding padded
padded_full n x xs h = ap (λ (m : ℕ). xs ++ replicate m x) none ∙ append-nil xs
  where
    none : n - length xs ≡ 0
    none = omega arith

-- the chunk at place k and all that is joined after it, if more than a chunk is left
chunk_more : (s x k : ℕ) (bytes rest : List ℕ) → s < length bytes - k → take (length bytes - (k + s)) rest ≡ drop (k + s) bytes
    → take (length bytes - k) (padded s x (take s (drop k bytes)) ++ rest) ≡ drop k bytes
chunk_more s x k bytes rest more behind =
    ap (λ (xs : List ℕ). take (length bytes - k) (xs ++ rest)) (padded_full s x (take s (drop k bytes)) full)
    ∙ ap (λ (n : ℕ). take n (take s (drop k bytes) ++ rest)) parts
    ∙ take-append-add (take s (drop k bytes)) rest (length bytes - (k + s))
    ∙ ap (λ (xs : List ℕ). take s (drop k bytes) ++ xs) (behind ∙ sym (drop-drop s k bytes))
    ∙ take-append-drop s (drop k bytes)
  where
    full : length (take s (drop k bytes)) ≡ s
    full = omega (arith, length-take s (drop k bytes), length-drop k bytes)

    parts : length bytes - k ≡ length (take s (drop k bytes)) + (length bytes - (k + s))
    parts = omega (arith, full)

-- and if it is the last
chunk_last : (s x k : ℕ) (bytes rest : List ℕ) → length bytes - k ≤ s → take (length bytes - k) (padded s x (take s (drop k bytes)) ++ rest) ≡ drop k bytes
chunk_last s x k bytes rest last =
    take-append-le (length bytes - k) (padded s x (take s (drop k bytes))) rest (omega (arith, length-padded s x (take s (drop k bytes)) short))
    ∙ ap (λ (xs : List ℕ). take (length bytes - k) (padded s x xs)) (take_all s (drop k bytes) (omega (arith, length-drop k bytes)))
    ∙ take-padded s x (length bytes - k) (drop k bytes) (length-drop k bytes)
  where
    short : length (take s (drop k bytes)) ≤ s
    short = omega (arith, length-take s (drop k bytes))

-- a chunk, padded if it is the last, and all that is joined after it
chunk_step : (s x a : ℕ) (bytes chunk rest : List ℕ) → 1 ≤ a → chunk ≡ padded s x (take s (drop ((a - 1) * s) bytes))
    → take (length bytes - (a + 1 - 1) * s) rest ≡ drop ((a + 1 - 1) * s) bytes → take (length bytes - (a - 1) * s) (chunk ++ rest) ≡ drop ((a - 1) * s) bytes
chunk_step s x a bytes chunk rest low is behind =
    ap (λ (xs : List ℕ). take (length bytes - (a - 1) * s) (xs ++ rest)) is
    ∙ elim (cases_lt s (length bytes - (a - 1) * s)) [
      | inl more ↦ chunk_more s x ((a - 1) * s) bytes rest more (ap (λ (n : ℕ). take (length bytes - n) rest) (sym next) ∙ behind ∙ ap (λ (n : ℕ). drop n bytes) next)
      | inr last ↦ chunk_last s x ((a - 1) * s) bytes rest last
    ]
  where
    before : a + 1 - 1 ≡ (a - 1) + 1
    before = omega arith

    next : (a + 1 - 1) * s ≡ (a - 1) * s + s
    next = ap (λ (n : ℕ). n * s) before ∙ omega arith

-- Bytes in chunks of s: joined, and without the padding, they are the bytes again.
pub joined_chunks : (s x : ℕ) (f : ℕ → List ℕ) (bytes : List ℕ) (a m : ℕ) → ((p : ℕ) → 1 ≤ p → f p ≡ padded s x (take s (drop ((p - 1) * s) bytes)))
    → 1 ≤ a → length bytes ≤ (a - 1 + m) * s → take (length bytes - (a - 1) * s) (concatenated (map f (range_with_len a m))) ≡ drop ((a - 1) * s) bytes
joined_chunks s x f bytes a zero each low room =
    take_all (length bytes - (a - 1) * s) [] (omega arith) ∙ sym (drop_all ((a - 1) * s) bytes (omega arith))
joined_chunks s x f bytes a (suc m) each low room =
    chunk_step s x a bytes (f a) (concatenated (map f (range_with_len (a + 1) m))) low (each a low)
    (joined_chunks s x f bytes (a + 1) m each (omega arith) (subst P (ap (λ (n : ℕ). n * s) count) room))
  where
    P : ℕ → Type 0
    P n = length bytes ≤ n

    count : a - 1 + suc m ≡ a + 1 - 1 + m
    count = omega arith

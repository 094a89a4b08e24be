-- Parts of lists, and lists that are overwritten.
use Rattle.std.proofs.Common.{◌≡◌, ℕ, ◌+◌, ◌-◌, ◌<◌, ◌≤◌, ◌⊎◌, List, Fits, w8, ◌++◌, length, get_or, take, drop, refl, sym, ap, ◌∙◌, inl, inr, arith, ⊎_elim}
use Rattle.std.proofs.lemmas.List.{length-take, length-drop, length-append, get_or-take, get_or-drop, get_or_append_left, get_or-append_right, same_lists, length-take-le, take_all}
use Rattle.std.proofs.lemmas.Bool.{cases_lt}
use Rattle.std.proofs.lemmas.Slice.{put_mid-paste}
use borrow.Rule.Slice.PartMut.{put_mid}
use Rattle.dg_words.specs.Cells.{part, overwritten, AreBytes}

-- ---- lengths

pub length-part : (xs : List ℕ) (at n : ℕ) → at + n ≤ length xs → length (part xs at n) ≡ n
unfolding part
length-part xs at n h = simp (length-take, length-drop) (omega arith)

pub length-overwritten : (xs : List ℕ) (at : ℕ) (bs : List ℕ) → at + length bs ≤ length xs → length (overwritten xs at bs) ≡ length xs
unfolding overwritten
length-overwritten xs at bs h = simp (length-append, length-take, length-drop) (omega arith)

-- ---- elements

pub get_or-part : (xs : List ℕ) (at n k d : ℕ) → k < n → get_or (part xs at n) k d ≡ get_or xs (at + k) d
unfolding part
get_or-part xs at n k d h = get_or-take n (drop at xs) k d h ∙ get_or-drop at xs k d

pub get_or-overwritten_before : (xs : List ℕ) (at : ℕ) (bs : List ℕ) (k d : ℕ) → at + length bs ≤ length xs → k < at → get_or (overwritten xs at bs) k d ≡ get_or xs k d
unfolding overwritten
get_or-overwritten_before xs at bs k d h l =
    let n : length (take at xs) ≡ at = length-take-le at xs (omega arith) in
    let m : length (take at xs ++ bs) ≡ at + length bs = length-append (take at xs) bs ∙ ap (λ x. x + length bs) n in
    get_or_append_left (take at xs ++ bs) (drop (at + length bs) xs) d k (omega arith)
    ∙ get_or_append_left (take at xs) bs d k (omega arith) ∙ get_or-take at xs k d l

pub get_or-overwritten_inside : (xs : List ℕ) (at : ℕ) (bs : List ℕ) (k d : ℕ) → at + length bs ≤ length xs → k < length bs → get_or (overwritten xs at bs) (at + k) d ≡ get_or bs k d
unfolding overwritten
get_or-overwritten_inside xs at bs k d h l =
    let n : length (take at xs) ≡ at = length-take-le at xs (omega arith) in
    let m : length (take at xs ++ bs) ≡ at + length bs = length-append (take at xs) bs ∙ ap (λ x. x + length bs) n in
    let e : (at + k) - at ≡ k = omega arith in
    get_or_append_left (take at xs ++ bs) (drop (at + length bs) xs) d (at + k) (omega arith)
    ∙ get_or-append_right (take at xs) bs at (at + k) d n (omega arith) ∙ ap (λ i. get_or bs i d) e

pub get_or-overwritten_after : (xs : List ℕ) (at : ℕ) (bs : List ℕ) (k d : ℕ) → at + length bs ≤ length xs → at + length bs ≤ k → get_or (overwritten xs at bs) k d ≡ get_or xs k d
unfolding overwritten
get_or-overwritten_after xs at bs k d h l =
    let n : length (take at xs) ≡ at = length-take-le at xs (omega arith) in
    let m : length (take at xs ++ bs) ≡ at + length bs = length-append (take at xs) bs ∙ ap (λ x. x + length bs) n in
    let e : (at + length bs) + (k - (at + length bs)) ≡ k = omega arith in
    get_or-append_right (take at xs ++ bs) (drop (at + length bs) xs) (at + length bs) k d m l
    ∙ get_or-drop (at + length bs) xs (k - (at + length bs)) d ∙ ap (λ i. get_or xs i d) e

pub get_or-overwritten_outside : (xs : List ℕ) (at : ℕ) (bs : List ℕ) (k d : ℕ) → at + length bs ≤ length xs → (k < at) ⊎ (at + length bs ≤ k) → get_or (overwritten xs at bs) k d ≡ get_or xs k d
get_or-overwritten_outside xs at bs k d h (inl l) = get_or-overwritten_before xs at bs k d h l
get_or-overwritten_outside xs at bs k d h (inr l) = get_or-overwritten_after xs at bs k d h l

-- ---- parts of a list that was overwritten

-- what was written is there
pub part-overwritten_at : (xs : List ℕ) (at : ℕ) (bs : List ℕ) → at + length bs ≤ length xs → part (overwritten xs at bs) at (length bs) ≡ bs
part-overwritten_at xs at bs h =
    let o = length-overwritten xs at bs h in
    let p : length (part (overwritten xs at bs) at (length bs)) ≡ length bs = length-part (overwritten xs at bs) at (length bs) (omega arith) in
    same_lists (part (overwritten xs at bs) at (length bs)) bs p (λ k d l.
    get_or-part (overwritten xs at bs) at (length bs) k d (omega arith) ∙ get_or-overwritten_inside xs at bs k d h (omega arith))

-- a part of what was written
pub part-overwritten_within : (xs : List ℕ) (at : ℕ) (bs : List ℕ) (i n : ℕ) → at + length bs ≤ length xs → i + n ≤ length bs → part (overwritten xs at bs) (at + i) n ≡ part bs i n
part-overwritten_within xs at bs i n h l =
    let o = length-overwritten xs at bs h in
    let p : length (part (overwritten xs at bs) (at + i) n) ≡ n = length-part (overwritten xs at bs) (at + i) n (omega arith) in
    let q : length (part bs i n) ≡ n = length-part bs i n l in
    same_lists (part (overwritten xs at bs) (at + i) n) (part bs i n) (p ∙ sym q) (λ k d m.
    let e : (at + i) + k ≡ at + (i + k) = omega arith in
    get_or-part (overwritten xs at bs) (at + i) n k d (omega arith) ∙ ap (λ j. get_or (overwritten xs at bs) j d) e
    ∙ get_or-overwritten_inside xs at bs (i + k) d h (omega arith) ∙ sym (get_or-part bs i n k d (omega arith)))

-- a part that lies before or after it
pub part-overwritten_apart : (xs : List ℕ) (at : ℕ) (bs : List ℕ) (i n : ℕ) → at + length bs ≤ length xs → i + n ≤ length xs → (i + n ≤ at) ⊎ (at + length bs ≤ i) → part (overwritten xs at bs) i n ≡ part xs i n
part-overwritten_apart xs at bs i n h l apart =
    let o = length-overwritten xs at bs h in
    let p : length (part (overwritten xs at bs) i n) ≡ n = length-part (overwritten xs at bs) i n (omega arith) in
    let q : length (part xs i n) ≡ n = length-part xs i n l in
    same_lists (part (overwritten xs at bs) i n) (part xs i n) (p ∙ sym q) (λ k d m.
    let outside : (i + k < at) ⊎ (at + length bs ≤ i + k) = ⊎_elim (λ b. inl (omega arith)) (λ b. inr (omega arith)) apart in
    get_or-part (overwritten xs at bs) i n k d (omega arith) ∙ get_or-overwritten_outside xs at bs (i + k) d h outside
    ∙ sym (get_or-part xs i n k d (omega arith)))

-- a part that holds all of it
pub part-overwritten_around : (xs : List ℕ) (base n at : ℕ) (bs : List ℕ) → base + n ≤ length xs → at + length bs ≤ n → part (overwritten xs (base + at) bs) base n ≡ overwritten (part xs base n) at bs
part-overwritten_around xs base n at bs h l =
    let w : (base + at) + length bs ≤ length xs = omega arith in
    let o = length-overwritten xs (base + at) bs w in
    let q : length (part xs base n) ≡ n = length-part xs base n h in
    let r : at + length bs ≤ length (part xs base n) = omega arith in
    let s = length-overwritten (part xs base n) at bs r in
    let p : length (part (overwritten xs (base + at) bs) base n) ≡ n = length-part (overwritten xs (base + at) bs) base n (omega arith) in
    same_lists (part (overwritten xs (base + at) bs) base n) (overwritten (part xs base n) at bs) (p ∙ sym q ∙ sym s) (λ k d m.
    let first = get_or-part (overwritten xs (base + at) bs) base n k d (omega arith) in
    let last = get_or-part xs base n k d (omega arith) in
    ⊎_elim
    (λ before. first ∙ get_or-overwritten_before xs (base + at) bs (base + k) d w (omega arith) ∙ sym last ∙ sym (get_or-overwritten_before (part xs base n) at bs k d r before))
    (λ from. ⊎_elim
    (λ inside.
    let e : base + k ≡ (base + at) + (k - at) = omega arith in
    let f : at + (k - at) ≡ k = omega arith in
    first ∙ ap (λ j. get_or (overwritten xs (base + at) bs) j d) e ∙ get_or-overwritten_inside xs (base + at) bs (k - at) d w (omega arith)
    ∙ sym (get_or-overwritten_inside (part xs base n) at bs (k - at) d r (omega arith)) ∙ ap (λ j. get_or (overwritten (part xs base n) at bs) j d) f)
    (λ behind. first ∙ get_or-overwritten_after xs (base + at) bs (base + k) d w (omega arith) ∙ sym last ∙ sym (get_or-overwritten_after (part xs base n) at bs k d r behind))
    (cases_lt k (at + length bs)))
    (cases_lt k at))

-- ---- parts of parts

pub part-part : (xs : List ℕ) (base m at n : ℕ) → base + m ≤ length xs → at + n ≤ m → part (part xs base m) at n ≡ part xs (base + at) n
part-part xs base m at n h l =
    let r : length (part xs base m) ≡ m = length-part xs base m h in
    let p : length (part (part xs base m) at n) ≡ n = length-part (part xs base m) at n (omega arith) in
    let q : length (part xs (base + at) n) ≡ n = length-part xs (base + at) n (omega arith) in
    same_lists (part (part xs base m) at n) (part xs (base + at) n) (p ∙ sym q) (λ k d i.
    let e : base + (at + k) ≡ (base + at) + k = omega arith in
    get_or-part (part xs base m) at n k d (omega arith) ∙ get_or-part xs base m (at + k) d (omega arith)
    ∙ ap (λ j. get_or xs j d) e ∙ sym (get_or-part xs (base + at) n k d (omega arith)))

-- two adjacent parts
pub part-append-part : (xs : List ℕ) (at m n : ℕ) → at + (m + n) ≤ length xs → part xs at m ++ part xs (at + m) n ≡ part xs at (m + n)
part-append-part xs at m n h =
    let p : length (part xs at m) ≡ m = length-part xs at m (omega arith) in
    let q : length (part xs (at + m) n) ≡ n = length-part xs (at + m) n (omega arith) in
    let r : length (part xs at (m + n)) ≡ m + n = length-part xs at (m + n) h in
    let s : length (part xs at m ++ part xs (at + m) n) ≡ m + n = omega (arith, length-append (part xs at m) (part xs (at + m) n)) in
    same_lists (part xs at m ++ part xs (at + m) n) (part xs at (m + n)) (s ∙ sym r) (λ k d i.
    ⊎_elim
    (λ low. get_or_append_left (part xs at m) (part xs (at + m) n) d k (omega arith) ∙ get_or-part xs at m k d low ∙ sym (get_or-part xs at (m + n) k d (omega arith)))
    (λ high.
    let e : (at + m) + (k - m) ≡ at + k = omega arith in
    get_or-append_right (part xs at m) (part xs (at + m) n) m k d p high ∙ get_or-part xs (at + m) n (k - m) d (omega arith)
    ∙ ap (λ j. get_or xs j d) e ∙ sym (get_or-part xs at (m + n) k d (omega arith)))
    (cases_lt k m))

pub part_whole : (xs : List ℕ) (n : ℕ) → length xs ≡ n → part xs 0 n ≡ xs
part_whole xs n h =
    let p : length (part xs 0 n) ≡ n = length-part xs 0 n (omega arith) in
    same_lists (part xs 0 n) xs (p ∙ sym h) (λ k d i.
    let e : 0 + k ≡ k = omega arith in
    get_or-part xs 0 n k d (omega arith) ∙ ap (λ j. get_or xs j d) e)

-- ---- one write after another

-- what is there is written again
pub overwritten_same : (xs : List ℕ) (at n : ℕ) → at + n ≤ length xs → overwritten xs at (part xs at n) ≡ xs
overwritten_same xs at n h =
    let q : length (part xs at n) ≡ n = length-part xs at n h in
    let w : at + length (part xs at n) ≤ length xs = omega arith in
    let o = length-overwritten xs at (part xs at n) w in
    same_lists (overwritten xs at (part xs at n)) xs o (λ k d i.
    ⊎_elim
    (λ before. get_or-overwritten_before xs at (part xs at n) k d w before)
    (λ from. ⊎_elim
    (λ inside.
    let e : k ≡ at + (k - at) = omega arith in
    ap (λ j. get_or (overwritten xs at (part xs at n)) j d) e ∙ get_or-overwritten_inside xs at (part xs at n) (k - at) d w (omega arith)
    ∙ get_or-part xs at n (k - at) d (omega arith) ∙ sym (ap (λ j. get_or xs j d) e))
    (λ behind. get_or-overwritten_after xs at (part xs at n) k d w (omega arith))
    (cases_lt k (at + n)))
    (cases_lt k at))

-- the second write covers the first
pub overwritten_twice : (xs : List ℕ) (at : ℕ) (bs cs : List ℕ) → at + length bs ≤ length xs → length cs ≡ length bs → overwritten (overwritten xs at bs) at cs ≡ overwritten xs at cs
overwritten_twice xs at bs cs h same =
    let o = length-overwritten xs at bs h in
    let w : at + length cs ≤ length xs = omega arith in
    let v : at + length cs ≤ length (overwritten xs at bs) = omega arith in
    let p = length-overwritten (overwritten xs at bs) at cs v in
    let q = length-overwritten xs at cs w in
    same_lists (overwritten (overwritten xs at bs) at cs) (overwritten xs at cs) (p ∙ o ∙ sym q) (λ k d i.
    ⊎_elim
    (λ before. get_or-overwritten_before (overwritten xs at bs) at cs k d v before ∙ get_or-overwritten_before xs at bs k d h before ∙ sym (get_or-overwritten_before xs at cs k d w before))
    (λ from. ⊎_elim
    (λ inside.
    let e : k ≡ at + (k - at) = omega arith in
    ap (λ j. get_or (overwritten (overwritten xs at bs) at cs) j d) e ∙ get_or-overwritten_inside (overwritten xs at bs) at cs (k - at) d v (omega arith)
    ∙ sym (get_or-overwritten_inside xs at cs (k - at) d w (omega arith)) ∙ sym (ap (λ j. get_or (overwritten xs at cs) j d) e))
    (λ behind. get_or-overwritten_after (overwritten xs at bs) at cs k d v behind ∙ get_or-overwritten_after xs at bs k d h (omega arith) ∙ sym (get_or-overwritten_after xs at cs k d w behind))
    (cases_lt k (at + length cs)))
    (cases_lt k at))

-- the second write is directly after the first
pub overwritten_next : (xs : List ℕ) (at : ℕ) (bs cs : List ℕ) → at + (length bs + length cs) ≤ length xs → overwritten (overwritten xs at bs) (at + length bs) cs ≡ overwritten xs at (bs ++ cs)
overwritten_next xs at bs cs h =
    let both = length-append bs cs in
    let l : at + length bs ≤ length xs = omega arith in
    let o = length-overwritten xs at bs l in
    let v : (at + length bs) + length cs ≤ length (overwritten xs at bs) = omega arith in
    let w : at + length (bs ++ cs) ≤ length xs = omega arith in
    let p = length-overwritten (overwritten xs at bs) (at + length bs) cs v in
    let q = length-overwritten xs at (bs ++ cs) w in
    same_lists (overwritten (overwritten xs at bs) (at + length bs) cs) (overwritten xs at (bs ++ cs)) (p ∙ o ∙ sym q) (λ k d i.
    ⊎_elim
    (λ before. get_or-overwritten_before (overwritten xs at bs) (at + length bs) cs k d v (omega arith) ∙ get_or-overwritten_before xs at bs k d l before ∙ sym (get_or-overwritten_before xs at (bs ++ cs) k d w before))
    (λ from. ⊎_elim
    (λ first.
    let e : k ≡ at + (k - at) = omega arith in
    get_or-overwritten_before (overwritten xs at bs) (at + length bs) cs k d v first
    ∙ ap (λ j. get_or (overwritten xs at bs) j d) e ∙ get_or-overwritten_inside xs at bs (k - at) d l (omega arith)
    ∙ sym (get_or_append_left bs cs d (k - at) (omega arith))
    ∙ sym (get_or-overwritten_inside xs at (bs ++ cs) (k - at) d w (omega arith)) ∙ sym (ap (λ j. get_or (overwritten xs at (bs ++ cs)) j d) e))
    (λ later. ⊎_elim
    (λ second.
    let e : k ≡ (at + length bs) + (k - (at + length bs)) = omega arith in
    let f : k ≡ at + (k - at) = omega arith in
    let g : (k - at) - length bs ≡ k - (at + length bs) = omega arith in
    ap (λ j. get_or (overwritten (overwritten xs at bs) (at + length bs) cs) j d) e
    ∙ get_or-overwritten_inside (overwritten xs at bs) (at + length bs) cs (k - (at + length bs)) d v (omega arith)
    ∙ sym (ap (λ j. get_or cs j d) g)
    ∙ sym (get_or-append_right bs cs (length bs) (k - at) d (omega arith) (omega arith))
    ∙ sym (get_or-overwritten_inside xs at (bs ++ cs) (k - at) d w (omega arith)) ∙ sym (ap (λ j. get_or (overwritten xs at (bs ++ cs)) j d) f))
    (λ behind. get_or-overwritten_after (overwritten xs at bs) (at + length bs) cs k d v behind ∙ get_or-overwritten_after xs at bs k d l (omega arith)
    ∙ sym (get_or-overwritten_after xs at (bs ++ cs) k d w (omega arith)))
    (cases_lt k ((at + length bs) + length cs)))
    (cases_lt k (at + length bs)))
    (cases_lt k at))

-- ---- what the code does

-- after a write to `s[a..e]`: k is e - a
pub put_mid-overwritten : (a k : ℕ) (xs ys : List ℕ) → length ys ≡ k → put_mid a k xs ys ≡ overwritten xs a ys
unfolding overwritten
put_mid-overwritten a k xs ys h =
    put_mid-paste a k xs ys ys (length ys) refl h refl ∙ ap (λ zs. take a xs ++ zs ++ drop (a + length ys) xs) (take_all (length ys) ys (omega arith))

-- `&s[i..j]`
pub between-part : (xs : List ℕ) (i j n : ℕ) → j - i ≡ n → take (j - i) (drop i xs) ≡ part xs i n
unfolding part
between-part xs i j n h = ap (λ m. take m (drop i xs)) h

-- what the type of a slice of bytes says
pub AreBytes_fits : (xs : List ℕ) → ((k : ℕ) → Fits w8 (get_or xs k 0)) → AreBytes xs
AreBytes_fits xs h k = omega (arith, (h k).fits)

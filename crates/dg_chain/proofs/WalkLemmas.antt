-- Pages that one root names are the same, or two of them have one digest. A chain passes the check against its own root.
use Rattle.std.proofs.Common.{◌≡◌, ◌≢◌, ◌⊎◌, inl, inr, ℕ, zero, suc, ◌+◌, ◌*◌, ◌<◌, ◌≤◌, ◌==◌, nat_le, Bool, true, false, cond, List, [], ◌∷◌, ◌++◌, length, take, drop, map, Option, Some, None, refl, ap, sym, ◌∙◌, subst, arith, length-append, length-take}
use Rattle.std.proofs.Math.Seq.{drop-append_seam}
use Rattle.std.proofs.lemmas.List.{take-append-le, take-take, take_at}
use Rattle.std.proofs.lemmas.Nat.{from_be_bytes-to_be_bytes_4}
use Rattle.std.specs.List.{range_with_len}
use Rattle.dg_words.proofs.ListLemmas.{length-padded, take-padded_front, length-tabulate}
use Rattle.std.specs.Prelude.{nat_eq}
use Rattle.std.specs.Int.{to_be_bytes, from_be_bytes, w32}
use Rattle.std.proofs.lemmas.Bool.{cases_eq, eq-eqb, eqb-true, and_parts, and_from, le-leb}
use Rattle.sha2.specs.Sha256.{sha256}
use Rattle.dg_words.specs.Lists.{tabulate, padded}
use Rattle.dg_chain.specs.Chain.{piece_size, most_payload, IsPayload, stream_of, pages_of_size, piece, pieces, no_digest, link_to, chained, chain, root_of}
use Rattle.dg_chain.specs.Checking.{field_of, is_same, Break, first_break, payload_length_in, last_field, has_shape, Fine, Misshapen, by_break, answer_of, Collision}

-- ---- byte lists

cons_cases : (x y : ℕ) (xs ys : List ℕ) → (x ≡ y) ⊎ (x ≢ y) → (xs ≡ ys) ⊎ (xs ≢ ys) → (x ∷ xs ≡ y ∷ ys) ⊎ (x ∷ xs ≢ y ∷ ys)
cons_cases x y xs ys (inl p) (inl q) = inl (ap (λ (z : ℕ). z ∷ xs) p ∙ ap (λ (zs : List ℕ). y ∷ zs) q)
cons_cases x y xs ys (inr p) q = inr (λ e. p (let h : x ≡ y = cc in h))
cons_cases x y xs ys (inl p) (inr q) = inr (λ e. q (let h : xs ≡ ys = cc in h))

list_cases : (xs ys : List ℕ) → (xs ≡ ys) ⊎ (xs ≢ ys)
list_cases [] [] = inl refl
list_cases [] (y ∷ ys) = inr (λ e. cc)
list_cases (x ∷ xs) [] = inr (λ e. cc)
list_cases (x ∷ xs) (y ∷ ys) = cons_cases x y xs ys (cases_eq x y) (list_cases xs ys)

pub same_true : (xs ys : List ℕ) → is_same xs ys ≡ true → xs ≡ ys
same_true [] [] e = refl
same_true [] (y ∷ ys) e = cc
same_true (x ∷ xs) [] e = cc
same_true (x ∷ xs) (y ∷ ys) e =
    let parts = and_parts (nat_eq x y) (is_same xs ys) e in
    ap (λ (z : ℕ). z ∷ xs) (eqb-true x y parts.0) ∙ ap (λ (zs : List ℕ). y ∷ zs) (same_true xs ys parts.1)

pub same_refl : (xs : List ℕ) → is_same xs xs ≡ true
same_refl [] = refl
same_refl (x ∷ xs) = and_from (nat_eq x x) (is_same xs xs) (eq-eqb x x refl) (same_refl xs)

-- ---- pages that are linked

-- each page has the digest that is named before it
abbrev pub Linked : List ℕ → List (List ℕ) → Type 0
Linked kept [] = Unit {0}
Linked kept (page ∷ pages) = (sha256 page ≡ kept) × Linked (field_of page) pages

linked_by : (kept : List ℕ) (n : ℕ) (page : List ℕ) (pages : List (List ℕ)) (t : Bool) → is_same (sha256 page) kept ≡ t
    → (first_break (field_of page) (n + 1) pages ≡ None → Linked (field_of page) pages)
    → cond t (first_break (field_of page) (n + 1) pages) (Some (record { page = n; kept = kept; found = sha256 page })) ≡ None → Linked kept (page ∷ pages)
linked_by kept n page pages true e f h = (same_true (sha256 page) kept e, f h)
linked_by kept n page pages false e f h = cc

linked : (kept : List ℕ) (n : ℕ) (pages : List (List ℕ)) → first_break kept n pages ≡ None → Linked kept pages
linked kept n [] h = tt
linked kept n (page ∷ pages) h = linked_by kept n page pages (is_same (sha256 page) kept) refl (linked (field_of page) (n + 1) pages) h

pub unbroken : (kept : List ℕ) (n : ℕ) (pages : List (List ℕ)) → Linked kept pages → first_break kept n pages ≡ None
unbroken kept n [] h = refl
unbroken kept n (page ∷ pages) h =
    ap (λ (t : Bool). cond t (first_break (field_of page) (n + 1) pages) (Some (record { page = n; kept = kept; found = sha256 page })))
    (ap (is_same (sha256 page)) (sym h.0) ∙ same_refl (sha256 page))
    ∙ unbroken (field_of page) (n + 1) pages h.1

-- ---- two lists that one root names

collides_later : (page other : List ℕ) (pages others : List (List ℕ)) → Collision pages others → Collision (page ∷ pages) (other ∷ others)
collides_later page other pages others c =
    let a : c.index < length pages = c.in_pages in
    let b : c.index < length others = c.in_others in
    record { index = suc c.index; page = suc c.page; numbered = omega (arith, c.numbered); in_pages = omega arith; in_others = omega arith; differ = c.differ; one_digest = c.one_digest }

collides_here : (page other : List ℕ) (pages others : List (List ℕ)) → page ≢ other → sha256 page ≡ sha256 other → Collision (page ∷ pages) (other ∷ others)
collides_here page other pages others n e = record { index = zero; page = 1; numbered = refl; in_pages = omega arith; in_others = omega arith; differ = n; one_digest = e }

same_or_collide : (kept : List ℕ) (pages others : List (List ℕ)) → Linked kept pages → Linked kept others → length pages ≡ length others → (pages ≡ others) ⊎ Collision pages others
same_or_collide kept [] [] p q e = inl refl
same_or_collide kept [] (other ∷ others) p q e = absurd (omega arith)
same_or_collide kept (page ∷ pages) [] p q e = absurd (omega arith)
same_or_collide kept (page ∷ pages) (other ∷ others) p q e =
    elim (list_cases page other) [
      | inl same ↦
          let next : Linked (field_of page) others = subst (λ (w : List ℕ). Linked (field_of w) others) (sym same) q.1 in
          elim (same_or_collide (field_of page) pages others p.1 next (omega arith)) [
            | inl rest ↦ inl (ap (λ (w : List ℕ). w ∷ pages) same ∙ ap (λ (ws : List (List ℕ)). other ∷ ws) rest)
            | inr c ↦ inr (collides_later page other pages others c)
          ]
      | inr differ ↦ inr (collides_here page other pages others differ (p.0 ∙ sym q.0))
    ]

-- ---- a chain is linked

abbrev AreFull : List (List ℕ) → Type 0
AreFull [] = Unit {0}
AreFull (p ∷ ps) = (length p ≡ piece_size) × AreFull ps

field_of_link : (p link : List ℕ) → length p ≡ piece_size → field_of (p ++ link) ≡ link
field_of_link p link e = subst (λ (n : ℕ). drop n (p ++ link) ≡ link) e (drop-append_seam p link)

pub chain_linked : (ps : List (List ℕ)) → AreFull ps → Linked (link_to (chained ps)) (chained ps)
unfolding chained
chain_linked [] f = tt
chain_linked (p ∷ ps) f =
    (refl, subst (λ (k : List ℕ). Linked k (chained ps)) (sym (field_of_link p (link_to (chained ps)) f.0)) (chain_linked ps f.1))

length_chained : (ps : List (List ℕ)) → length (chained ps) ≡ length ps
unfolding chained
length_chained [] = refl
length_chained (p ∷ ps) = ap suc (length_chained ps)

last_chained : (ps : List (List ℕ)) → AreFull ps → last_field (chained ps) ≡ no_digest
unfolding chained
last_chained [] f = refl
last_chained (p ∷ []) f = field_of_link p no_digest f.0
last_chained (p ∷ q ∷ ps) f = last_chained (q ∷ ps) f.1

-- ---- the pieces of a payload

length_piece_of : (n : ℕ) (xs : List ℕ) → length (padded n 255 (take n xs)) ≡ n
length_piece_of n xs = length-padded n 255 (take n xs) (omega (arith, length-take n xs))

full_from : (f : ℕ → List ℕ) → ((j : ℕ) → length (f j) ≡ piece_size) → (a n : ℕ) → AreFull (map f (range_with_len a n))
full_from f h a zero = tt
full_from f h a (suc n) = (h a, full_from f h (a + 1) n)

full_pieces : (x : List ℕ) → AreFull (pieces x)
full_pieces x = full_from (piece x) (λ j. length_piece_of piece_size (drop (j * piece_size) (stream_of x))) 0 (pages_of_size (length x))

length_chain : (x : List ℕ) → length (chain x) ≡ pages_of_size (length x)
length_chain x = length_chained (pieces x) ∙ length-tabulate (pages_of_size (length x)) (piece x)

some_pages : (len : ℕ) → 1 ≤ pages_of_size len
some_pages len = omega arith

-- the length that the first page gives
first_told : (f : ℕ → List ℕ) (m : ℕ) → 1 ≤ m → 4 ≤ length (f 0) → payload_length_in (chained (tabulate m f)) ≡ from_be_bytes w32 (take 4 (f 0))
unfolding chained
first_told f zero h l = absurd (omega arith)
first_told f (suc m) h l = ap (from_be_bytes w32) (take-append-le 4 (f 0) (link_to (chained (map f (range_with_len (0 + 1) m)))) l)

four : (n : ℕ) → length (to_be_bytes w32 n) ≡ 4
four n = refl

front_of : (k n : ℕ) (front rest : List ℕ) → length front ≡ k → k ≤ n → take k (padded n 255 (take n (front ++ rest))) ≡ front
front_of k n front rest e h =
    let long : k ≤ length (take n (front ++ rest)) = omega (arith, length-take n (front ++ rest), length-append front rest) in
    take-padded_front n 255 k (take n (front ++ rest)) long ∙ take-take k n (front ++ rest) h ∙ take_at front rest k e

length_told : (x : List ℕ) → IsPayload x → payload_length_in (chain x) ≡ length x
length_told x h =
    let most : length x ≤ most_payload = h.most in
    let long : 4 ≤ length (piece x 0) = omega (arith, length_piece_of piece_size (stream_of x)) in
    first_told (piece x) (pages_of_size (length x)) (some_pages (length x)) long
    ∙ ap (from_be_bytes w32) (front_of 4 piece_size (to_be_bytes w32 (length x)) x (four (length x)) (omega arith))
    ∙ from_be_bytes-to_be_bytes_4 (length x) (omega arith)

-- ---- the answer for a root

fine_by : (o : Option Break) (t : Bool) (pages : List (List ℕ)) (n : ℕ) → has_shape pages ≡ t → by_break o pages ≡ Fine n → (o ≡ None) × (t ≡ true)
fine_by (Some at) t pages n s e = cc
fine_by None true pages n s e = (refl, refl)
fine_by None false pages n s e =
    let miss : Misshapen ≡ Fine n = ap (λ (b : Bool). cond b (Fine (payload_length_in pages)) Misshapen) (sym s) ∙ e in cc

no_shape : has_shape [] ≡ true → ⊥
no_shape e = let h : false ≡ true = e in cc

named_by : (root : List ℕ) (len : ℕ) (pages others : List (List ℕ)) → Linked root pages → Linked root others → payload_length_in others ≡ len → length others ≡ pages_of_size len → length pages ≡ pages_of_size (payload_length_in pages) → (pages ≡ [] → ⊥) → 1 ≤ length others
    → (pages ≡ others) ⊎ Collision pages others
named_by root len [] others p q l m n s t = absurd (s refl)
named_by root len (page ∷ pages) [] p q l m n s t = absurd (omega arith)
named_by root len (page ∷ pages) (other ∷ others) p q l m n s t =
    elim (list_cases page other) [
      | inl same ↦
          let told : payload_length_in (page ∷ pages) ≡ len = ap (λ (w : List ℕ). from_be_bytes w32 (take 4 w)) same ∙ l in
          same_or_collide root (page ∷ pages) (other ∷ others) p q (n ∙ ap pages_of_size told ∙ sym m)
      | inr differ ↦ inr (collides_here page other pages others differ (p.0 ∙ sym q.0))
    ]

pub named : (x : List ℕ) (pages : List (List ℕ)) (n : ℕ) → IsPayload x → answer_of (root_of x) pages ≡ Fine n → (pages ≡ chain x) ⊎ Collision pages (chain x)
unfolding answer_of
named x pages n h e =
    let parts = fine_by (first_break (root_of x) 1 pages) (has_shape pages) pages n refl e in
    let shape = and_parts (nat_le 1 (payload_length_in pages)) _ parts.1 in
    let shape2 = and_parts (nat_le (payload_length_in pages) most_payload) _ shape.1 in
    let shape3 = and_parts (length pages == pages_of_size (payload_length_in pages)) (is_same (last_field pages) no_digest) shape2.1 in
    let count : length pages ≡ pages_of_size (payload_length_in pages) = eqb-true (length pages) (pages_of_size (payload_length_in pages)) shape3.0 in
    let some : 1 ≤ length (chain x) = subst (λ (k : ℕ). 1 ≤ k) (sym (length_chain x)) (some_pages (length x)) in
    named_by (root_of x) (length x) pages (chain x) (linked (root_of x) 1 pages parts.0) (chain_linked (pieces x) (full_pieces x)) (length_told x h) (length_chain x) count
    (λ none. no_shape (ap has_shape (sym none) ∙ parts.1)) some

pub own : (x : List ℕ) → IsPayload x → answer_of (root_of x) (chain x) ≡ Fine (length x)
unfolding answer_of
own x h =
    let told : payload_length_in (chain x) ≡ length x = length_told x h in
    let low : 1 ≤ payload_length_in (chain x) = subst (λ (k : ℕ). 1 ≤ k) (sym told) h.some in
    let high : payload_length_in (chain x) ≤ most_payload = subst (λ (k : ℕ). k ≤ most_payload) (sym told) h.most in
    let count : length (chain x) ≡ pages_of_size (payload_length_in (chain x)) = length_chain x ∙ ap pages_of_size (sym told) in
    let last : is_same (last_field (chain x)) no_digest ≡ true = ap (λ (f : List ℕ). is_same f no_digest) (last_chained (pieces x) (full_pieces x)) ∙ same_refl no_digest in
    let shape : has_shape (chain x) ≡ true =
    and_from (nat_le 1 (payload_length_in (chain x))) _ (le-leb 1 (payload_length_in (chain x)) low)
    (and_from (nat_le (payload_length_in (chain x)) most_payload) _ (le-leb (payload_length_in (chain x)) most_payload high)
    (and_from (length (chain x) == pages_of_size (payload_length_in (chain x))) _ (eq-eqb (length (chain x)) (pages_of_size (payload_length_in (chain x))) count) last)) in
    ap (λ (o : Option Break). by_break o (chain x)) (unbroken (root_of x) 1 (chain x) (chain_linked (pieces x) (full_pieces x)))
    ∙ ap (λ (b : Bool). cond b (Fine (payload_length_in (chain x))) Misshapen) shape
    ∙ ap Fine told

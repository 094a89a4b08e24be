-- Descriptors at the head of a slot and of program memory.
use Rattle.std.proofs.Common.{◌≡◌, ℕ, ◌+◌, ◌-◌, ◌^◌, ◌<◌, ◌≤◌, List, [], length, take, drop, get_or, Result, Ok, Err, refl, sym, ap, subst, ◌∙◌, arith, lit≤}
use Rattle.std.specs.Prelude.{IsOk, IsOkAnd}
use Rattle.std.specs.Int.{from_be_bytes, to_be_bytes, w32}
use Rattle.std.proofs.lemmas.List.{drop-take, take-take, same_lists}
use Rattle.std.proofs.lemmas.Nat.{from_be_bytes-to_be_bytes_4}
use Rattle.dg_words.specs.Lists.{tabulate}
use Rattle.dg_words.specs.Cells.{part}
use Rattle.dg_words.proofs.CellLemmas.{part-part}
use Rattle.dg_words.proofs.ListLemmas.{length-tabulate, get_or-tabulate}
use Rattle.dg_object.specs.Sizes.{head_size}
use Rattle.dg_object.specs.Descriptor.{Details, IsHead, IsDescriptor}
use Rattle.dg_object.proofs.RestLemmas.{head_of_descriptor}
use Rattle.dg_slot.specs.Layout.{page_size}
use Rattle.dg_volume.specs.Start.{length_in}

pub ok_of : {T E : Type 0} (P : T → Type 0) (r : Result T E) → IsOkAnd r P → IsOk r
ok_of P (Ok x) h = refl
ok_of P (Err e) h = absurd h

pub ok_value : {T E : Type 0} (P : T → Type 0) (r : Result T E) (x : T) → r ≡ Ok x → IsOkAnd r P → P x
ok_value P (Ok y) x e h = let same : y ≡ x = cc in subst P same h
ok_value P (Err e) x same h = absurd h

-- the first bytes of a sector that holds a descriptor are its head
pub descriptor_head : (cells : List ℕ) (d : Details) → page_size ≤ length cells → IsDescriptor (part cells 0 page_size) d → IsHead (part cells 0 head_size) d
descriptor_head cells d long h =
    let first : part (part cells 0 page_size) 0 head_size ≡ part cells 0 head_size = part-part cells 0 page_size 0 head_size (omega arith) (omega arith) in
    subst (λ (x : List ℕ). IsHead x d) first (head_of_descriptor (part cells 0 page_size) d h)

-- the cells from b to a + b are within the first c
take-drop-take : (xs : List ℕ) (a b c : ℕ) → a + b ≤ c → take a (drop b (take c xs)) ≡ take a (drop b xs)
take-drop-take xs a b c h =
    let place : b + (c - b) ≡ c = omega (arith, h) in
    ap (λ n. take a (drop b (take n xs))) (sym place) ∙ ap (take a) (drop-take b (c - b) xs) ∙ take-take a (c - b) (drop b xs) (omega (arith, h))

-- the length of an image is in bytes 8 to 11 of its descriptor
pub length_in-descriptor : (page : List ℕ) (d : Details) → IsDescriptor page d → length_in page ≡ d.length
unfolding length_in
length_in-descriptor page d described =
    let cells : take 4 (drop 8 page) ≡ to_be_bytes w32 d.length = sym (take-drop-take page 4 8 head_size (lit≤ tt)) ∙ ap (λ h. take 4 (drop 8 h)) described.head.spelled in
    let small : d.length < 2 ^ 32 = omega (arith, described.head.range.fits) in
    ap (from_be_bytes w32) cells ∙ from_be_bytes-to_be_bytes_4 d.length small

-- the first of at least one page
pub first_of : (f : ℕ → List ℕ) (n : ℕ) → 0 < n → get_or (tabulate n f) 0 [] ≡ f 0
first_of f n some = get_or-tabulate n 0 f [] some

pub same_tables : {A : Type 0} (n : ℕ) (f g : ℕ → A) → ((k : ℕ) → k < n → f k ≡ g k) → tabulate n f ≡ tabulate n g
same_tables n f g h = same_lists (tabulate n f) (tabulate n g) (length-tabulate n f ∙ sym (length-tabulate n g)) (λ k d l.
    let lt : k < n = omega (arith, length-tabulate n f) in
    get_or-tabulate n k f d lt ∙ h k lt ∙ sym (get_or-tabulate n k g d lt))

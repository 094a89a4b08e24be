-- A file that is written is read back.
use Rattle.std.proofs.Common.{◌≡◌, ℕ, zero, suc, ◌+◌, ◌-◌, ◌<◌, ◌≤◌, ◌^◌, ◌||◌, inl, inr, false, List, [], ◌∷◌, ◌++◌, length, Option, Some, None, is_some, unwrap_or, refl, sym, ap, ◌∙◌, subst, arith}
use Rattle.std.specs.Prelude.{slice_get}
use Rattle.std.specs.List.{list_any, range_with_len}
use Rattle.std.specs.Option.{option_or}
use Rattle.std.proofs.lemmas.Bool.{cases_lt, cases_eq}
use Rattle.std.proofs.lemmas.Option.{unwrap_or-slice_get, slice_get_past, slice_get-get_or}
use Rattle.std.proofs.lemmas.List.{get_or_append_left, length-append}
use Rattle.std.proofs.lemmas.List.FromFn.{fill_by_all}
use Rattle.dg_ihex.specs.Sizes.{longest_image}
use Rattle.dg_ihex.specs.Blocks.{Block, block_byte, byte_at, overlaps, lowest_of, past_blocks, span_of, image_of_blocks}
use Rattle.dg_ihex.specs.inner.Words.{is_given}
use Rattle.dg_ihex.proofs.BlockLemmas.{block_byte-inside, byte_at-more, lowest_of-more, past_of-more}
use Rattle.dg_ihex.proofs.WindowLemmas.{none_behind}

-- ---- blocks that lay an image from address 0 on

pub record Lays (blocks : List Block) (image : List ℕ) : Type 0 where
  pub bytes : (a : ℕ) → byte_at blocks a ≡ slice_get image a
  pub low : 0 < length image → lowest_of blocks ≡ 0
  pub past : past_blocks blocks ≡ length image

pub lays_nothing : Lays [] []
unfolding byte_at past_blocks
lays_nothing = record { bytes = λ a. refl; low = λ some. absurd (omega arith); past = refl }

behind_front : (front back : List ℕ) (a k : ℕ) → a ≡ length front + k → slice_get (front ++ back) a ≡ slice_get back k
behind_front [] back a k h = ap (slice_get back) (let e : a ≡ k = omega arith in e)
behind_front (x ∷ front) back zero k h = absurd (omega arith)
behind_front (x ∷ front) back (suc a) k h = behind_front front back a k (omega arith)

slice_get-append : (front back : List ℕ) (a : ℕ) → slice_get (front ++ back) a ≡ option_or (slice_get front a) (block_byte (record { address = length front; bytes = back }) a)
slice_get-append front back a =
    let block : Block = record { address = length front; bytes = back } in
    elim (cases_lt a (length front)) [
      | inl before ↦
          slice_get-get_or (front ++ back) a 0 (omega (arith, length-append front back)) ∙ ap Some (get_or_append_left front back 0 a before)
          ∙ ap (λ o. option_or o (block_byte block a)) (sym (slice_get-get_or front a 0 before))
      | inr behind ↦
          let there : length front + (a - length front) ≡ a = omega arith in
          behind_front front back a (a - length front) (sym there) ∙ sym (block_byte-inside block (a - length front)) ∙ ap (block_byte block) there
          ∙ ap (λ o. option_or o (block_byte block a)) (sym (slice_get_past front a behind))
    ]

option_or-assoc : (o p : Option ℕ) → option_or o (option_or p None) ≡ option_or o p
option_or-assoc None None = refl
option_or-assoc None (Some y) = refl
option_or-assoc (Some x) p = refl

pub lays_more : (blocks : List Block) (image bytes : List ℕ) (block : Block) → Lays blocks image → block ≡ record { address = length image; bytes = bytes } → length image < 2 ^ 32
    → Lays (blocks ++ block ∷ []) (image ++ bytes)
lays_more blocks image bytes block h is fits =
    let next : Block = record { address = length image; bytes = bytes } in
    let low = lowest_of-more blocks next fits in
    let high = past_of-more blocks next in
    subst (λ (b : Block). Lays (blocks ++ b ∷ []) (image ++ bytes)) (sym is) (record {
      bytes = λ a.
          byte_at-more blocks next a ∙ ap (λ o. option_or o (option_or (block_byte next a) None)) (h.bytes a)
          ∙ option_or-assoc (slice_get image a) (block_byte next a) ∙ sym (slice_get-append image bytes a);
      low = λ some. elim (cases_eq (length image) 0) [
        | inl nothing ↦ omega (arith, low, nothing)
        | inr something ↦ (let before = h.low (omega arith) in omega (arith, low, before))
      ];
      past = omega (arith, high, h.past, length-append image bytes);
    })

-- the addresses after them are free
none_given : (blocks : List Block) (n a : ℕ) → past_blocks blocks ≤ a → list_any (is_given blocks) (range_with_len a n) ≡ false
none_given blocks zero a behind = refl
none_given blocks (suc n) a behind =
    ap (λ o. is_some o || list_any (is_given blocks) (range_with_len (a + 1) n)) (sym (none_behind blocks a behind)) ∙ none_given blocks n (a + 1) (omega arith)

pub lays_free : (blocks : List Block) (image bytes : List ℕ) (block : Block) → Lays blocks image → block ≡ record { address = length image; bytes = bytes } → overlaps blocks block ≡ false
lays_free blocks image bytes block h is =
    subst (λ (b : Block). overlaps blocks b ≡ false) (sym is) (none_given blocks (length bytes) (length image) (omega (arith, h.past)))

pub lays_within : (blocks : List Block) (image : List ℕ) → Lays blocks image → length image ≤ longest_image → span_of blocks ≤ longest_image
lays_within blocks image h fits = omega (arith, h.past)

-- their image
pub lays_image : (blocks : List Block) (image : List ℕ) → Lays blocks image → 0 < length image → image_of_blocks blocks ≡ image
unfolding image_of_blocks
lays_image blocks image h some =
    let low = h.low some in
    let span : length image ≡ span_of blocks = omega (arith, h.past, low) in
    sym (fill_by_all (λ k. unwrap_or (byte_at blocks (lowest_of blocks + k)) 255) image (span_of blocks) 255 span
    (λ k within.
    let there : lowest_of blocks + k ≡ k = omega (arith, low) in
    sym (unwrap_or-slice_get image k 255) ∙ ap (λ o. unwrap_or o 255) (sym (ap (byte_at blocks) there ∙ h.bytes k))))

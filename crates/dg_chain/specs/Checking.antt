-- What a check of the pages of a slot against a root gives: the payload's length, the first page that isn't the one named
-- before it, or that they have another shape (docs/COMMANDS.md, "Hash-chained images").
use Rattle.std.specs.Prelude.{◌≡◌, ◌≢◌, ℕ, ◌+◌, ◌<◌, ◌==◌, ◌&&◌, nat_le, nat_eq, Bool, if◌then◌else◌, List, [], ◌∷◌, length, map}
use Rattle.std.specs.Prelude.{take, drop, slice_index_or, Option, Some, None}
use Rattle.std.specs.List.{range_with_len}
use Rattle.std.specs.Cmp.Lexicographic.{pointwise}
use Rattle.std.specs.Int.{from_be_bytes, w32}
use Rattle.sha2.specs.Sha256.{sha256}
use Rattle.dg_slot.specs.Layout.{page_sector}
use Rattle.dg_slot.specs.Pages.{page_in}
use Rattle.dg_chain.specs.Chain.{piece_size, most_payload, no_digest, pages_of_size}

-- the digest that a page carries
abbrev pub field_of : List ℕ → List ℕ
field_of page = drop piece_size page

-- n data pages of a slot, from this one on
abbrev pub pages_on : List ℕ → (image from n : ℕ) → List (List ℕ)
pages_on c image from n = map (λ p. page_in c (page_sector image p)) (range_with_len from n)

-- the first n data pages of a slot
abbrev pub data_pages : List ℕ → (image n : ℕ) → List (List ℕ)
data_pages c image n = pages_on c image 1 n

-- two byte lists are the same
abbrev pub is_same : List ℕ → List ℕ → Bool
is_same = pointwise nat_eq

-- the number of a page in its slot, the digest that is kept of it, and the one that it has
pub record Break : Type 0 where
  pub page : ℕ
  pub kept : List ℕ
  pub found : List ℕ

-- the first page that isn't the one named before it, from page number n on
abbrev pub first_break : (kept : List ℕ) → ℕ → List (List ℕ) → Option Break
first_break kept n [] = None
first_break kept n (page ∷ pages) =
    if is_same (sha256 page) kept then first_break (field_of page) (n + 1) pages
    else Some (record { page = n; kept = kept; found = sha256 page })

-- the length that the first page gives
abbrev pub payload_length_in : List (List ℕ) → ℕ
payload_length_in [] = 0
payload_length_in (page ∷ pages) = from_be_bytes w32 (take 4 page)

-- the digest that the last page carries
abbrev pub last_field : List (List ℕ) → List ℕ
last_field [] = no_digest
last_field (page ∷ []) = field_of page
last_field (page ∷ next ∷ pages) = last_field (next ∷ pages)

abbrev pub has_shape : List (List ℕ) → Bool
has_shape pages =
    nat_le 1 (payload_length_in pages) && (nat_le (payload_length_in pages) most_payload
    && ((length pages == pages_of_size (payload_length_in pages)) && is_same (last_field pages) no_digest))

pub data Answer : Type 0 where
  Fine : (length : ℕ) → Answer
  Broken : (at : Break) → Answer
  Misshapen : Answer

abbrev pub by_break : Option Break → List (List ℕ) → Answer
by_break (Some at) pages = Broken at
by_break None pages = if has_shape pages then Fine (payload_length_in pages) else Misshapen

-- the answer for the data pages of a slot, of which the first is page 1
unfoldable pub answer_of : (root : List ℕ) → List (List ℕ) → Answer
answer_of root pages = by_break (first_break root 1 pages) pages

-- a page of the one and a page of the other at the same index differ, and have one digest
pub record Collision (pages others : List (List ℕ)) : Type 0 where
  pub index : ℕ
  -- the page's number in its slot
  pub page : ℕ
  pub numbered : page ≡ index + 1
  pub in_pages : index < length pages
  pub in_others : index < length others
  pub differ : slice_index_or pages index [] ≢ slice_index_or others index []
  pub one_digest : sha256 (slice_index_or pages index []) ≡ sha256 (slice_index_or others index [])

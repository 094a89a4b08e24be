-- Records one by one.
use Rattle.std.proofs.Common.{◌≡◌, ℕ, ◌+◌, ◌<◌, ◌≤◌, ◌||◌, ◌==◌, nat_lt, Bool, true, false, List, [], ◌∷◌, ◌++◌, length, Option, None, Result, Ok, Err, fold, append_assoc, refl, sym, ap, ◌∙◌, subst, arith}
use Rattle.std.specs.Prelude.{⊤}
use Rattle.std.proofs.lemmas.Bool.Decides.{nat_tests}
use Rattle.std.proofs.lemmas.List.{append-nil}
use Rattle.std.proofs.lemmas.List.Concat.{flat_map-append}
use Rattle.std.proofs.lemmas.List.Folds.{list_any-append}
use Rattle.std.proofs.lemmas.List.Sums.{fold-append}
use Rattle.dg_ihex.specs.declared.faults.HexCause.{HexCause}
use Rattle.dg_ihex.specs.declared.faults.HexCause.TheVariants.{Memory}
use Rattle.dg_ihex.specs.declared.record.Record.{Record}
use Rattle.dg_ihex.specs.declared.record.Record.TheVariants as records
use Rattle.dg_ihex.specs.Sizes.{longest_image}
use Rattle.dg_ihex.specs.Blocks.{Block, overlaps, span_of}
use Rattle.dg_ihex.specs.Files.{base_behind, base_of, block_of, blocks_over, blocks_of, is_end, has_end, first_cause, cause_of_blocks, cause_behind, record_in, records_of, judged, cause_of}
use Rattle.dg_ihex.specs.inner.Words.{to_list}
use Rattle.dg_ihex.specs.Records.{record_of}
use Rattle.dg_ihex.specs.Reading.{Refuses, RefusesLine, ReaderSteps}

-- ---- one more record

pub base_of-more : (before : List Record) (next : Record) → base_of (before ++ next ∷ []) ≡ base_behind (base_of before) next
base_of-more before next = fold-append base_behind 0 before (next ∷ [])

blocks_over-more : (base : ℕ) (before : List Record) (next : Record) → blocks_over base (before ++ next ∷ []) ≡ blocks_over base before ++ block_of (fold base_behind base before) next
blocks_over-more base [] next = append-nil (block_of base next)
blocks_over-more base (first ∷ before) next =
    ap (λ t. block_of base first ++ t) (blocks_over-more (base_behind base first) before next)
    ∙ sym (append_assoc (block_of base first) (blocks_over (base_behind base first) before) (block_of (fold base_behind (base_behind base first) before) next))

pub blocks_of-more : (before : List Record) (next : Record) → blocks_of (before ++ next ∷ []) ≡ blocks_of before ++ block_of (base_of before) next
unfolding blocks_of
blocks_of-more before next = blocks_over-more 0 before next

or_false : (b : Bool) → (b || false) ≡ b
or_false true = refl
or_false false = refl

pub has_end-more : (before : List Record) (next : Record) → has_end (before ++ next ∷ []) ≡ (has_end before || is_end next)
has_end-more before next = list_any-append is_end before (next ∷ []) ∙ ap (λ b. has_end before || b) (or_false (is_end next))

pub records_of-more : (before : List (List ℕ)) (text : List ℕ) → records_of (before ++ text ∷ []) ≡ records_of before ++ record_in text
records_of-more before text = flat_map-append record_in before (text ∷ []) ∙ ap (λ t. records_of before ++ t) (append-nil (record_in text))

-- ---- what is wrong with a record

within : (n : ℕ) → n ≤ longest_image → nat_lt longest_image n ≡ false
within n h = grind (arith, nat_tests)

beyond : (n : ℕ) → longest_image < n → nat_lt longest_image n ≡ true
beyond n h = grind (arith, nat_tests)

-- a record that gives no byte
pub no_byte : (before : List Record) (next : Record) (end : Bool) → block_of (base_of before) next ≡ [] → span_of (blocks_of before) ≤ longest_image → has_end before ≡ end
    → cause_behind before next ≡ first_cause false false end
unfolding cause_behind
no_byte before next end none close h =
    ap (λ own. cause_of_blocks (blocks_of before) own (has_end before)) none
    ∙ ap (λ t. first_cause false t (has_end before)) (within (span_of (blocks_of before ++ [])) (subst (λ t. span_of t ≤ longest_image) (sym (append-nil (blocks_of before))) close))
    ∙ ap (first_cause false false) h

-- a record that gives a block
pub with_block : (before : List Record) (next : Record) (block : Block) (overlap span end : Bool) → block_of (base_of before) next ≡ block ∷ []
    → overlaps (blocks_of before) block ≡ overlap → nat_lt longest_image (span_of (blocks_of before ++ block ∷ [])) ≡ span → has_end before ≡ end
    → cause_behind before next ≡ first_cause overlap span end
unfolding cause_behind
with_block before next block overlap span end own p q r =
    ap (λ own. cause_of_blocks (blocks_of before) own (has_end before)) own
    ∙ ap (λ t. first_cause t (nat_lt longest_image (span_of (blocks_of before ++ block ∷ []))) (has_end before)) (or_false (overlaps (blocks_of before) block) ∙ p)
    ∙ ap (λ t. first_cause overlap t (has_end before)) q ∙ ap (first_cause overlap span) r

-- ---- the state after a record

pub blocks_same : (before : List Record) (next : Record) → block_of (base_of before) next ≡ [] → blocks_of before ≡ blocks_of (before ++ next ∷ [])
blocks_same before next none = sym (blocks_of-more before next ∙ ap (λ t. blocks_of before ++ t) none ∙ append-nil (blocks_of before))

pub blocks_next : (before : List Record) (next : Record) (block : Block) → block_of (base_of before) next ≡ block ∷ [] → blocks_of before ++ block ∷ [] ≡ blocks_of (before ++ next ∷ [])
blocks_next before next block own = sym (blocks_of-more before next ∙ ap (λ t. blocks_of before ++ t) own)

pub end_same : (before : List Record) (next : Record) (end : Bool) → end ≡ has_end before → is_end next ≡ false → end ≡ has_end (before ++ next ∷ [])
end_same before next end h other = h ∙ sym (has_end-more before next ∙ ap (λ b. has_end before || b) other ∙ or_false (has_end before))

or_true : (b : Bool) → (b || true) ≡ true
or_true true = refl
or_true false = refl

pub end_now : (before : List Record) → true ≡ has_end (before ++ records.End ∷ [])
end_now before = sym (has_end-more before records.End ∙ or_true (has_end before))

pub base_next : (before : List Record) (next : Record) (old new : ℕ) → old ≡ base_of before → base_behind old next ≡ new → new ≡ base_of (before ++ next ∷ [])
base_next before next old new h is = sym is ∙ ap (λ b. base_behind b next) h ∙ sym (base_of-more before next)

-- data of no bytes
pub empty_data : (bytes : List ℕ) → length bytes ≡ 0 → bytes ≡ []
empty_data [] h = refl
empty_data (byte ∷ bytes) h = absurd (omega arith)

-- data of some bytes is a block
pub data_block : (base offset address : ℕ) (bytes : List ℕ) → address ≡ base + offset → 0 < length bytes → block_of base (records.Data offset bytes) ≡ record { address = address; bytes = bytes } ∷ []
data_block base offset address [] is some = absurd (omega arith)
data_block base offset address (byte ∷ bytes) is some = ap (λ a. let block : Block = record { address = a; bytes = byte ∷ bytes } in block ∷ []) (sym is)

pub some_bytes : (n : ℕ) (empty : Bool) → empty ≡ (n == 0) → empty ≡ false → 0 < n
some_bytes n empty is not = grind (arith, nat_tests)

pub no_bytes : (bytes : List ℕ) (empty : Bool) → empty ≡ (length bytes == 0) → empty ≡ true → bytes ≡ []
no_bytes bytes empty is sure = empty_data bytes (grind (arith, nat_tests))

pub span_fits : (n m : ℕ) → n ≡ m → n ≤ longest_image → nat_lt longest_image m ≡ false
span_fits n m is h = within m (omega arith)

pub span_exceeds : (n m : ℕ) → n ≡ m → longest_image < n → nat_lt longest_image m ≡ true
span_exceeds n m is h = beyond m (omega arith)

-- ---- lines

pub blank_line : (before : List (List ℕ)) (text : List ℕ) → text ≡ [] → (cause_of before text ≡ None) × (records_of before ≡ records_of (before ++ text ∷ []))
blank_line before text h =
    (ap (cause_of before) h, sym (records_of-more before text ∙ ap (λ t. records_of before ++ record_in t) h ∙ append-nil (records_of before)))

judged_line : (before : List (List ℕ)) (text : List ℕ) → 0 < length text → (cause_of before text ≡ judged (records_of before) (record_of text)) × (record_in text ≡ to_list (record_of text))
judged_line before [] some = absurd (omega arith)
judged_line before (c ∷ text) some = (refl, refl)

pub record_line : (before : List (List ℕ)) (text : List ℕ) (next : Record) → 0 < length text → record_of text ≡ Ok next
    → (cause_of before text ≡ cause_behind (records_of before) next) × (records_of before ++ next ∷ [] ≡ records_of (before ++ text ∷ []))
record_line before text next some h =
    let j = judged_line before text some in
    (j.0 ∙ ap (judged (records_of before)) h, sym (records_of-more before text ∙ ap (λ t. records_of before ++ t) (j.1 ∙ ap to_list h)))

pub refused_line : (before : List (List ℕ)) (text : List ℕ) (cause : HexCause) → 0 < length text → Refuses cause (record_of text) → RefusesLine cause (cause_of before text)
refused_line before text Memory some h = tt
refused_line before text cause some h = (judged_line before text some).0 ∙ ap (judged (records_of before)) h

pub steps_moved : {A : Type 0} (r : Result A HexCause) (d e : Option HexCause) (P Q : Type 0) → e ≡ d → (P → Q) → ReaderSteps r d P → ReaderSteps r e Q
steps_moved (Ok x) d e P Q same move h = (same ∙ h.0, move h.1)
steps_moved (Err cause) d e P Q same move h = subst (RefusesLine cause) (sym same) h

-- what a record that gives no byte leaves
pub steps_open : {A : Type 0} (r : Result A HexCause) (before : List Record) (next : Record) (end : Bool) (After : Type 0) → block_of (base_of before) next ≡ [] → span_of (blocks_of before) ≤ longest_image → has_end before ≡ end
    → After → ReaderSteps r (first_cause false false end) ⊤ → ReaderSteps r (cause_behind before next) After
steps_open r before next end After none close h after s = steps_moved r (first_cause false false end) (cause_behind before next) ⊤ After (no_byte before next end none close h) (λ _. after) s

-- the refusal of a record after the end
pub refused_end : (cause : HexCause) (before : List Record) (next : Record) (end : Bool) → cause_behind before next ≡ first_cause false false end → RefusesLine cause (first_cause false false end) → RefusesLine cause (cause_behind before next)
refused_end cause before next end is h = subst (RefusesLine cause) (sym is) h

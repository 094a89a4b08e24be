-- The first fault of a file, and its image.
use Rattle.std.proofs.Common.{◌≡◌, ℕ, ◌+◌, ◌-◌, ◌<◌, ◌≤◌, inl, inr, nat_lt, Bool, true, false, cond, List, [], ◌∷◌, ◌++◌, length, get_or, take, Option, Some, None, unwrap_or, Result, Ok, Err, append_assoc, refl, sym, ap, ◌∙◌, subst, arith}
use Rattle.std.specs.Prelude.{slice_get}
use Rattle.std.specs.Str.Lines.{lines}
use Rattle.std.proofs.lemmas.Bool.{cases_eq}
use Rattle.std.proofs.lemmas.Bool.Decides.{nat_tests}
use Rattle.std.proofs.lemmas.Option.{slice_get-get_or}
use Rattle.std.proofs.lemmas.List.{append-nil, get_or_at, length_push, length-append, take_at}
use Rattle.dg_words.specs.Lists.{tabulate}
use Rattle.dg_words.proofs.ListLemmas.{length-tabulate, get_or-tabulate}
use Rattle.dg_ihex.specs.declared.faults.HexCause.{HexCause}
use Rattle.dg_ihex.specs.declared.faults.HexCause.TheVariants.{End}
use Rattle.dg_ihex.specs.declared.faults.HexFileFault.{HexFileFault}
use Rattle.dg_ihex.specs.Blocks.{Block, byte_at, image_of_blocks, lowest_of, past_blocks, span_of}
use Rattle.dg_ihex.specs.Files.{blocks_of, cause_of, ended, fault_behind, file_from, has_end, hex_file, records_of, unless}
use Rattle.dg_ihex.specs.Laws.{IsFirstFault, fault_behind_lines}
use Rattle.dg_ihex.proofs.BlockLemmas.{byte_at-within}

-- ---- faults

below : (m n : ℕ) → m < n → nat_lt m n ≡ true
below m n h = grind (arith, nat_tests)

not_below : (m n : ℕ) → n ≤ m → nat_lt m n ≡ false
not_below m n h = grind (arith, nat_tests)

-- what is wrong with the line after some lines, and after all lines
line_fault : (before : List (List ℕ)) (text : List ℕ) (texts : List (List ℕ)) → fault_behind_lines (before ++ text ∷ texts) (length before) ≡ cause_of before text
unfolding fault_behind_lines
line_fault before text texts =
    let all = before ++ text ∷ texts in
    let n = length before in
    ap (λ t. cond t (cause_of (take n all) (get_or all n [])) (cond (has_end (records_of all)) None (Some End))) (below n (length all) (omega (arith, length-append before (text ∷ texts))))
    ∙ ap (λ front. cause_of front (get_or all n [])) (take_at before (text ∷ texts) n refl)
    ∙ ap (cause_of before) (get_or_at before text texts [] n refl)

end_fault : (texts : List (List ℕ)) (n : ℕ) → length texts ≤ n → fault_behind_lines texts n ≡ cond (has_end (records_of texts)) None (Some End)
unfolding fault_behind_lines
end_fault texts n h =
    ap (λ t. cond t (cause_of (take n texts) (get_or texts n [])) (cond (has_end (records_of texts)) None (Some End))) (not_below n (length texts) h)

-- no fault comes after fewer than m lines
abbrev Clean : List (List ℕ) → ℕ → Type 0
Clean texts m = (n : ℕ) → n < m → fault_behind_lines texts n ≡ None

clean_more : (texts : List (List ℕ)) (m : ℕ) → Clean texts m → fault_behind_lines texts m ≡ None → Clean texts (m + 1)
clean_more texts m clean here n h = elim (cases_eq n m) [ inl same ↦ ap (fault_behind_lines texts) same ∙ here | inr other ↦ clean n (omega arith) ]

fault_of : (before : List (List ℕ)) (cause : HexCause) (fault : HexFileFault) → fault_behind before cause ≡ Err fault → (fault.line ≡ length before + 1) × (cause ≡ fault.cause)
fault_of before cause fault h = let e : record { line = length before + 1; cause = cause } ≡ fault = cc in (sym (ap (λ f. f.line) e), ap (λ f. f.cause) e)

-- what a file gives, and what is found in it
pub record Found (texts : List (List ℕ)) (given : Result (List ℕ) HexFileFault) : Type 0 where
  pub fault : (f : HexFileFault) → given ≡ Err f → IsFirstFault texts f
  pub sound : (image : List ℕ) → given ≡ Ok image → Clean texts (length texts + 1)
  pub image : (image : List ℕ) → given ≡ Ok image → image ≡ image_of_blocks (blocks_of (records_of texts))

found_end : (texts : List (List ℕ)) (end : Bool) → has_end (records_of texts) ≡ end → Clean texts (length texts)
    → Found texts (cond end (Ok (image_of_blocks (blocks_of (records_of texts)))) (fault_behind texts End))
found_end texts true h clean = record {
  fault = λ f e. (let b : ⊥ = cc in absurd b);
  sound = λ image e. clean_more texts (length texts) clean (end_fault texts (length texts) (omega arith) ∙ ap (λ t. cond t None (Some End)) h);
  image = λ image e. (let same : image_of_blocks (blocks_of (records_of texts)) ≡ image = cc in sym same);
}
found_end texts false h clean = record {
  fault = λ f e.
      let is = fault_of texts End f e in
      record {
        behind = length texts;
        line = is.0;
        within = omega arith;
        there = end_fault texts (length texts) (omega arith) ∙ ap (λ t. cond t None (Some End)) h ∙ ap Some is.1;
        first = clean;
      };
  sound = λ image e. (let b : ⊥ = cc in absurd b);
  image = λ image e. (let b : ⊥ = cc in absurd b);
}

found_line : (before : List (List ℕ)) (text : List ℕ) (texts : List (List ℕ)) (o : Option HexCause) (rest : Result (List ℕ) HexFileFault) → cause_of before text ≡ o
    → Clean (before ++ text ∷ texts) (length before) → (o ≡ None → Found (before ++ text ∷ texts) rest) → Found (before ++ text ∷ texts) (unless o before rest)
found_line before text texts None rest h clean more = more refl
found_line before text texts (Some cause) rest h clean more = record {
  fault = λ f e.
      let is = fault_of before cause f e in
      record {
        behind = length before;
        line = is.0;
        within = omega (arith, length-append before (text ∷ texts));
        there = line_fault before text texts ∙ h ∙ ap Some is.1;
        first = clean;
      };
  sound = λ image e. (let b : ⊥ = cc in absurd b);
  image = λ image e. (let b : ⊥ = cc in absurd b);
}

found_from : (before texts : List (List ℕ)) → Clean (before ++ texts) (length before) → Found (before ++ texts) (file_from before texts)
unfolding file_from
found_from before [] clean =
    let all : before ++ [] ≡ before = append-nil before in
    subst (λ ts. Found ts (ended before)) (sym all) (found_end before (has_end (records_of before)) refl (subst (λ ts. Clean ts (length before)) all clean))
found_from before (text ∷ texts) clean =
    let whole = before ++ text ∷ texts in
    let same : (before ++ text ∷ []) ++ texts ≡ whole = append_assoc before (text ∷ []) texts in
    found_line before text texts (cause_of before text) (file_from (before ++ text ∷ []) texts) refl clean
    (λ fine.
    let next : Clean whole (length (before ++ text ∷ [])) = subst (Clean whole) (sym (length_push before text)) (clean_more whole (length before) clean (line_fault before text texts ∙ fine)) in
    subst (λ ts. Found ts (file_from (before ++ text ∷ []) texts)) same (found_from (before ++ text ∷ []) texts (subst (λ ts. Clean ts (length (before ++ text ∷ []))) (sym same) next)))

pub found : (bytes : List ℕ) → Found (lines bytes) (hex_file bytes)
unfolding hex_file
found bytes = found_from [] (lines bytes) (λ n h. absurd (omega arith))

-- ---- images

image_at : (blocks : List Block) (address : ℕ) → lowest_of blocks ≤ address → address < past_blocks blocks → slice_get (image_of_blocks blocks) (address - lowest_of blocks) ≡ Some (unwrap_or (byte_at blocks address) 255)
unfolding image_of_blocks
image_at blocks address low high =
    let f : ℕ → ℕ = λ k. unwrap_or (byte_at blocks (lowest_of blocks + k)) 255 in
    let k = address - lowest_of blocks in
    let there : lowest_of blocks + k ≡ address = omega arith in
    slice_get-get_or (tabulate (span_of blocks) f) k 0 (omega (arith, length-tabulate (span_of blocks) f)) ∙ ap Some (get_or-tabulate (span_of blocks) k f 0 (omega arith))
    ∙ ap (λ a. Some (unwrap_or (byte_at blocks a) 255)) there

pub image_given : (blocks : List Block) (address byte : ℕ) → byte_at blocks address ≡ Some byte → slice_get (image_of_blocks blocks) (address - lowest_of blocks) ≡ Some byte
image_given blocks address byte h =
    let w = byte_at-within blocks address byte h in
    image_at blocks address w.0 w.1 ∙ ap (λ o. Some (unwrap_or o 255)) h

pub image_gap : (blocks : List Block) (address : ℕ) → lowest_of blocks ≤ address → address < past_blocks blocks → byte_at blocks address ≡ None → slice_get (image_of_blocks blocks) (address - lowest_of blocks) ≡ Some 255
image_gap blocks address low high h = image_at blocks address low high ∙ ap (λ o. Some (unwrap_or o 255)) h

pub length-image_of : (blocks : List Block) → length (image_of_blocks blocks) ≡ past_blocks blocks - lowest_of blocks
unfolding image_of_blocks
length-image_of blocks = length-tabulate (span_of blocks) (λ k. unwrap_or (byte_at blocks (lowest_of blocks + k)) 255)

-- Prefixes of a text that was to be appended.
use Rattle.std.proofs.Common.{◌≡◌, ℕ, zero, suc, ◌<◌, ◌≤◌, List, [], ◌∷◌, ◌++◌, length, take, drop, get_or, append_assoc, Result, Ok, Err, OnErr, refl, sym, ap, ◌∙◌, subst, arith}
use Rattle.std.proofs.lemmas.List.{length-take, take-append-le}
use Rattle.std.proofs.Math.Seq.{take-append_seam}
use Rattle.dg_lines.specs.Fields.{field_text, fields_text, IsPrefixOf}
use Rattle.dg_lines.specs.declared.spelling.Field.{Field}

-- if a result is an error, one fact follows from another
pub on_err : {T E P Q : Type 0} (r : Result T E) → (P → Q) → OnErr r P → OnErr r Q
on_err (Ok x) f h = tt
on_err (Err e) f h = f h

-- a fact that holds in any case
pub any_err : {T E Q : Type 0} (r : Result T E) → Q → OnErr r Q
any_err (Ok x) h = tt
any_err (Err e) h = h

-- nothing was appended
pub front_none : (before after text : List ℕ) → after ≡ before → IsPrefixOf after (before ++ text)
front_none before after text e =
    let P : List ℕ → Type 0 = λ xs. IsPrefixOf xs (before ++ text) in
    subst P (sym e) (take-append_seam before text)

-- a prefix of the first part
pub front_first : (whole after more : List ℕ) → IsPrefixOf after whole → IsPrefixOf after (whole ++ more)
front_first whole after more h =
    let short : length after ≤ length whole = omega (arith, ap length h, length-take (length after) whole) in
    take-append-le (length after) whole more short ∙ h

-- the text of fields: of those before one of them, of that one, and of those after it
fields_split : (fields : List Field) (i : ℕ) (d : Field) → i < length fields
    → fields_text fields ≡ fields_text (take i fields) ++ ((32 ∷ field_text (get_or fields i d)) ++ fields_text (drop (suc i) fields))
fields_split [] i d h = absurd (omega (arith, h))
fields_split (f ∷ fs) zero d h = refl
fields_split (f ∷ fs) (suc i) d h =
    ap (λ (xs : List ℕ). (32 ∷ field_text f) ++ xs) (fields_split fs i d (omega (arith, h)))
    ∙ sym (append_assoc (32 ∷ field_text f) (fields_text (take i fs)) _)

-- the fields before one of them, and a prefix of that one
pub front_at : (before mid after : List ℕ) (fields : List Field) (i : ℕ) (d : Field) → i < length fields → mid ≡ before ++ fields_text (take i fields)
    → IsPrefixOf after (mid ++ 32 ∷ field_text (get_or fields i d)) → IsPrefixOf after (before ++ fields_text fields)
front_at before mid after fields i d h there front =
    let here = 32 ∷ field_text (get_or fields i d) in
    let behind = fields_text (drop (suc i) fields) in
    let whole : (mid ++ here) ++ behind ≡ before ++ fields_text fields =
    append_assoc mid here behind
    ∙ ap (λ (xs : List ℕ). xs ++ (here ++ behind)) there
    ∙ append_assoc before (fields_text (take i fields)) (here ++ behind)
    ∙ ap (λ (xs : List ℕ). before ++ xs) (sym (fields_split fields i d h)) in
    let P : List ℕ → Type 0 = λ xs. IsPrefixOf after xs in
    subst P whole (front_first (mid ++ here) after behind front)

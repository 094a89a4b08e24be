-- Lines at their places.
use Rattle.std.proofs.Common.{◌≡◌, ℕ, ◌+◌, max, List, [], ◌∷◌, ◌++◌, length, if◌then◌else◌, refl, ap, sym, ◌∙◌, arith}
use Rattle.std.proofs.lemmas.Grind.{fold-append}
use Rattle.std.proofs.lemmas.List.{length-append}
use Rattle.std.proofs.lemmas.List.Elements.{filter-append}
use Rattle.std.specs.List.{fold, filter}
use Rattle.dg_story.specs.Lines.{place_by, placed_from, is_told, told_of, end_of, Tells}
use Rattle.dg_story.specs.declared.lines.Line.{Line}
use Rattle.dg_story.specs.declared.told.Told.{Told}

abbrev pub told_at : (number : ℕ) → Line → Told
told_at number line = record { place = place_by number line.stamp; report = line.report }

placed_more : (number : ℕ) (lines : List Line) (line : Line) → placed_from number (lines ++ line ∷ []) ≡ placed_from number lines ++ told_at (number + length lines) line ∷ []
placed_more number [] line = let e : number + 0 ≡ number = omega arith in rw e refl
placed_more number (x ∷ xs) line =
    let e : number + (length xs + 1) ≡ number + 1 + length xs = omega arith in
    ap (λ (ts : List Told). told_at number x ∷ ts) (placed_more (number + 1) xs line)
    ∙ ap (λ n. told_at number x ∷ (placed_from (number + 1) xs ++ told_at n line ∷ [])) (omega arith)

one_told : (t : Told) → filter (λ (t : Told). is_told t.report) (t ∷ []) ≡ (if is_told t.report then t ∷ [] else [])
one_told t = refl

pub told_more : (lines : List Line) (line : Line) (n : ℕ) (place : ℕ) (told new : List Told) (last next : ℕ) → Tells told last n lines → place ≡ place_by (n + 1) line.stamp
    → new ≡ told ++ (if is_told line.report then record { place = place; report = line.report } ∷ [] else []) → next ≡ max last place
    → Tells new next (n + 1) (lines ++ line ∷ [])
told_more lines line n place told new last next h p is q =
    let number : n + 1 ≡ 1 + length lines = omega (arith, h.count_is) in
    let at : place ≡ place_by (1 + length lines) line.stamp = p ∙ ap (λ k. place_by k line.stamp) number in
    let all = placed_more 1 lines line in
    record {
      told_is =
          is
          ∙ ap (λ (ts : List Told). ts ++ (if is_told line.report then record { place = place; report = line.report } ∷ [] else [])) h.told_is
          ∙ ap (λ k. told_of lines ++ (if is_told line.report then record { place = k; report = line.report } ∷ [] else [])) at
          ∙ sym (ap (λ (ts : List Told). filter (λ (t : Told). is_told t.report) ts) all
          ∙ filter-append (λ (t : Told). is_told t.report) (placed_from 1 lines) (told_at (1 + length lines) line ∷ []));
      last_is =
          q
          ∙ ap (λ k. max k place) h.last_is
          ∙ ap (λ k. max (end_of lines) k) at
          ∙ sym (ap (λ (ts : List Told). fold (λ k (t : Told). max k t.place) 0 ts) all
          ∙ fold-append (λ k (t : Told). max k t.place) 0 (placed_from 1 lines) (told_at (1 + length lines) line ∷ []));
      count_is = let m = length-append lines (line ∷ []) in omega (arith, m, h.count_is);
    }

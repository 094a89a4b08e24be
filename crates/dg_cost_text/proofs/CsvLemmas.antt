use Rattle.std.proofs.Common.{◌≡◌, ◌++◌, ◌∷◌, [], List, ℕ, take, length, ap, sym, ◌∙◌, ◌<◌, ◌+◌, append_assoc, append-nil, get_or, arith}
use Rattle.std.specs.Fmt.{decimal}
use Rattle.std.proofs.lemmas.List.{take_more, length-take-le}
use Rattle.dg_cost_text.specs.Csv.{rows_text, motes_text}
use Rattle.dg_cost_text.specs.declared.rows.Rows.{Rows}

-- one more mote
pub motes_more : (n : ℕ) (ms : List Rows) (m : Rows) → motes_text n (ms ++ m ∷ []) ≡ motes_text n ms ++ rows_text (decimal (n + length ms)) m.rows.items
unfolding motes_text
motes_more n [] m =
    let at : n ≡ n + length {A = Rows} [] = omega arith in
    append-nil (rows_text (decimal n) m.rows.items) ∙ ap (λ (k : ℕ). rows_text (decimal k) m.rows.items) at
motes_more n (x ∷ ms) m =
    ap (λ (t : List ℕ). rows_text (decimal n) x.rows.items ++ t) (motes_more (n + 1) ms m ∙ ap (λ (k : ℕ). motes_text (n + 1) ms ++ rows_text (decimal k) m.rows.items) (omega arith))
    ∙ sym (append_assoc (rows_text (decimal n) x.rows.items) (motes_text (n + 1) ms) (rows_text (decimal (n + length (x ∷ ms))) m.rows.items))

-- the mote with this number
pub motes_next : (ms : List Rows) (i : ℕ) (m : Rows) (before text new : List ℕ) → i < length ms → m ≡ get_or ms i m → text ≡ before ++ motes_text 0 (take i ms)
    → new ≡ text ++ rows_text (decimal i) m.rows.items → new ≡ before ++ motes_text 0 (take (i + 1) ms)
motes_next ms i m before text new lt is told more =
    let long : length (take i ms) ≡ i = length-take-le i ms (omega (arith, lt)) in
    let at : 0 + length (take i ms) ≡ i = omega (arith, long) in
    let all : motes_text 0 (take (i + 1) ms) ≡ motes_text 0 (take i ms) ++ rows_text (decimal i) m.rows.items =
    ap (λ (xs : List Rows). motes_text 0 xs) (take_more ms i m lt ∙ ap (λ (x : Rows). take i ms ++ x ∷ []) (sym is))
    ∙ motes_more 0 (take i ms) m ∙ ap (λ (k : ℕ). motes_text 0 (take i ms) ++ rows_text (decimal k) m.rows.items) at in
    more ∙ ap (λ (t : List ℕ). t ++ rows_text (decimal i) m.rows.items) told
    ∙ append_assoc before (motes_text 0 (take i ms)) (rows_text (decimal i) m.rows.items) ∙ ap (λ (t : List ℕ). before ++ t) (sym all)

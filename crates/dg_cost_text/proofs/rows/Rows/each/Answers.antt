use Rattle.std.proofs.Common.{◌≡◌, ◌++◌, ◌∷◌, [], ◌<◌, ◌≤◌, ℕ, List, take, map, min, length, get_or, sym, ap, ◌∙◌, append_assoc, arith, Bor}
use Rattle.std.proofs.lemmas.List.{length-map, get_or-map, get_or_default}
use Rattle.dg_cost_text.specs.Table.{table_of_rows, named_rows}
use Rattle.dg_cost_text.proofs.TableLemmas.{named_more, named_all}
use Rattle.dg_cost_text.proofs.rows.Rows.each.Goals as goal

pub loop-index-preserved : goal.loop-index-preserved
loop-index-preserved c =
    let i : ℕ = c.loop-index.index in
    let before : List (List ℕ × ℕ) = table_of_rows c.args.self.now in
    let names : List (List ℕ) = map (λ (n : Bor (List ℕ)). n.now) c.args.names.now in
    let values : List ℕ = c.args.values.now in
    let none : Bor (List ℕ) = record { ref_ptr = (0, 0); now = [] } in
    let n : List ℕ = (get_or c.args.names.now i none).now in
    let v : ℕ = get_or values i 0 in
    let row : List (List ℕ × ℕ) = (c.args.before.now ++ (n ++ c.args.after.now), v) ∷ [] in
    let long : length names ≡ length c.args.names.now = length-map c.args.names.now (λ (n : Bor (List ℕ)). n.now) in
    let in_names : i < length c.args.names.now = omega (arith, c.min-count.ensures, c.loop-index-test.true) in
    let a : i < length names = omega (arith, long, in_names) in
    let b : i < length values = omega (arith, c.min-count.ensures, c.loop-index-test.true) in
    let is : n ≡ get_or names i n = sym (get_or-map (λ (n : Bor (List ℕ)). n.now) c.args.names.now i none n in_names) in
    let at : v ≡ get_or values i v = get_or_default values i 0 v b in
    let more = named_more c.args.before.now c.args.after.now names values i n v a b is at in
    c.in_ok-named.ensures ∙ ap (λ (rows : List (List ℕ × ℕ)). rows ++ row) c.loop-index.invariant
    ∙ append_assoc before (named_rows c.args.before.now c.args.after.now (take i names) (take i values)) row
    ∙ ap (λ (rows : List (List ℕ × ℕ)). before ++ rows) (sym more)

pub returns : goal.returns
returns c =
    let names : List (List ℕ) = map (λ (n : Bor (List ℕ)). n.now) c.args.names.now in
    let long : length names ≡ length c.args.names.now = length-map c.args.names.now (λ (n : Bor (List ℕ)). n.now) in
    let all : min (length names) (length c.args.values.now) ≤ c.loop-index.index = omega (arith, long, c.min-count.ensures, c.loop-index-test.false) in
    c.loop-index.invariant
    ∙ ap (λ (rows : List (List ℕ × ℕ)). table_of_rows c.args.self.now ++ rows) (named_all c.args.before.now c.args.after.now names c.args.values.now c.loop-index.index all)

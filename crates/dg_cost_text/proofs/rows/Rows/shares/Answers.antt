use Rattle.std.proofs.Common.{◌≡◌, ◌++◌, [], ◌<◌, ◌≤◌, ℕ, List, take, map, min, length, get_or, sym, ap, ◌∙◌, append_assoc, arith, Bor}
use Rattle.std.proofs.lemmas.List.{length-map, get_or-map, get_or_default}
use Rattle.dg_meter.specs.Shares.{no_share}
use Rattle.dg_meter.specs.declared.share.Share.{Share}
use Rattle.dg_cost_text.specs.Table.{table_of_rows, share_rows, shared_rows}
use Rattle.dg_cost_text.proofs.TableLemmas.{shared_more, shared_all}
use Rattle.dg_cost_text.proofs.rows.Rows.shares.Goals as goal

pub loop-index-preserved : goal.loop-index-preserved
loop-index-preserved c =
    let i : ℕ = c.loop-index.index in
    let before : List (List ℕ × ℕ) = table_of_rows c.args.self.now in
    let names : List (List ℕ) = map (λ (n : Bor (List ℕ)). n.now) c.args.names.now in
    let shares : List Share = c.args.shares.now in
    let none : Bor (List ℕ) = record { ref_ptr = (0, 0); now = [] } in
    let n : List ℕ = (get_or c.args.names.now i none).now in
    let s : Share = get_or shares i no_share in
    let rows : List (List ℕ × ℕ) = share_rows c.args.before.now n s.count s.bytes in
    let long : length names ≡ length c.args.names.now = length-map c.args.names.now (λ (n : Bor (List ℕ)). n.now) in
    let in_names : i < length c.args.names.now = omega (arith, c.min-count.ensures, c.loop-index-test.true) in
    let a : i < length names = omega (arith, long, in_names) in
    let b : i < length shares = omega (arith, c.min-count.ensures, c.loop-index-test.true) in
    let is : n ≡ get_or names i n = sym (get_or-map (λ (n : Bor (List ℕ)). n.now) c.args.names.now i none n in_names) in
    let at : s ≡ get_or shares i s = get_or_default shares i no_share s b in
    let more = shared_more c.args.before.now names shares i n s a b is at in
    c.in_ok-share.ensures ∙ ap (λ (table : List (List ℕ × ℕ)). table ++ rows) c.loop-index.invariant
    ∙ append_assoc before (shared_rows c.args.before.now (take i names) (take i shares)) rows
    ∙ ap (λ (table : List (List ℕ × ℕ)). before ++ table) (sym more)

pub returns : goal.returns
returns c =
    let names : List (List ℕ) = map (λ (n : Bor (List ℕ)). n.now) c.args.names.now in
    let long : length names ≡ length c.args.names.now = length-map c.args.names.now (λ (n : Bor (List ℕ)). n.now) in
    let all : min (length names) (length c.args.shares.now) ≤ c.loop-index.index = omega (arith, long, c.min-count.ensures, c.loop-index-test.false) in
    c.loop-index.invariant
    ∙ ap (λ (table : List (List ℕ × ℕ)). table_of_rows c.args.self.now ++ table) (shared_all c.args.before.now names c.args.shares.now c.loop-index.index all)

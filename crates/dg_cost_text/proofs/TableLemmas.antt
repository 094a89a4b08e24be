-- Rows that are appended to a table.
use Rattle.std.proofs.Common.{◌≡◌, ℕ, zero, suc, ◌<◌, ◌≤◌, ◌+◌, ◌∷◌, ◌++◌, [], List, map, min, length, take, get_or, refl, ap, sym, ◌∙◌, append_assoc, append-nil, arith, Result, Ok, Err, OnOk}
use Rattle.std.proofs.lemmas.List.{take_all}
use Rattle.std.specs.Prelude.{codes}
use Rattle.dg_meter.specs.declared.share.Share.{Share}
use Rattle.dg_cost_text.specs.Table.{named_rows, share_rows, shared_rows}

-- the key of two parts and an end
pub two_parts : (a b c : List ℕ) → (a ++ (b ++ [])) ++ c ≡ a ++ (b ++ c)
two_parts a b c = ap (λ (t : List ℕ). (a ++ t) ++ c) (append-nil b) ∙ append_assoc a b c

-- the two rows of a share
pub share_more : {mid new : List (List ℕ × ℕ)} (old : List (List ℕ × ℕ)) (before name : List ℕ) (n b : ℕ)
    → mid ≡ old ++ ((before ++ (name ++ [])) ++ codes ".count", n) ∷ [] → new ≡ mid ++ ((before ++ (name ++ [])) ++ codes ".bytes", b) ∷ []
    → new ≡ old ++ share_rows before name n b
share_more {mid} {new} old before name n b first next =
    next ∙ ap (λ (t : List (List ℕ × ℕ)). t ++ ((before ++ (name ++ [])) ++ codes ".bytes", b) ∷ []) first
    ∙ append_assoc old (((before ++ (name ++ [])) ++ codes ".count", n) ∷ []) (((before ++ (name ++ [])) ++ codes ".bytes", b) ∷ [])
    ∙ ap (λ (k : List ℕ). old ++ (k, n) ∷ ((before ++ (name ++ [])) ++ codes ".bytes", b) ∷ []) (two_parts before name (codes ".count"))
    ∙ ap (λ (k : List ℕ). old ++ (before ++ (name ++ codes ".count"), n) ∷ (k, b) ∷ []) (two_parts before name (codes ".bytes"))

-- ---- one more name

named_suc : (before after : List ℕ) (names : List (List ℕ)) (values : List ℕ) (i : ℕ) (n : List ℕ) (v : ℕ) → i < length names → i < length values
    → n ≡ get_or names i n → v ≡ get_or values i v → named_rows before after (take (suc i) names) (take (suc i) values)
    ≡ named_rows before after (take i names) (take i values) ++ (before ++ (n ++ after), v) ∷ []
named_suc before after [] values i n v a b is at = absurd (omega arith)
named_suc before after (x ∷ names) [] i n v a b is at = absurd (omega arith)
named_suc before after (x ∷ names) (y ∷ values) zero n v a b is at =
    ap (λ (t : List ℕ). (before ++ (t ++ after), y) ∷ []) (sym is) ∙ ap (λ (k : ℕ). (before ++ (n ++ after), k) ∷ []) (sym at)
named_suc before after (x ∷ names) (y ∷ values) (suc i) n v a b is at =
    ap (λ (rows : List (List ℕ × ℕ)). (before ++ (x ++ after), y) ∷ rows) (named_suc before after names values i n v (omega arith) (omega arith) is at)

pub named_more : (before after : List ℕ) (names : List (List ℕ)) (values : List ℕ) (i : ℕ) (n : List ℕ) (v : ℕ) → i < length names → i < length values
    → n ≡ get_or names i n → v ≡ get_or values i v → named_rows before after (take (i + 1) names) (take (i + 1) values)
    ≡ named_rows before after (take i names) (take i values) ++ (before ++ (n ++ after), v) ∷ []
named_more before after names values i n v a b is at =
    let next : i + 1 ≡ suc i = omega arith in
    ap (λ (k : ℕ). named_rows before after (take k names) (take k values)) next ∙ named_suc before after names values i n v a b is at

-- all names, or all values
pub named_all : (before after : List ℕ) (names : List (List ℕ)) (values : List ℕ) (i : ℕ) → min (length names) (length values) ≤ i
    → named_rows before after (take i names) (take i values) ≡ named_rows before after names values
named_all before after [] values zero all = refl
named_all before after [] values (suc i) all = refl
named_all before after (x ∷ names) [] zero all = refl
named_all before after (x ∷ names) [] (suc i) all = refl
named_all before after (x ∷ names) (y ∷ values) zero all = absurd (omega arith)
named_all before after (x ∷ names) (y ∷ values) (suc i) all =
    ap (λ (rows : List (List ℕ × ℕ)). (before ++ (x ++ after), y) ∷ rows) (named_all before after names values i (omega arith))

-- ---- one more name with a share

shared_suc : (before : List ℕ) (names : List (List ℕ)) (shares : List Share) (i : ℕ) (n : List ℕ) (s : Share) → i < length names → i < length shares
    → n ≡ get_or names i n → s ≡ get_or shares i s → shared_rows before (take (suc i) names) (take (suc i) shares)
    ≡ shared_rows before (take i names) (take i shares) ++ share_rows before n s.count s.bytes
shared_suc before [] shares i n s a b is at = absurd (omega arith)
shared_suc before (x ∷ names) [] i n s a b is at = absurd (omega arith)
shared_suc before (x ∷ names) (y ∷ shares) zero n s a b is at =
    ap (λ (t : List ℕ). share_rows before t y.count y.bytes) (sym is) ∙ ap (λ (z : Share). share_rows before n z.count z.bytes) (sym at)
shared_suc before (x ∷ names) (y ∷ shares) (suc i) n s a b is at =
    ap (λ (rows : List (List ℕ × ℕ)). share_rows before x y.count y.bytes ++ rows) (shared_suc before names shares i n s (omega arith) (omega arith) is at)

pub shared_more : (before : List ℕ) (names : List (List ℕ)) (shares : List Share) (i : ℕ) (n : List ℕ) (s : Share) → i < length names → i < length shares
    → n ≡ get_or names i n → s ≡ get_or shares i s → shared_rows before (take (i + 1) names) (take (i + 1) shares)
    ≡ shared_rows before (take i names) (take i shares) ++ share_rows before n s.count s.bytes
shared_more before names shares i n s a b is at =
    let next : i + 1 ≡ suc i = omega arith in
    ap (λ (k : ℕ). shared_rows before (take k names) (take k shares)) next ∙ shared_suc before names shares i n s a b is at

-- all names, or all shares
pub shared_all : (before : List ℕ) (names : List (List ℕ)) (shares : List Share) (i : ℕ) → min (length names) (length shares) ≤ i
    → shared_rows before (take i names) (take i shares) ≡ shared_rows before names shares
shared_all before [] shares zero all = refl
shared_all before [] shares (suc i) all = refl
shared_all before (x ∷ names) [] zero all = refl
shared_all before (x ∷ names) [] (suc i) all = refl
shared_all before (x ∷ names) (y ∷ shares) zero all = absurd (omega arith)
shared_all before (x ∷ names) (y ∷ shares) (suc i) all =
    ap (λ (rows : List (List ℕ × ℕ)). share_rows before x y.count y.bytes ++ rows) (shared_all before names shares i (omega arith))

-- two rows, whose keys have one beginning
pub two_rows : {first new : List (List ℕ × ℕ)} (old : List (List ℕ × ℕ)) (key one other : List ℕ) (a b : ℕ) → first ≡ old ++ (key ++ one, a) ∷ []
    → new ≡ first ++ (key ++ other, b) ∷ [] → new ≡ old ++ ((key ++ []) ++ one, a) ∷ ((key ++ []) ++ other, b) ∷ []
two_rows {first} {new} old key one other a b is next =
    next ∙ ap (λ (rows : List (List ℕ × ℕ)). rows ++ (key ++ other, b) ∷ []) is
    ∙ append_assoc old ((key ++ one, a) ∷ []) ((key ++ other, b) ∷ [])
    ∙ ap (λ (k : List ℕ). old ++ (k ++ one, a) ∷ (k ++ other, b) ∷ []) (sym (append-nil key))

-- what follows if a call succeeded
pub then_on : {T E P Q : Type 0} (r : Result T E) → (P → Q) → OnOk r P → OnOk r Q
then_on (Ok x) f p = f p
then_on (Err e) f p = tt

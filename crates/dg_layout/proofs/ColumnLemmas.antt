-- What columns show.
use Rattle.std.proofs.Common.{◌≡◌, ℕ, suc, ◌+◌, ◌*◌, ◌≤◌, nat_lt, true, false, List, [], ◌∷◌, take, drop, inl, inr, refl, ap, sym, ◌∙◌, arith}
use Rattle.std.proofs.lemmas.Bool.{cases_lt, lt-ltb, le-ltb}
use Rattle.std.proofs.lemmas.List.{drop-drop}
use Rattle.std.proofs.lemmas.Grind.{fold-append}
use Rattle.std.proofs.Math.Seq.{take-add}
use Rattle.std.specs.List.{fold, prefix_len, take_while}
use Rattle.dg_layout.specs.Layout.{is_before, count_before, column}
use Rattle.dg_story.specs.declared.told.Told.{Told}

none_before : (place : ℕ) (cs : List Told) → place ≡ 0 → prefix_len (is_before place) cs ≡ 0
none_before place [] h = refl
none_before place (t ∷ ts) h = let p : nat_lt t.place place ≡ false = le-ltb _ _ (omega (arith, h)) in rw p refl

drop_more : (n : ℕ) (t : Told) (ts : List Told) → drop (1 + n) (t ∷ ts) ≡ drop n ts
drop_more n t ts = let e : 1 + n ≡ suc n = omega arith in rw e refl

-- those before a later place are those before an earlier one, and some of the others
more : (a b : ℕ) (cs : List Told) → a ≤ b
    → prefix_len (is_before b) cs ≡ prefix_len (is_before a) cs + prefix_len (is_before b) (drop (prefix_len (is_before a) cs) cs)
more a b [] h = refl
more a b (t ∷ ts) h = elim (cases_lt t.place a) [
  | inl small ↦
      let p : nat_lt t.place a ≡ true = lt-ltb _ _ small in
      let q : nat_lt t.place b ≡ true = lt-ltb _ _ (omega (arith, small, h)) in
      let rest = more a b ts h in
      let same = drop_more (prefix_len (is_before a) ts) t ts in
      rw (p, q, same) (omega (arith, rest))
  | inr large ↦
      let p : nat_lt t.place a ≡ false = le-ltb _ _ large in
      rw p (omega arith)
]

later : (per k : ℕ) → k * per ≤ (k + 1) * per
later per k = omega arith

next_before : (per k : ℕ) (cs : List Told)
    → count_before per (k + 1) cs ≡ count_before per k cs + prefix_len (is_before ((k + 1) * per)) (drop (count_before per k cs) cs)
next_before per k cs = more (k * per) ((k + 1) * per) cs (later per k)

-- before the first column
pub first_before : (per : ℕ) (cs : List Told) → count_before per 0 cs ≡ 0
first_before per cs = none_before (0 * per) cs (omega arith)

pub first_rest : (per : ℕ) (cs : List Told) → cs ≡ drop (count_before per 0 cs) cs
first_rest per cs = ap (λ n. drop n cs) (sym (first_before per cs))

pub first_kept : {B : Type 0} (h : B → Told → B) (z : B) (per : ℕ) (cs : List Told) → z ≡ fold h z (take (count_before per 0 cs) cs)
first_kept h z per cs = ap (λ n. fold h z (take n cs)) (sym (first_before per cs))

-- after a column
pub next_rest : (per k : ℕ) (cs rest behind : List Told) → rest ≡ drop (count_before per k cs) cs
    → behind ≡ drop (prefix_len (is_before ((k + 1) * per)) rest) rest → behind ≡ drop (count_before per (k + 1) cs) cs
next_rest per k cs rest behind h e =
    e
    ∙ ap (λ (xs : List Told). drop (prefix_len (is_before ((k + 1) * per)) xs) xs) h
    ∙ drop-drop (prefix_len (is_before ((k + 1) * per)) (drop (count_before per k cs) cs)) (count_before per k cs) cs
    ∙ ap (λ n. drop n cs) (sym (next_before per k cs))

pub next_kept : {B : Type 0} (h : B → Told → B) (z : B) (per k : ℕ) (cs rest here : List Told) (kept next : B)
    → rest ≡ drop (count_before per k cs) cs → here ≡ take_while (is_before ((k + 1) * per)) rest → kept ≡ fold h z (take (count_before per k cs) cs)
    → next ≡ fold h kept here → next ≡ fold h z (take (count_before per (k + 1) cs) cs)
next_kept h z per k cs rest here kept next p e q is =
    let m = prefix_len (is_before ((k + 1) * per)) (drop (count_before per k cs) cs) in
    is
    ∙ ap (λ (xs : List Told). fold h kept xs) e
    ∙ ap (λ b. fold h b (take_while (is_before ((k + 1) * per)) rest)) q
    ∙ ap (λ (xs : List Told). fold h (fold h z (take (count_before per k cs) cs)) (take_while (is_before ((k + 1) * per)) xs)) p
    ∙ sym (fold-append h z (take (count_before per k cs) cs) (take m (drop (count_before per k cs) cs)))
    ∙ ap (λ (xs : List Told). fold h z xs) (sym (take-add (count_before per k cs) m cs) ∙ ap (λ n. take n cs) (sym (next_before per k cs)))

pub this_column : (per k : ℕ) (cs rest here : List Told) → rest ≡ drop (count_before per k cs) cs
    → here ≡ take_while (is_before ((k + 1) * per)) rest → here ≡ column per k cs
this_column per k cs rest here h e = e ∙ ap (λ (xs : List Told). take_while (is_before ((k + 1) * per)) xs) h

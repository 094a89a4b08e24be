-- Rows of a table, and the tables of motes.
use Rattle.std.proofs.Common.{◌≡◌, ℕ, zero, suc, List, [], ◌∷◌, ◌++◌, length, refl, sym, ap, subst, ◌∙◌, append_assoc, append-nil, arith, ◌-◌, cond}
use Rattle.std.proofs.Common.{Some, None}
use Rattle.std.specs.Prelude.{slice_get, codes}
use Rattle.dg_events.specs.Uptimes.{up_until}
use Rattle.dg_events.specs.declared.uptime.Uptime.{Uptime}
use Rattle.dg_cost.specs.EventRows.{HasRows}
use Rattle.dg_cost.specs.TimeRows.{rows_of_times, rows_of_power}

none_some : {A : Type 0} (x : A) → None ≡ Some x → ⊥
none_some x e = cc

same_some : {A : Type 0} (x y : A) → Some x ≡ Some y → x ≡ y
same_some x y e = cc

-- what holds of each, and of one more
pub each_more : {X : Type 0} (P : ℕ → X → Type 0) (xs : List X) (y : X) → ((m : ℕ) (x : X) → slice_get xs m ≡ Some x → P m x)
    → ((m : ℕ) → m ≡ length xs → P m y) → (m : ℕ) (x : X) → slice_get (xs ++ y ∷ []) m ≡ Some x → P m x
each_more {X} P [] y all last zero x there = subst (λ (z : X). P zero z) (same_some y x there) (last zero refl)
each_more {X} P [] y all last (suc m) x there = absurd (none_some x there)
each_more {X} P (z ∷ xs) y all last zero x there = all zero x there
each_more {X} P (z ∷ xs) y all last (suc m) x there =
    each_more (λ (k : ℕ) (v : X). P (suc k) v) xs y (λ k v h. all (suc k) v h) (λ k e. last (suc k) (omega (arith, e))) m x there

-- the same of a list that is known to be the longer one
pub each_pushed : {X : Type 0} (P : ℕ → X → Type 0) (xs new : List X) (y : X) (n : ℕ) → new ≡ xs ++ y ∷ [] → length xs ≡ n
    → ((m : ℕ) (x : X) → slice_get xs m ≡ Some x → P m x) → P n y → (m : ℕ) (x : X) → slice_get new m ≡ Some x → P m x
each_pushed {X} P xs new y n is long all last m x there =
    each_more P xs y all (λ k e. subst (λ (j : ℕ). P j y) (sym (e ∙ long)) last) m x
    (subst (λ (l : List X). slice_get l m ≡ Some x) is there)

-- ---- pieces of a table

abbrev pub Entries : Type 0
Entries = List (List ℕ × ℕ)

-- with more rows after it
pub piece_more : {table new rows : Entries} (more : Entries) → HasRows rows table → new ≡ table ++ more → HasRows rows new
piece_more {table} {new} {rows} more h is = record {
  before = h.before;
  after = h.after ++ more;
  is = is ∙ ap (λ (t : Entries). t ++ more) h.is ∙ append_assoc h.before (rows ++ h.after) more
      ∙ ap (λ (t : Entries). h.before ++ t) (append_assoc rows h.after more);
}

-- the last rows of a table
pub piece_last : {table : Entries} (before rows : Entries) → table ≡ before ++ rows → HasRows rows table
piece_last {table} before rows is =
    record { before = before; after = []; is = is ∙ ap (λ (t : Entries). before ++ t) (sym (append-nil rows)) }

-- in a part of another table
pub piece_in : {part new rows : Entries} (old : Entries) → HasRows rows part → new ≡ old ++ part → HasRows rows new
piece_in {part} {new} {rows} old h is = record {
  before = old ++ h.before;
  after = h.after;
  is = is ∙ ap (λ (t : Entries). old ++ t) h.is ∙ sym (append_assoc old h.before (rows ++ h.after));
}

-- rows that are appended one after another
pub then_rows : {mid new : Entries} (old rows more : Entries) → mid ≡ old ++ rows → new ≡ mid ++ more → new ≡ old ++ (rows ++ more)
then_rows {mid} {new} old rows more first next =
    next ∙ ap (λ (t : Entries). t ++ more) first ∙ append_assoc old rows more

-- the rows of how long a mote was on, from their values
pub power_rows : (u : Uptime) (ms on off last : ℕ) → on ≡ up_until u ms → off ≡ ms - on → last ≡ cond u.on 0 1
    → (codes "on.ms", on) ∷ (codes "off.ms", off) ∷ (codes "off.end", last) ∷ [] ≡ rows_of_power u ms
power_rows u ms on off last on_is off_is last_is =
    ap (λ (n : ℕ). (codes "on.ms", on) ∷ (codes "off.ms", off) ∷ (codes "off.end", n) ∷ []) last_is
    ∙ ap (λ (n : ℕ). rows_of_times on n u.on) off_is ∙ ap (λ (n : ℕ). rows_of_times n (ms - n) u.on) on_is

-- three rows
pub three_rows : {first second third : Entries} (old : Entries) (a b c : List ℕ × ℕ) → first ≡ old ++ a ∷ [] → second ≡ first ++ b ∷ []
    → third ≡ second ++ c ∷ [] → third ≡ old ++ a ∷ b ∷ c ∷ []
three_rows {first} {second} {third} old a b c e f g =
    then_rows old (a ∷ b ∷ []) (c ∷ []) (then_rows old (a ∷ []) (b ∷ []) e f) g

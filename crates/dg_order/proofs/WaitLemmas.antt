-- An order that waits, as a test and as facts.
use Rattle.std.proofs.Common.{◌≡◌, ◌≢◌, ℕ, ◌≤◌, Bool, true, false, Option, Some, None, refl, ap, ◌∙◌, eq-eqb, arith}
use Rattle.std.specs.Prelude.{◌==◌, ◌&&◌, not, nat_le}
use Rattle.std.proofs.lemmas.Bool.{eqb-true, ne_eqb}
use Rattle.std.proofs.lemmas.Bool.Decides.{nat_tests}
use Rattle.dg_control.specs.declared.snapshot.Program.{Program}
use Rattle.dg_control.specs.declared.snapshot.Program.TheVariants.{Blank, Set}
use Rattle.dg_control.specs.declared.snapshot.Snapshot.{Snapshot}
use Rattle.dg_order.specs.Pending.{is_set, is_some_version, pending, start_commits, Waits}

both : (a b : Bool) → a && b ≡ true → (a ≡ true) × (b ≡ true)
both true b h = (refl, h)
both false b h = absurd cc

pair : (a b : Bool) → a ≡ true → b ≡ true → a && b ≡ true
pair true b p q = q
pair false b p q = absurd cc

not_true : (b : Bool) → not b ≡ true → b ≡ false
not_true false h = refl
not_true true h = absurd cc

true_not : (b : Bool) → b ≡ false → not b ≡ true
true_not false h = refl
true_not true h = absurd cc

-- ---- program memory

set_true : (p : Program) (i v : ℕ) → p ≡ Set i v → is_set p i v ≡ true
set_true Blank i v e = absurd cc
set_true (Set j w) i v e =
    let image : j ≡ i = cc in
    let version : w ≡ v = cc in
    pair (j == i) (w == v) (eq-eqb j i image) (eq-eqb w v version)

true_set : (p : Program) (i v : ℕ) → is_set p i v ≡ true → p ≡ Set i v
true_set Blank i v e = absurd cc
true_set (Set j w) i v e =
    let parts = both (j == i) (w == v) e in
    ap (λ (x : ℕ). Set x w) (eqb-true j i parts.0) ∙ ap (λ (x : ℕ). Set i x) (eqb-true w v parts.1)

unset : (p : Program) (i v : ℕ) (b : Bool) → is_set p i v ≡ b → p ≢ Set i v → b ≡ false
unset p i v false e other = refl
unset p i v true e other = absurd (other (true_set p i v e))

-- ---- the version that is kept whole

version_true : (whole : Option ℕ) (v : ℕ) → whole ≡ Some v → is_some_version whole v ≡ true
version_true None v e = absurd cc
version_true (Some w) v e = let same : w ≡ v = cc in eq-eqb w v same

true_version : (whole : Option ℕ) (v : ℕ) → is_some_version whole v ≡ true → whole ≡ Some v
true_version None v e = absurd cc
true_version (Some w) v e = ap (λ (x : ℕ). Some x) (eqb-true w v e)

-- ---- all of them

enough : (room : ℕ) → nat_le start_commits room ≡ true → start_commits ≤ room
enough room h = grind (arith, nat_tests)

enough_true : (room : ℕ) → start_commits ≤ room → nat_le start_commits room ≡ true
enough_true room h = grind (arith, nat_tests)

number_zero : (n : ℕ) → (n == 0) ≡ false → n ≢ 0
number_zero n h e = let same : (n == 0) ≡ true = eq-eqb n 0 e in absurd cc

pub waits : (p : Snapshot) (whole : Option ℕ) (room : ℕ) → pending p whole room ≡ true → Waits p whole room
waits p whole room h =
    let o = p.order in
    let set = is_set p.program o.image o.version in
    let one = both (not (o.number == 0)) (not p.waived && (is_some_version whole o.version && (not set && nat_le start_commits room))) h in
    let two = both (not p.waived) (is_some_version whole o.version && (not set && nat_le start_commits room)) one.1 in
    let three = both (is_some_version whole o.version) (not set && nat_le start_commits room) two.1 in
    let four = both (not set) (nat_le start_commits room) three.1 in
    record {
      ordered = number_zero o.number (not_true (o.number == 0) one.0);
      not_waived = not_true p.waived two.0;
      kept = true_version whole o.version three.0;
      another = λ e. let here : set ≡ true = set_true p.program o.image o.version e in let there : set ≡ false = not_true set four.0 in absurd cc;
      room = enough room four.1;
    }

pub waits_is : (p : Snapshot) (whole : Option ℕ) (room : ℕ) → Waits p whole room → pending p whole room ≡ true
waits_is p whole room w =
    let o = p.order in
    let set = is_set p.program o.image o.version in
    pair (not (o.number == 0)) _ (true_not (o.number == 0) (ne_eqb o.number 0 w.ordered))
    (pair (not p.waived) _ (true_not p.waived w.not_waived)
    (pair (is_some_version whole o.version) _ (version_true whole o.version w.kept)
    (pair (not set) _ (true_not set (unset p.program o.image o.version set refl w.another)) (enough_true room w.room))))

-- What holds of every start.
use Rattle.std.proofs.Common.{◌≡◌, ◌⊎◌, ℕ, ◌+◌, ◌-◌, ◌*◌, ◌<◌, ◌≤◌, Bool, true, false, length, Option, Some, None, IfSome, IsSome, refl, sym, ap, subst, ◌∙◌, inl, inr, ⊎_elim, eq-eqb, arith}
use Rattle.std.proofs.lemmas.Bool.{cond_both, cases_lt, and_parts}
use Rattle.std.proofs.lemmas.Bool.Decides.{nat_tests}
use Rattle.std.specs.Prelude.{◌==◌, ◌&&◌, ◌||◌, not, nat_lt, nat_le, is_some}
use Rattle.dg_nor.specs.Trail.{Trail, last, operations, joined, resting, EachWorks, LeavesFrom, Leaves}
use Rattle.dg_nor.proofs.TrailLemmas.{operations-joined, operations-stepping, last-resting, last-stepping, Leaves-joined_early, Leaves-joined_late, Leaves-stepping}
use Rattle.dg_control.specs.Store.{commit_operations}
use Rattle.dg_volume.specs.Sizes.{golden_version, short_starts, copy_operations}
use Rattle.dg_volume.specs.Store.{App, Store, IsNear, held}
use Rattle.dg_volume.specs.Changes.{spent}
use Rattle.dg_volume.specs.Trails.{committing}
use Rattle.dg_volume.specs.Start.{Runs, Boot, behind, counts, count_trail, by_gesture, order_waits, blank_by, blank_trail, copy_trail, app_of, kept_runs, order_boot, golden_done, finish_trail, golden_copied, golden_stays, golden_by, golden_boot, kept_by, kept_boot, waived_once, boot_counted, boot, is_set_to, is_whole, sound}
use Rattle.dg_volume.specs.Ends.{IsGolden}
use Rattle.dg_volume.specs.declared.volume.StartCause.{StartCause}
use Rattle.dg_volume.specs.declared.volume.StartCause.TheVariants.{Power, Order}
use Rattle.dg_volume.proofs.BeginLemmas.{begins_committing, begins_joined}
use Rattle.dg_boot.specs.Ends.{golden_loaded, finishes}
use Rattle.dg_boot.proofs.BeginLemmas.{copy_begins, finish_begins, kept_begins, counted_begins}
use Rattle.dg_boot.proofs.CaseLemmas.{blank_app, counted_golden, set_to, golden_kept_is}

-- ---- a start is by one of its cases

-- what holds of each case holds of the choice
by_cases : (P : Boot → Type 0) (s : Store) → P (golden_boot s true) → P (kept_boot s (s.gesture == short_starts)) → (order_waits s ≡ true → P (order_boot s))
    → (order_waits s ≡ true → P (behind (committing s (waived_once s)) (kept_boot (waived_once s) (s.gesture == short_starts)))) → P (boot_counted s)
unfolding boot_counted
by_cases P s golden kept order waived =
    cond_both (by_gesture s) _ _ P (λ _. golden)
    (λ _. cond_both (order_waits s) _ _ P (λ w. cond_both (sound s s.order.image) _ _ P (λ _. order w) (λ _. waived w)) (λ _. kept))

golden_cases_by : (P : Boot → Type 0) (s : Store) (three : Bool) (o : Option App) → ((app : App) → o ≡ Some app → P (golden_stays s app three)) → P (golden_copied s three) → P (golden_by o s three)
golden_cases_by P s three None stays copied = copied
golden_cases_by P s three (Some app) stays copied = cond_both (is_set_to (Some app) 0 golden_version) _ _ P (λ _. stays app refl) (λ _. copied)

golden_cases : (P : Boot → Type 0) (s : Store) (three : Bool) → ((app : App) → P (golden_stays s app three)) → P (golden_copied s three) → P (golden_boot s three)
unfolding golden_boot
golden_cases P s three stays copied = golden_cases_by P s three s.app (λ app _. stays app) copied

kept_cases_by : (P : Boot → Type 0) (s : Store) (three : Bool) (o : Option App)
    → ((app : App) → o ≡ Some app → P (record { runs = Some (record { image = app.image; version = app.version; pages = app.pages }); trail = resting s 0 })) → P (golden_boot s three) → P (kept_by o s three)
kept_cases_by P s three None on golden = golden
kept_cases_by P s three (Some app) on golden = on app refl

kept_cases : (P : Boot → Type 0) (s : Store) (three : Bool)
    → ((app : App) → s.app ≡ Some app → P (record { runs = Some (record { image = app.image; version = app.version; pages = app.pages }); trail = resting s 0 })) → P (golden_boot s three) → P (kept_boot s three)
unfolding kept_boot
kept_cases P s three on golden = kept_cases_by P s three s.app on golden

-- ---- golden runs

abbrev GoldenRuns : Boot → Type 0
GoldenRuns b = IfSome b.runs IsGolden

pub golden_runs : (s : Store) (three : Bool) → GoldenRuns (golden_boot s three)
golden_runs s three =
    golden_cases GoldenRuns s three (λ app. record { image = refl; version = refl })
    (cond_both (sound s 0) _ _ GoldenRuns (λ _. record { image = refl; version = refl }) (λ _. tt))

-- ---- the store after the count

abbrev Counted : Store → Store
Counted s = record (spent s) { gesture = s.gesture + 1 }

count_cases : (P : Store → Type 0) (k : StartCause) (s : Store) → (counts k s ≡ true → P (Counted s)) → (counts k s ≡ false → P s) → P (last (count_trail k s))
unfolding count_trail
count_cases P k s more same =
    cond_both (counts k s) _ _ (λ (t : Trail Store). P (last t))
    (λ h. subst P (sym (last-stepping s (commit_operations s.room) (Counted s))) (more h))
    (λ h. subst P (sym (last-resting s 0)) (same h))

boot_runs : (k : StartCause) (s : Store) → (boot k s).runs ≡ (boot_counted (last (count_trail k s))).runs
unfolding boot
boot_runs k s = refl

-- ---- three short starts

three_true : (s : Store) → s.gesture ≡ short_starts → 1 ≤ s.room → by_gesture s ≡ true
three_true s g room =
    let e : (s.gesture == short_starts) ≡ true = eq-eqb s.gesture short_starts g in
    let r : nat_lt 0 s.room ≡ true = grind (arith, nat_tests) in
    ap (λ (b : Bool). b && (nat_lt 0 s.room || (not (is_some s.app) || is_set_to s.app 0 golden_version))) e ∙ ap (λ (b : Bool). b || (not (is_some s.app) || is_set_to s.app 0 golden_version)) r

by_three : (s : Store) → s.gesture ≡ short_starts → 1 ≤ s.room → GoldenRuns (boot_counted s)
by_three s g room = subst GoldenRuns (sym (counted_golden s (three_true s g room))) (golden_runs s true)

counts_few : (k : StartCause) (s : Store) → counts k s ≡ true → s.gesture < short_starts
counts_few Power s h = let a = (and_parts (nat_lt s.gesture short_starts) (nat_lt 0 s.room) h).0 in grind (arith, nat_tests)
counts_few Order s h = absurd cc

pub three_stand : (k : StartCause) (s : Store) → s.gesture ≡ short_starts → 1 ≤ s.room → IfSome (boot k s).runs IsGolden
three_stand k s g room =
    subst (λ (o : Option Runs). IfSome o IsGolden) (sym (boot_runs k s))
    (count_cases (λ (t : Store). GoldenRuns (boot_counted t)) k s (λ h. let few = counts_few k s h in absurd (omega arith)) (λ _. by_three s g room))

power_counts : (s : Store) → s.gesture < short_starts → 1 ≤ s.room → counts Power s ≡ true
power_counts s few room =
    let a : nat_lt s.gesture short_starts ≡ true = grind (arith, nat_tests) in
    let b : nat_lt 0 s.room ≡ true = grind (arith, nat_tests) in
    ap (λ (x : Bool). x && nat_lt 0 s.room) a ∙ b

pub third_golden : (s : Store) → s.gesture + 1 ≡ short_starts → 2 ≤ s.room → IfSome (boot Power s).runs IsGolden
third_golden s g room =
    subst (λ (o : Option Runs). IfSome o IsGolden) (sym (boot_runs Power s))
    (count_cases (λ (t : Store). GoldenRuns (boot_counted t)) Power s
    (λ _. by_three (Counted s) g (omega arith))
    (λ h. let more = power_counts s (omega arith) (omega arith) in absurd cc))

-- ---- a waived order

abbrev Unordered : Option App → Boot → Type 0
Unordered a b = IfSome b.runs (λ r. IsGolden r ⊎ (a ≡ Some (app_of r)))

golden_unordered : (a : Option App) (s : Store) (three : Bool) → Unordered a (golden_boot s three)
golden_unordered a s three =
    golden_cases (Unordered a) s three (λ app. inl (record { image = refl; version = refl }))
    (cond_both (sound s 0) _ _ (Unordered a) (λ _. inl (record { image = refl; version = refl })) (λ _. tt))

kept_unordered : (s : Store) (three : Bool) → Unordered s.app (kept_boot s three)
kept_unordered s three = kept_cases (Unordered s.app) s three (λ app is. inr is) (golden_unordered s.app s three)

waits_unwaived : (s : Store) → order_waits s ≡ true → s.waived ≡ false
waits_unwaived s h =
    let whole = is_whole (held s s.order.image) s.order.version in
    let rest = not (is_set_to s.app s.order.image s.order.version) && nat_le 2 s.room in
    let one = and_parts (not (s.order.number == 0)) (not s.waived && (whole && rest)) h in
    let two = and_parts (not s.waived) (whole && rest) one.1 in
    not_true s.waived two.0
  where
    not_true : (b : Bool) → not b ≡ true → b ≡ false
    not_true false h = refl
    not_true true h = absurd cc

counted_unordered : (s : Store) → s.waived ≡ true → Unordered s.app (boot_counted s)
counted_unordered s waived =
    by_cases (Unordered s.app) s (golden_unordered s.app s true) (kept_unordered s (s.gesture == short_starts))
    (λ w. let e = waits_unwaived s w in absurd cc) (λ w. let e = waits_unwaived s w in absurd cc)

pub waived_unordered : (k : StartCause) (s : Store) → s.waived ≡ true → IfSome (boot k s).runs (λ r. IsGolden r ⊎ (s.app ≡ Some (app_of r)))
waived_unordered k s waived =
    subst (λ (o : Option Runs). IfSome o (λ r. IsGolden r ⊎ (s.app ≡ Some (app_of r)))) (sym (boot_runs k s))
    (count_cases (λ (t : Store). Unordered s.app (boot_counted t)) k s (λ _. counted_unordered (Counted s) waived) (λ _. counted_unordered s waived))

-- ---- golden that is sound

abbrev HasImage : Boot → Type 0
HasImage b = IsSome b.runs

golden_has : (s : Store) (three : Bool) → sound s 0 ≡ true → HasImage (golden_boot s three)
golden_has s three h =
    golden_cases HasImage s three (λ app. refl) (cond_both (sound s 0) _ _ HasImage (λ _. refl) (λ other. let e = other in absurd cc))

kept_has : (s : Store) (three : Bool) → sound s 0 ≡ true → HasImage (kept_boot s three)
kept_has s three h = kept_cases HasImage s three (λ app is. refl) (golden_has s three h)

order_has : (s : Store) → HasImage (order_boot s)
unfolding order_boot
order_has s = refl

counted_has : (s : Store) → sound s 0 ≡ true → HasImage (boot_counted s)
counted_has s h = by_cases HasImage s (golden_has s true h) (kept_has s (s.gesture == short_starts) h) (λ _. order_has s) (λ _. kept_has (waived_once s) (s.gesture == short_starts) h)

pub sound_has : (k : StartCause) (s : Store) → sound s 0 ≡ true → IsSome (boot k s).runs
sound_has k s h =
    subst (λ (o : Option Runs). IsSome o) (sym (boot_runs k s)) (count_cases (λ (t : Store). HasImage (boot_counted t)) k s (λ _. counted_has (Counted s) h) (λ _. counted_has s h))

-- ---- program memory that is set to golden

golden_set : (s : Store) (three : Bool) → is_set_to s.app 0 golden_version ≡ true → HasImage (golden_boot s three)
golden_set s three h = let x = set_to s.app 0 golden_version h in subst HasImage (sym (golden_kept_is s three x.app h x.is)) refl

kept_set : (s : Store) (three : Bool) → is_set_to s.app 0 golden_version ≡ true → HasImage (kept_boot s three)
kept_set s three h = kept_cases HasImage s three (λ app is. refl) (golden_set s three h)

counted_set : (s : Store) → is_set_to s.app 0 golden_version ≡ true → HasImage (boot_counted s)
counted_set s h = by_cases HasImage s (golden_set s true h) (kept_set s (s.gesture == short_starts) h) (λ _. order_has s) (λ _. kept_set (waived_once s) (s.gesture == short_starts) h)

pub set_has : (k : StartCause) (s : Store) → is_set_to s.app 0 golden_version ≡ true → IsSome (boot k s).runs
set_has k s h =
    subst (λ (o : Option Runs). IsSome o) (sym (boot_runs k s)) (count_cases (λ (t : Store). HasImage (boot_counted t)) k s (λ _. counted_set (Counted s) h) (λ _. counted_set s h))

-- ---- what a stop before the last operation leaves of program memory

-- it is blank, or unchanged
abbrev Was : Option App → Store → Type 0
Was a x = (x.app ≡ a) ⊎ (x.app ≡ None)

near_was : (a : Option App) (b x : Store) → Was a b → IsNear b x → Was a x
near_was a b x was near =
    let same : x.app ≡ b.app = ap (λ (t : Store). t.app) near.same in
    ⊎_elim (λ e. inl (same ∙ e)) (λ e. inr (same ∙ e)) was

-- a stop anywhere, and one before the last operation
abbrev AllWas : Option App → Trail Store → Type 0
AllWas a t = (k : ℕ) (x : Store) → Leaves IsNear t k x → Was a x

abbrev EarlyWas : Option App → Trail Store → Type 0
EarlyWas a t = (k : ℕ) (x : Store) → k + 1 < operations t → Leaves IsNear t k x → Was a x

all_resting : (a : Option App) (s : Store) (n : ℕ) → Was a s → AllWas a (resting s n)
unfolding LeavesFrom
all_resting a s n was k x near = near_was a s x was near

early_committing : (a : Option App) (s next : Store) → Was a s → EarlyWas a (committing s next)
early_committing a s next was k x early leaves =
    let count = operations-stepping s (commit_operations s.room) next in
    ⊎_elim (λ near. near_was a s x was near) (λ done. absurd (omega (arith, count, early, done.0)))
    ((Leaves-stepping IsNear s (commit_operations s.room) next k x (omega (arith, count, early))).0 leaves)

all_committing : (a : Option App) (s next : Store) → Was a s → Was a next → AllWas a (committing s next)
unfolding LeavesFrom
all_committing a s next was then k x leaves =
    ⊎_elim (λ past. near_was a next x then past.1)
    (λ within. ⊎_elim (λ near. near_was a s x was near) (λ done. subst (λ (t : Store). Was a t) (sym done.1) then) within.1)
    leaves

all_joined : (a : Option App) (t u : Trail Store) → EachWorks u.stages → last t ≡ u.first → AllWas a t → AllWas a u → AllWas a (joined t u)
all_joined a t u works same p q k x leaves =
    ⊎_elim
    (λ early. p k x ((Leaves-joined_early IsNear t u k x works early).0 leaves))
    (λ late. q (k - operations t) x ((Leaves-joined_late IsNear t u k x same late).0 leaves))
    (cases_lt k (operations t))

early_joined : (a : Option App) (t u : Trail Store) → EachWorks u.stages → last t ≡ u.first → AllWas a t → EarlyWas a u → EarlyWas a (joined t u)
early_joined a t u works same p q k x before leaves =
    let sum = operations-joined t u in
    ⊎_elim
    (λ early. p k x ((Leaves-joined_early IsNear t u k x works early).0 leaves))
    (λ late. q (k - operations t) x (omega (arith, sum, late, before)) ((Leaves-joined_late IsNear t u k x same late).0 leaves))
    (cases_lt k (operations t))

early_all : (a : Option App) (t : Trail Store) → AllWas a t → EarlyWas a t
early_all a t p k x before leaves = p k x leaves

blank_was_by : (a : Option App) (s : Store) (o : Option App) → Was a s → AllWas a (blank_by o s)
blank_was_by a s None was = all_resting a s 0 was
blank_was_by a s (Some app) was = all_committing a s _ was (inr refl)

blank_was : (a : Option App) (s : Store) → Was a s → AllWas a (blank_trail s)
unfolding blank_trail
blank_was a s was = blank_was_by a s s.app was

finish_was : (a : Option App) (s : Store) (r : Runs) (three : Bool) → Was a s → EarlyWas a (finish_trail s r three)
unfolding finish_trail
finish_was a s r three was = cond_both (finishes s three) _ _ (EarlyWas a) (λ _. early_committing a s (golden_done s r three) was) (λ _. early_all a (resting s 0) (all_resting a s 0 was))

abbrev BootWas : Option App → Boot → Type 0
BootWas a b = EarlyWas a b.trail

order_was : (a : Option App) (s : Store) → Was a s → BootWas a (order_boot s)
unfolding order_boot
order_was a s was =
    let r = kept_runs s s.order.image s.order.version in
    let b = last (blank_trail s) in
    let none : Was a b = inr (blank_app s) in
    let next : Store = record (spent b) { app = Some (app_of r) } in
    let c = committing b next in
    let copy = copy_trail b r.pages in
    let set : EarlyWas a c = early_committing a b next none in
    let works = begins_committing b next in
    let rest : EarlyWas a (joined copy c) = early_joined a copy c works.works (last-resting b (copy_operations * length r.pages)) (all_resting a b (copy_operations * length r.pages) none) set in
    let whole = begins_joined b copy c (copy_begins b r.pages) works.works in
    early_joined a (blank_trail s) (joined copy c) whole.works (sym whole.first) (blank_was a s was) rest

loaded_was : (a : Option App) (s : Store) (three : Bool) → Was a s → BootWas a (golden_loaded s three)
loaded_was a s three was =
    let r = kept_runs s 0 golden_version in
    let b = last (blank_trail s) in
    let none : Was a b = inr (blank_app s) in
    let c = finish_trail b r three in
    let f = finish_begins b r three in
    let copy = copy_trail b r.pages in
    let rest : EarlyWas a (joined copy c) = early_joined a copy c f.works (last-resting b (copy_operations * length r.pages) ∙ sym f.first) (all_resting a b (copy_operations * length r.pages) none) (finish_was a b r three none) in
    let whole = begins_joined b copy c (copy_begins b r.pages) f.works in
    early_joined a (blank_trail s) (joined copy c) whole.works (sym whole.first) (blank_was a s was) rest

golden_was : (a : Option App) (s : Store) (three : Bool) → Was a s → BootWas a (golden_boot s three)
golden_was a s three was =
    golden_cases (BootWas a) s three (λ app. finish_was a s (record { image = 0; version = golden_version; pages = app.pages }) three was)
    (cond_both (sound s 0) _ _ (BootWas a) (λ _. loaded_was a s three was) (λ _. early_all a (resting s 0) (all_resting a s 0 was)))

kept_was : (a : Option App) (s : Store) (three : Bool) → Was a s → BootWas a (kept_boot s three)
kept_was a s three was = kept_cases (BootWas a) s three (λ app is. early_all a (resting s 0) (all_resting a s 0 was)) (golden_was a s three was)

counted_was : (a : Option App) (s : Store) → Was a s → BootWas a (boot_counted s)
counted_was a s was =
    let w = waived_once s in
    let k = kept_begins w (s.gesture == short_starts) in
    by_cases (BootWas a) s (golden_was a s true was) (kept_was a s (s.gesture == short_starts) was) (λ _. order_was a s was)
    (λ _. early_joined a (committing s w) (kept_boot w (s.gesture == short_starts)).trail k.works (last-stepping s (commit_operations s.room) w ∙ sym k.first) (all_committing a s w was was) (kept_was a w (s.gesture == short_starts) was))

count_was : (k : StartCause) (s : Store) → AllWas s.app (count_trail k s)
unfolding count_trail
count_was k s = cond_both (counts k s) _ _ (AllWas s.app) (λ _. all_committing s.app s (Counted s) (inl refl) (inl refl)) (λ _. all_resting s.app s 0 (inl refl))

pub set_last : (k : StartCause) (s : Store) → EarlyWas s.app (boot k s).trail
unfolding boot
set_last k s =
    let t = count_trail k s in
    let c = counted_begins (last t) in
    let here : Was s.app (last t) = count_cases (λ (x : Store). Was s.app x) k s (λ _. inl refl) (λ _. inl refl) in
    early_joined s.app t (boot_counted (last t)).trail c.works (sym c.first) (count_was k s) (counted_was s.app (last t) here)

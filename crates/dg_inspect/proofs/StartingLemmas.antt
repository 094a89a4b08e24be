-- What a start runs, case by case.
use Rattle.std.proofs.Common.{◌≡◌, ℕ, ◌+◌, Bool, true, false, Option, Some, None, refl, sym, ap, ◌∙◌}
use Rattle.std.specs.Prelude.{◌==◌, ◌&&◌, ◌||◌, not, if◌then◌else◌}
use Rattle.dg_nor.specs.Trail.{last, resting}
use Rattle.dg_nor.proofs.TrailLemmas.{last-resting, last-stepping}
use Rattle.dg_volume.specs.Sizes.{golden_version, short_starts}
use Rattle.dg_volume.specs.Store.{App, Store}
use Rattle.dg_volume.specs.Told.{program_told}
use Rattle.dg_control.specs.declared.snapshot.Program.TheVariants.{Blank, Set}
use Rattle.dg_volume.specs.Changes.{spent}
use Rattle.dg_volume.specs.Trails.{committing}
use Rattle.dg_volume.specs.Start.{Boot, boot, counts, count_trail, boot_counted, by_gesture, order_waits, sound, is_set_to, golden_boot, golden_by, golden_copied, kept_boot, kept_by, order_boot, waived_once}
use Rattle.dg_volume.specs.declared.volume.StartCause.TheVariants as cause
use Rattle.dg_inspect.specs.Starts.{once_counted, version_of, reason_by, reason_of, waives}
use Rattle.dg_inspect.specs.Facts.{golden_if, counted_gesture, counted_room}
use Rattle.dg_inspect.proofs.PageLemmas.{if_true, if_false}
use Rattle.dg_inspect.specs.declared.seen.ImageVersion.{ImageVersion}
use Rattle.dg_inspect.specs.declared.seen.StartReason.TheVariants as reason

-- ---- golden

copied_by : (b : Bool) (x y : Boot) → version_of (if b then x else y).runs ≡ (if b then version_of x.runs else version_of y.runs)
copied_by true x y = refl
copied_by false x y = refl

stays_by : (b s : Bool) (x y : Boot) → version_of x.runs ≡ golden_if true → version_of y.runs ≡ golden_if s → version_of (if b then x else y).runs ≡ golden_if (s || b)
stays_by true true x y p q = p
stays_by true false x y p q = p
stays_by false true x y p q = q
stays_by false false x y p q = q

copied_runs : (t : Store) (three : Bool) → version_of (golden_copied t three).runs ≡ golden_if (sound t 0)
copied_runs t three = copied_by (sound t 0) _ _

or_false : (b : Bool) → b ≡ b || false
or_false true = refl
or_false false = refl

golden_by_runs : (o : Option App) (t : Store) (three : Bool) → version_of (golden_by o t three).runs ≡ golden_if (sound t 0 || is_set_to o 0 golden_version)
golden_by_runs None t three = copied_runs t three ∙ ap golden_if (or_false (sound t 0))
golden_by_runs (Some app) t three = stays_by (is_set_to (Some app) 0 golden_version) (sound t 0) _ _ refl (copied_runs t three)

pub golden_runs_are : (t : Store) (three : Bool) → version_of (golden_boot t three).runs ≡ golden_if (sound t 0 || is_set_to t.app 0 golden_version)
unfolding golden_boot
golden_runs_are t three = golden_by_runs t.app t three

-- ---- program memory

kept_by_none : (o : Option App) (t : Store) (three : Bool) → o ≡ None → version_of (kept_by o t three).runs ≡ version_of (golden_boot t three).runs
kept_by_none None t three e = refl
kept_by_none (Some app) t three e = absurd cc

pub kept_none : (t : Store) (three : Bool) → t.app ≡ None → version_of (kept_boot t three).runs ≡ version_of (golden_boot t three).runs
unfolding kept_boot
kept_none t three e = kept_by_none t.app t three e

kept_by_some : (o : Option App) (app : App) (t : Store) (three : Bool) → o ≡ Some app → version_of (kept_by o t three).runs ≡ Some (record { image = app.image; version = app.version })
kept_by_some None app t three e = absurd cc
kept_by_some (Some x) app t three e = let same : x ≡ app = cc in ap (λ (y : App). Some (record { image = y.image; version = y.version })) same

pub kept_some : (t : Store) (app : App) (three : Bool) → t.app ≡ Some app → version_of (kept_boot t three).runs ≡ Some (record { image = app.image; version = app.version })
unfolding kept_boot
kept_some t app three e = kept_by_some t.app app t three e

-- an order that is waived changes none of this
waived_by : (o : Option App) (t : Store) (three : Bool) → t.app ≡ o → version_of (kept_by o (waived_once t) three).runs ≡ version_of (kept_by o t three).runs
waived_by None t three e = golden_runs_are (waived_once t) three ∙ sym (golden_runs_are t three)
waived_by (Some app) t three e = refl

waived_kept : (t : Store) (three : Bool) → version_of (kept_boot (waived_once t) three).runs ≡ version_of (kept_boot t three).runs
unfolding kept_boot
waived_kept t three = waived_by t.app t three refl

-- ---- the cases

pub runs_by_gesture : (t : Store) → by_gesture t ≡ true → version_of (boot_counted t).runs ≡ version_of (golden_boot t true).runs
unfolding boot_counted
runs_by_gesture t e = ap (λ (b : Boot). version_of b.runs) (if_true (by_gesture t) _ _ e)

pub runs_by_order : (t : Store) → by_gesture t ≡ false → order_waits t ≡ true → sound t t.order.image ≡ true → version_of (boot_counted t).runs ≡ Some (record { image = t.order.image; version = t.order.version })
unfolding boot_counted order_boot
runs_by_order t e w s = ap (λ (b : Boot). version_of b.runs) (if_false (by_gesture t) _ _ e ∙ if_true (order_waits t) _ _ w ∙ if_true (sound t t.order.image) _ _ s)

pub runs_waived : (t : Store) → by_gesture t ≡ false → order_waits t ≡ true → sound t t.order.image ≡ false → version_of (boot_counted t).runs ≡ version_of (kept_boot t (t.gesture == short_starts)).runs
unfolding boot_counted
runs_waived t e w s =
    ap (λ (b : Boot). version_of b.runs) (if_false (by_gesture t) _ _ e ∙ if_true (order_waits t) _ _ w ∙ if_false (sound t t.order.image) _ _ s)
    ∙ waived_kept t (t.gesture == short_starts)

pub runs_on : (t : Store) → by_gesture t ≡ false → order_waits t ≡ false → version_of (boot_counted t).runs ≡ version_of (kept_boot t (t.gesture == short_starts)).runs
unfolding boot_counted
runs_on t e w = ap (λ (b : Boot). version_of b.runs) (if_false (by_gesture t) _ _ e ∙ if_false (order_waits t) _ _ w)

-- no order is started
pub runs_else : (t : Store) → by_gesture t ≡ false → (order_waits t && sound t t.order.image) ≡ false → version_of (boot_counted t).runs ≡ version_of (kept_boot t (t.gesture == short_starts)).runs
runs_else t e h = by (order_waits t) (sound t t.order.image) refl refl h
  where
    by : (w s : Bool) → order_waits t ≡ w → sound t t.order.image ≡ s → (w && s) ≡ false → version_of (boot_counted t).runs ≡ version_of (kept_boot t (t.gesture == short_starts)).runs
    by true true p q k = absurd cc
    by true false p q k = runs_waived t e p q
    by false s p q k = runs_on t e p

pub reason_by_gesture : (t : Store) → by_gesture t ≡ true → reason_of t ≡ reason.ShortStarts
reason_by_gesture t e = if_true (by_gesture t) _ _ e

pub reason_by_order : (t : Store) → by_gesture t ≡ false → (order_waits t && sound t t.order.image) ≡ true → reason_of t ≡ reason.Order
reason_by_order t e h = if_false (by_gesture t) _ _ e ∙ if_true (order_waits t && sound t t.order.image) _ _ h

pub reason_else : (t : Store) → by_gesture t ≡ false → (order_waits t && sound t t.order.image) ≡ false → reason_of t ≡ reason_by t.app
reason_else t e h = if_false (by_gesture t) _ _ e ∙ if_false (order_waits t && sound t t.order.image) _ _ h

waives_bools : (g w s r : Bool) → r ≡ (not g && (w && not s)) → g ≡ false → (w && s) ≡ false → w ≡ r
waives_bools true w s r e p q = absurd cc
waives_bools false true true r e p q = absurd cc
waives_bools false true false r e p q = sym e
waives_bools false false s r e p q = sym e

pub waives_else : (t : Store) → by_gesture t ≡ false → (order_waits t && sound t t.order.image) ≡ false → order_waits t ≡ waives t
waives_else t e h = waives_bools (by_gesture t) (order_waits t) (sound t t.order.image) (waives t) refl e h

waives_bools_order : (g w s r : Bool) → r ≡ (not g && (w && not s)) → (w && s) ≡ true → false ≡ r
waives_bools_order true w s r e q = sym e
waives_bools_order false true true r e q = sym e
waives_bools_order false true false r e q = absurd cc
waives_bools_order false false s r e q = absurd cc

pub waives_order : (t : Store) → (order_waits t && sound t t.order.image) ≡ true → false ≡ waives t
waives_order t h = waives_bools_order (by_gesture t) (order_waits t) (sound t t.order.image) (waives t) refl h

waives_bools_gesture : (g w s r : Bool) → r ≡ (not g && (w && not s)) → g ≡ true → false ≡ r
waives_bools_gesture true w s r e q = sym e
waives_bools_gesture false w s r e q = absurd cc

pub waives_gesture : (t : Store) → by_gesture t ≡ true → false ≡ waives t
waives_gesture t h = waives_bools_gesture (by_gesture t) (order_waits t) (sound t t.order.image) (waives t) refl h

-- ---- the count

pub boot_runs : (s : Store) → version_of (boot cause.Power s).runs ≡ version_of (boot_counted (once_counted s)).runs
unfolding boot
boot_runs s = refl

counted_by : (b : Bool) (s x : Store) → last (if b then committing s x else resting s 0) ≡ (if b then x else s)
counted_by true s x = last-stepping s _ x
counted_by false s x = last-resting s 0

-- the store once the start is counted, field by field
pub once_counted_is : (s : Store) → once_counted s ≡ (if counts cause.Power s then record (spent s) { gesture = s.gesture + 1 } else s)
unfolding count_trail
once_counted_is s = counted_by (counts cause.Power s) s _

field : {A : Type 0} (f : Store → A) (b : Bool) (x s : Store) → f (if b then x else s) ≡ (if b then f x else f s)
field f true x s = refl
field f false x s = refl

same_field : {A : Type 0} (f : Store → A) (b : Bool) (x s : Store) → f x ≡ f s → f (if b then x else s) ≡ f s
same_field f true x s e = e
same_field f false x s e = refl

pub counted_field : {A : Type 0} (f : Store → A) (s : Store) → f (record (spent s) { gesture = s.gesture + 1 }) ≡ f s → f (once_counted s) ≡ f s
counted_field f s e = ap f (once_counted_is s) ∙ same_field f (counts cause.Power s) _ s e

pub gesture_counted : (s : Store) → (once_counted s).gesture ≡ counted_gesture s.gesture s.room
gesture_counted s = ap (λ (x : Store). x.gesture) (once_counted_is s) ∙ field (λ (x : Store). x.gesture) (counts cause.Power s) _ s

pub room_counted : (s : Store) → (once_counted s).room ≡ counted_room s.gesture s.room
room_counted s = ap (λ (x : Store). x.room) (once_counted_is s) ∙ field (λ (x : Store). x.room) (counts cause.Power s) _ s

-- ---- what is reported of program memory

pub told_blank : (o : Option App) → program_told o ≡ Blank → o ≡ None
told_blank None e = refl
told_blank (Some app) e = absurd cc

pub told_set : (o : Option App) (i v : ℕ) → program_told o ≡ Set i v → (app : App) × (o ≡ Some app) × (◌≡◌ {A = Option ImageVersion} (Some (record { image = i; version = v })) (Some (record { image = app.image; version = app.version })))
told_set None i v e = absurd cc
told_set (Some app) i v e =
    let image : app.image ≡ i = cc in
    let version : app.version ≡ v = cc in
    (app, refl, version_pair i app.image v app.version (sym image) (sym version))
  where
    version_pair : (i j v w : ℕ) → i ≡ j → v ≡ w → ◌≡◌ {A = Option ImageVersion} (Some (record { image = i; version = v })) (Some (record { image = j; version = w }))
    version_pair i j v w e f = ap (λ (x : ℕ). Some (record { image = x; version = v })) e ∙ ap (λ (x : ℕ). Some (record { image = j; version = x })) f

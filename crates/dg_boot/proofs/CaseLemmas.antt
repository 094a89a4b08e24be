-- The cases of a start.
use Rattle.std.proofs.Common.{◌≡◌, ◌≢◌, ℕ, ◌+◌, ◌-◌, ◌*◌, ◌<◌, ◌≤◌, Bool, true, false, List, length, Option, Some, None, IfSome, IsSomeAnd, refl, sym, ap, subst, ◌∙◌, arith, eq-eqb}
use Rattle.std.proofs.lemmas.Bool.{eqb-true, and_parts, or_right}
use Rattle.std.proofs.lemmas.Bool.Decides.{nat_tests}
use Rattle.std.specs.Prelude.{◌==◌, ◌&&◌, ◌||◌, not, nat_lt, nat_le, is_some, if◌then◌else◌}
use Rattle.dg_base.specs.Crc.{crc_of}
use Rattle.dg_nor.specs.Trail.{Trail, last, joined, resting}
use Rattle.dg_nor.proofs.TrailLemmas.{joined-assoc, last-joined, last-resting, last-stepping}
use Rattle.dg_control.specs.Store.{commit_operations}
use Rattle.dg_slot.specs.Layout.{page_sector}
use Rattle.dg_slot.specs.Pages.{page_in}
use Rattle.dg_slot.specs.Kept.{Held, KeepsImage}
use Rattle.dg_volume.specs.Sizes.{images, golden_version, short_starts, copy_operations}
use Rattle.dg_volume.specs.Store.{App, Store, held, KeepsGolden}
use Rattle.dg_volume.specs.Told.{told, told_held}
use Rattle.dg_volume.specs.Stands.{Stands, HoldsApp, kept_at, Mounted}
use Rattle.dg_volume.specs.declared.volume.Kept.{Kept}
use Rattle.dg_volume.specs.declared.volume.Volume.{Volume}
use Rattle.dg_volume.specs.Changes.{spent}
use Rattle.dg_volume.specs.Trails.{committing}
use Rattle.dg_volume.specs.Start.{behind, complete_pages, is_whole, is_set_to, order_waits, by_gesture, blank_by, blank_trail, copy_trail, app_of, kept_runs, order_boot, finish_trail, golden_copied, golden_stays, golden_by, golden_boot, kept_by, kept_boot, waived_once, boot_counted, sound}
use Rattle.dg_boot.specs.Loads.{IsWhole, IsApp, app_from}
use Rattle.dg_boot.specs.Ends.{HoldsWhole, copied_trail, golden_loaded, ordered_boot, golden_fits}

not_true : (b : Bool) → not b ≡ true → b ≡ false
not_true false h = refl
not_true true h = absurd cc

at_least : (m n : ℕ) → nat_le m n ≡ true → m ≤ n
at_least m n h = grind (arith, nat_tests)

above : (m n : ℕ) → nat_lt m n ≡ true → m < n
above m n h = grind (arith, nat_tests)

-- ---- once program memory is blank

blank_app_by : (s : Store) (o : Option App) → s.app ≡ o → (last (blank_by o s)).app ≡ None
blank_app_by s None e = ap (λ (x : Store). x.app) (last-resting s 0) ∙ e
blank_app_by s (Some app) e = ap (λ (x : Store). x.app) (last-stepping s _ _)

pub blank_app : (s : Store) → (last (blank_trail s)).app ≡ None
unfolding blank_trail
blank_app s = blank_app_by s s.app refl

blank_held_by : (s : Store) (o : Option App) (i : ℕ) → held (last (blank_by o s)) i ≡ held s i
blank_held_by s None i = ap (λ (x : Store). held x i) (last-resting s 0)
blank_held_by s (Some app) i = ap (λ (x : Store). held x i) (last-stepping s _ _)

pub blank_held : (s : Store) (i : ℕ) → held (last (blank_trail s)) i ≡ held s i
unfolding blank_trail
blank_held s i = blank_held_by s s.app i

blank_room_by : (s : Store) (o : Option App) → s.room ≤ (last (blank_by o s)).room + 1
blank_room_by s None = let e : (last (blank_by None s)).room ≡ s.room = ap (λ (x : Store). x.room) (last-resting s 0) in omega arith
blank_room_by s (Some app) = let e : (last (blank_by (Some app) s)).room ≡ s.room - 1 = ap (λ (x : Store). x.room) (last-stepping s _ _) in omega arith

pub blank_room : (s : Store) → s.room ≤ (last (blank_trail s)).room + 1
unfolding blank_trail
blank_room s = blank_room_by s s.app

pub last_copied : (s : Store) (i : ℕ) → last (copied_trail s i) ≡ last (blank_trail s)
last_copied s i = last-joined (blank_trail s) (copy_trail (last (blank_trail s)) (complete_pages (held s i))) refl ∙ last-resting (last (blank_trail s)) (copy_operations * length (complete_pages (held s i)))

pub keeps_found : (c : List ℕ) (s : Store) (i : ℕ) (h : Held) → i < images → Stands c s → held s i ≡ Some h → KeepsImage c i h
keeps_found c s i h known stands e = subst (λ (o : Option Held). IfSome o (KeepsImage c i)) e (stands.contains.kept i known)

-- ---- an image that is kept whole

golden_whole_by : (o : Option Held) → IsSomeAnd o (λ h. (h.version ≡ golden_version) × (length h.complete ≡ h.pages)) → (h : Held) × (o ≡ Some h) × (h.version ≡ golden_version) × IsWhole h
golden_whole_by None h = absurd h
golden_whole_by (Some x) h = (x, refl, h.0, h.1)

pub golden_whole : (s : Store) → KeepsGolden s → HoldsWhole s 0
golden_whole s golden = let x = golden_whole_by (held s 0) golden.whole in record { found = x.0; here = x.1; whole = x.3 }

same_some : (o : Option Held) (g h : Held) → o ≡ Some g → o ≡ Some h → g ≡ h
same_some o g h p q = cc

pub golden_version_of : (s : Store) (h : Held) → KeepsGolden s → held s 0 ≡ Some h → h.version ≡ golden_version
golden_version_of s h golden e = let x = golden_whole_by (held s 0) golden.whole in ap (λ (g : Held). g.version) (same_some (held s 0) h x.0 e x.1) ∙ x.2

whole_by : (o : Option Held) (v : ℕ) → is_whole o v ≡ true → (h : Held) × (o ≡ Some h) × (h.version ≡ v) × IsWhole h
whole_by None v h = absurd cc
whole_by (Some x) v h =
    let parts = and_parts (x.version == v) (length x.complete == x.pages) h in
    (x, refl, eqb-true x.version v parts.0, eqb-true (length x.complete) x.pages parts.1)

-- an order that waits
pub record Waits (s : Store) : Type 0 where
  pub ordered : s.order.number ≢ 0
  pub found : Held
  pub here : held s s.order.image ≡ Some found
  pub version : found.version ≡ s.order.version
  pub whole : IsWhole found
  pub room : 2 ≤ s.room

number_some : (n : ℕ) → (n == 0) ≡ false → n ≢ 0
number_some n h e = let same : (n == 0) ≡ true = eq-eqb n 0 e in absurd cc

pub order_facts : (s : Store) → order_waits s ≡ true → Waits s
order_facts s h =
    let whole = is_whole (held s s.order.image) s.order.version in
    let set = is_set_to s.app s.order.image s.order.version in
    let one = and_parts (not (s.order.number == 0)) (not s.waived && (whole && (not set && nat_le 2 s.room))) h in
    let two = and_parts (not s.waived) (whole && (not set && nat_le 2 s.room)) one.1 in
    let three = and_parts whole (not set && nat_le 2 s.room) two.1 in
    let four = and_parts (not set) (nat_le 2 s.room) three.1 in
    let x = whole_by (held s s.order.image) s.order.version three.0 in
    record { ordered = number_some s.order.number (not_true (s.order.number == 0) one.0); found = x.0; here = x.1; version = x.2; whole = x.3; room = at_least 2 s.room four.1 }

pub order_whole : (s : Store) (i : ℕ) → order_waits s ≡ true → i ≡ s.order.image → HoldsWhole s i
order_whole s i h e = let w = order_facts s h in record { found = w.found; here = ap (held s) e ∙ w.here; whole = w.whole }

-- the version that is kept of it is the ordered one
pub order_version : (s : Store) (i v : ℕ) (h : Held) → order_waits s ≡ true → i ≡ s.order.image → v ≡ s.order.version → held s i ≡ Some h → h.version ≡ v
order_version s i v h waits image version here =
    let w = order_facts s waits in
    ap (λ (g : Held). g.version) (same_some (held s i) h w.found here (ap (held s) image ∙ w.here)) ∙ w.version ∙ sym version

-- page 0 of an image that is kept whole has the CRC that is reported of it
pub first_crc : (c : List ℕ) (v : Volume) (s : Store) (i : ℕ) (k : Kept) → i < images → Mounted c v s → HoldsWhole s i → kept_at v i ≡ Some k → crc_of (page_in c (page_sector i 0)) ≡ k.crc
first_crc c v s i k known m x is =
    let stands = keeps_found c s i x.found known m.stands x.here in
    let some : 0 < length x.found.complete = omega (arith, x.whole, stands.header.some) in
    let e : Some (told_held x.found) ≡ Some k = sym (ap told x.here) ∙ sym (m.tells.kept i known (λ h. h)) ∙ is in
    let same : told_held x.found ≡ k = cc in
    (stands.first some).same_crc ∙ ap (λ (q : Kept). q.crc) same

-- ---- the trail of an ordered start

app_same : (i : ℕ) (h : Held) (v : ℕ) (pages : List (List ℕ)) → h.version ≡ v → pages ≡ h.complete → app_from i h ≡ app_of (record { image = i; version = v; pages = pages })
app_same i h v pages e f =
    let P : ℕ → List (List ℕ) → App = λ w ps. record { image = i; version = w; pages = ps } in
    ap (λ w. P w h.complete) e ∙ ap (P v) (sym f)

pub runs_app : (s : Store) (i v : ℕ) (h : Held) → held s i ≡ Some h → h.version ≡ v → app_from i h ≡ app_of (kept_runs s i v)
runs_app s i v h here version = app_same i h v (complete_pages (held s i)) version (ap complete_pages here)

pub order_trail_is : (s : Store) (i v : ℕ) (h : Held) → i ≡ s.order.image → v ≡ s.order.version → held s i ≡ Some h → h.version ≡ v
    → joined (copied_trail s i) (committing (last (copied_trail s i)) (record (spent (last (copied_trail s i))) { app = Some (app_from i h) })) ≡ (order_boot s).trail
unfolding order_boot
order_trail_is s i v h image version here same =
    let t = blank_trail s in
    let b = last t in
    let copy : ℕ → Trail Store = λ n. copy_trail b (complete_pages (held s n)) in
    let set : App → Trail Store = λ app. committing b (record (spent b) { app = Some app }) in
    ap (λ (x : Store). joined (copied_trail s i) (committing x (record (spent x) { app = Some (app_from i h) }))) (last_copied s i)
    ∙ joined-assoc t (copy i) (set (app_from i h))
    ∙ ap (λ (app : App). joined t (joined (copy i) (set app))) (runs_app s i v h here same)
    ∙ ap (λ (n : ℕ). joined t (joined (copy n) (set (app_of (kept_runs s n v))))) image
    ∙ ap (λ (n : ℕ). joined t (joined (copy s.order.image) (set (app_of (kept_runs s s.order.image n))))) version

pub order_runs : (s : Store) (i v : ℕ) → i ≡ s.order.image → v ≡ s.order.version → (order_boot s).runs ≡ Some (kept_runs s i v)
unfolding order_boot
order_runs s i v image version = ap (λ (n : ℕ). Some (kept_runs s n s.order.version)) (sym image) ∙ ap (λ (n : ℕ). Some (kept_runs s i n)) (sym version)

-- ---- golden

pub loaded_trail_is : (s : Store) (three : Bool) → joined (copied_trail s 0) (finish_trail (last (copied_trail s 0)) (kept_runs s 0 golden_version) three) ≡ (golden_loaded s three).trail
loaded_trail_is s three =
    let r = kept_runs s 0 golden_version in
    ap (λ (x : Store). joined (copied_trail s 0) (finish_trail x r three)) (last_copied s 0)
    ∙ joined-assoc (blank_trail s) (copy_trail (last (blank_trail s)) r.pages) (finish_trail (last (blank_trail s)) r three)

pub copied_sound : (s : Store) (three : Bool) → sound s 0 ≡ true → golden_copied s three ≡ golden_loaded s three
copied_sound s three h = ap (λ (b : Bool). if b then golden_loaded s three else record { runs = None; trail = resting s 0 }) h

pub copied_lacks : (s : Store) (three : Bool) → sound s 0 ≡ false → golden_copied s three ≡ record { runs = None; trail = resting s 0 }
copied_lacks s three h = ap (λ (b : Bool). if b then golden_loaded s three else record { runs = None; trail = resting s 0 }) h

-- program memory is set to this
pub record SetTo (a : Option App) (i v : ℕ) : Type 0 where
  pub app : App
  pub is : a ≡ Some app
  pub same : IsApp app i v

pub set_to : (a : Option App) (i v : ℕ) → is_set_to a i v ≡ true → SetTo a i v
set_to None i v h = absurd cc
set_to (Some app) i v h =
    let parts = and_parts (app.image == i) (app.version == v) h in
    record { app = app; is = refl; same = record { image = eqb-true app.image i parts.0; version = eqb-true app.version v parts.1 } }

golden_stays_by : (s : Store) (three : Bool) (o : Option App) (app : App) → is_set_to o 0 golden_version ≡ true → o ≡ Some app → golden_by o s three ≡ golden_stays s app three
golden_stays_by s three None app h e = absurd cc
golden_stays_by s three (Some x) app h e =
    let same : x ≡ app = cc in
    ap (λ (b : Bool). if b then golden_stays s x three else golden_copied s three) h ∙ ap (λ (y : App). golden_stays s y three) same

pub golden_kept_is : (s : Store) (three : Bool) (app : App) → is_set_to s.app 0 golden_version ≡ true → s.app ≡ Some app → golden_boot s three ≡ golden_stays s app three
unfolding golden_boot
golden_kept_is s three app h e = golden_stays_by s three s.app app h e

golden_copied_by : (s : Store) (three : Bool) (o : Option App) → is_set_to o 0 golden_version ≡ false → golden_by o s three ≡ golden_copied s three
golden_copied_by s three None h = refl
golden_copied_by s three (Some x) h = ap (λ (b : Bool). if b then golden_stays s x three else golden_copied s three) h

pub golden_copied_is : (s : Store) (three : Bool) → is_set_to s.app 0 golden_version ≡ false → golden_boot s three ≡ golden_copied s three
unfolding golden_boot
golden_copied_is s three h = golden_copied_by s three s.app h

either : (a b : Bool) → a || b ≡ true → b ≡ false → a ≡ true
either true b h e = refl
either false b h e = absurd cc

set_here : (o : Option App) → (o ≡ None → ⊥) → is_set_to o 0 golden_version ≡ false → (not (is_some o) || is_set_to o 0 golden_version) ≡ false
set_here None h e = absurd (h refl)
set_here (Some app) h e = e

pub fits_room : (s : Store) → golden_fits s ≡ true → is_set_to s.app 0 golden_version ≡ false → (s.app ≡ None → ⊥) → 1 ≤ s.room
fits_room s h e some = above 0 s.room (either (nat_lt 0 s.room) (not (is_some s.app) || is_set_to s.app 0 golden_version) h (set_here s.app some e))

fits_none_by : (s : Store) (o : Option App) → o ≡ None → nat_lt 0 s.room || (not (is_some o) || is_set_to o 0 golden_version) ≡ true
fits_none_by s None e = or_right (nat_lt 0 s.room) true refl
fits_none_by s (Some app) e = absurd cc

pub fits_none : (s : Store) → s.app ≡ None → golden_fits s ≡ true
fits_none s e = fits_none_by s s.app e

pub fits_gesture : (s : Store) → by_gesture s ≡ true → golden_fits s ≡ true
fits_gesture s h = (and_parts (s.gesture == short_starts) (golden_fits s) h).1

-- ---- what is in program memory

pub kept_runs_on : (s : Store) (three : Bool) (app : App) → s.app ≡ Some app → kept_boot s three ≡ record { runs = Some (record { image = app.image; version = app.version; pages = app.pages }); trail = resting s 0 }
unfolding kept_boot
kept_runs_on s three app e = ap (λ (o : Option App). kept_by o s three) e

pub kept_blank : (s : Store) (three : Bool) → s.app ≡ None → kept_boot s three ≡ golden_boot s three
unfolding kept_boot
kept_blank s three e = ap (λ (o : Option App). kept_by o s three) e

-- ---- the choice

pub order_sound : (s : Store) → sound s s.order.image ≡ true → ordered_boot s ≡ order_boot s
order_sound s h = ap (λ (b : Bool). if b then order_boot s else behind (committing s (waived_once s)) (kept_boot (waived_once s) (s.gesture == short_starts))) h

pub order_unsound : (s : Store) → sound s s.order.image ≡ false → ordered_boot s ≡ behind (committing s (waived_once s)) (kept_boot (waived_once s) (s.gesture == short_starts))
order_unsound s h = ap (λ (b : Bool). if b then order_boot s else behind (committing s (waived_once s)) (kept_boot (waived_once s) (s.gesture == short_starts))) h

pub counted_golden : (s : Store) → by_gesture s ≡ true → boot_counted s ≡ golden_boot s true
unfolding boot_counted
counted_golden s h = ap (λ (b : Bool). if b then golden_boot s true else if order_waits s then ordered_boot s else kept_boot s (s.gesture == short_starts)) h

pub counted_order : (s : Store) → by_gesture s ≡ false → order_waits s ≡ true → boot_counted s ≡ ordered_boot s
unfolding boot_counted
counted_order s h w =
    ap (λ (b : Bool). if b then golden_boot s true else if order_waits s then ordered_boot s else kept_boot s (s.gesture == short_starts)) h
    ∙ ap (λ (b : Bool). if b then ordered_boot s else kept_boot s (s.gesture == short_starts)) w

pub counted_kept : (s : Store) → by_gesture s ≡ false → order_waits s ≡ false → boot_counted s ≡ kept_boot s (s.gesture == short_starts)
unfolding boot_counted
counted_kept s h w =
    ap (λ (b : Bool). if b then golden_boot s true else if order_waits s then ordered_boot s else kept_boot s (s.gesture == short_starts)) h
    ∙ ap (λ (b : Bool). if b then ordered_boot s else kept_boot s (s.gesture == short_starts)) w

-- ---- an image that was copied

pub whole_pages : (c : List ℕ) (s : Store) (i : ℕ) (h : Held) → i < images → Stands c s → held s i ≡ Some h → IsWhole h → 0 < length (complete_pages (held s i))
whole_pages c s i h known stands here whole =
    let keeps = keeps_found c s i h known stands here in
    let count : length (complete_pages (held s i)) ≡ length h.complete = ap (λ (o : Option Held). length (complete_pages o)) here in
    omega (arith, count, whole, keeps.header.some)

pub stays_app : (app : App) (i v : ℕ) → IsApp app i v → app ≡ app_of (record { image = i; version = v; pages = app.pages })
stays_app app i v is =
    let P : ℕ → ℕ → App = λ n m. record { image = n; version = m; pages = app.pages } in
    ap (λ n. P n app.version) is.image ∙ ap (P i) is.version

pub held_app : (c : List ℕ) (s : Store) (app : App) → Stands c s → s.app ≡ Some app → HoldsApp c app
held_app c s app stands is = subst (λ (o : Option App). IfSome o (HoldsApp c)) is stands.contains.app

pub same_app : (o : Option App) (i v : ℕ) (app : App) → is_set_to o i v ≡ true → o ≡ Some app → IsApp app i v
same_app o i v app h is = let x = set_to o i v h in let e : x.app ≡ app = some_app o x.app app x.is is in subst (λ (y : App). IsApp y i v) e x.same
  where
    some_app : (o : Option App) (x y : App) → o ≡ Some x → o ≡ Some y → x ≡ y
    some_app o x y p q = cc

pub waived_room : (s : Store) → last (committing s (waived_once s)) ≡ waived_once s
waived_room s = last-stepping s (commit_operations s.room) (waived_once s)

pub sound_at : (s : Store) (b : Bool) (i : ℕ) → b ≡ sound s i → i ≡ s.order.image → b ≡ sound s s.order.image
sound_at s b i e same = e ∙ ap (sound s) same

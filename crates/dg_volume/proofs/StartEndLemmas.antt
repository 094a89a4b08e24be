-- The stores in which starts end, by case.
use Rattle.std.proofs.Common.{◌≡◌, ℕ, ◌+◌, ◌-◌, ◌*◌, Bool, true, false, cond, List, length, Option, Some, None, refl, sym, ap, ◌∙◌, arith}
use Rattle.std.specs.Prelude.{◌==◌, ◌&&◌, ◌||◌, not, nat_lt}
use Rattle.dg_nor.specs.Trail.{Trail, last, joined, resting}
use Rattle.dg_nor.proofs.TrailLemmas.{last-joined, last-resting, last-stepping}
use Rattle.dg_control.specs.Store.{commit_operations}
use Rattle.dg_volume.specs.Sizes.{golden_version, short_starts, copy_operations}
use Rattle.dg_volume.specs.Store.{Store, App}
use Rattle.dg_volume.specs.Changes.{spent}
use Rattle.dg_volume.specs.Trails.{committing}
use Rattle.dg_volume.specs.Start.{Runs, Boot, behind, counts, count_trail, by_gesture, order_waits, is_set_to, blank_by, blank_trail, copy_trail, app_of, kept_runs, order_boot, golden_done, finish_trail, golden_copied, golden_stays, golden_by, golden_boot, kept_by, kept_boot, waived_once, boot_counted, boot, sound}
use Rattle.dg_volume.specs.Ends.{blank_commits, blanked, ordered_runs, order_started, golden_started, golden_runs, app_runs, BootEnds}
use Rattle.dg_volume.specs.declared.volume.StartCause.{StartCause}
use Rattle.dg_volume.proofs.BeginLemmas.{counted_begins, finish_begins}

-- ---- a start is counted

last_if : (b : Bool) (s next : Store) → last (cond b (committing s next) (resting s 0)) ≡ cond b next s
last_if true s next = last-stepping s (commit_operations s.room) next
last_if false s next = last-resting s 0

pub count_last : (k : StartCause) (s : Store) → last (count_trail k s) ≡ cond (counts k s) (record (spent s) { gesture = s.gesture + 1 }) s
unfolding count_trail
count_last k s = last_if (counts k s) s (record (spent s) { gesture = s.gesture + 1 })

pub counted_ends : (k : StartCause) (s : Store) → ((boot k s).runs ≡ (boot_counted (last (count_trail k s))).runs) × (last (boot k s).trail ≡ last (boot_counted (last (count_trail k s))).trail)
unfolding boot
counted_ends k s =
    let t = last (count_trail k s) in
    (refl, last-joined (count_trail k s) (boot_counted t).trail (sym (counted_begins t).first))

-- ---- program memory is blanked and written

last_blank_by : (o : Option App) (s : Store) → s.app ≡ o → last (blank_by o s) ≡ record s { app = None; room = s.room - blank_commits o }
last_blank_by None s none =
    let room : s.room ≡ s.room - 0 = omega arith in
    last-resting s 0 ∙ ap (λ (x : Option App). record s { app = x }) none ∙ ap (λ (n : ℕ). record s { app = None; room = n }) room
last_blank_by (Some app) s is = last-stepping s (commit_operations s.room) (record (spent s) { app = None })

last_blank : (s : Store) → last (blank_trail s) ≡ blanked s
unfolding blank_trail
last_blank s = last_blank_by s.app s refl

-- the copy leaves the store unchanged, and then the rest follows
last_copied : (s : Store) (pages : List (List ℕ)) (u : Store → Trail Store) → ((x : Store) → (u x).first ≡ x) → last (joined (blank_trail s) (joined (copy_trail (last (blank_trail s)) pages) (u (last (blank_trail s))))) ≡ last (u (blanked s))
unfolding joined
last_copied s pages u begins =
    let b = last (blank_trail s) in
    let copy = copy_trail b pages in
    last-joined (blank_trail s) (joined copy (u b)) refl
    ∙ last-joined copy (u b) (last-resting b (copy_operations * length pages) ∙ sym (begins b))
    ∙ ap (λ (x : Store). last (u x)) (last_blank s)

-- ---- the ordered image

order_last : (s : Store) → BootEnds (order_boot s) (ordered_runs s) (order_started s)
unfolding order_boot
order_last s =
    let r = ordered_runs s in
    let done : Store → Store = λ x. record (spent x) { app = Some (app_of r) } in
    let room : s.room - blank_commits s.app - 1 ≡ s.room - (blank_commits s.app + 1) = omega arith in
    record {
      started = refl;
      ends = last_copied s r.pages (λ x. committing x (done x)) (λ x. refl)
          ∙ last-stepping (blanked s) (commit_operations (blanked s).room) (done (blanked s))
          ∙ ap (λ (n : ℕ). record s { app = Some (app_of r); room = n }) room;
    }

pub order_ends : (s : Store) → by_gesture s ≡ false → order_waits s ≡ true → sound s s.order.image ≡ true → BootEnds (boot_counted s) (ordered_runs s) (order_started s)
unfolding boot_counted
order_ends s golden waits fine =
    let other = behind (committing s (waived_once s)) (kept_boot (waived_once s) (s.gesture == short_starts)) in
    let kept = kept_boot s (s.gesture == short_starts) in
    let is : boot_counted s ≡ order_boot s =
    ap (λ (b : Bool). cond b (golden_boot s true) (cond (order_waits s) (cond (sound s s.order.image) (order_boot s) other) kept)) golden
    ∙ ap (λ (b : Bool). cond b (cond (sound s s.order.image) (order_boot s) other) kept) waits
    ∙ ap (λ (b : Bool). cond b (order_boot s) other) fine in
    let ends = order_last s in
    record { started = ap (λ (b : Boot). b.runs) is ∙ ends.started; ends = ap (λ (b : Boot). last b.trail) is ∙ ends.ends }

-- ---- golden

finish_last : (s : Store) (r : Runs) (three : Bool) → last (finish_trail s r three) ≡ golden_started s r three
unfolding finish_trail
finish_last s r three = last_if (nat_lt 0 s.room && (not (is_set_to s.app 0 golden_version) || three)) s (golden_done s r three)

pub golden_is : (s : Store) → by_gesture s ≡ true → boot_counted s ≡ golden_boot s true
unfolding boot_counted
golden_is s golden =
    ap (λ (b : Bool). cond b (golden_boot s true) (cond (order_waits s)
    (cond (sound s s.order.image) (order_boot s) (behind (committing s (waived_once s)) (kept_boot (waived_once s) (s.gesture == short_starts))))
    (kept_boot s (s.gesture == short_starts)))) golden

kept_is : (s : Store) → by_gesture s ≡ false → order_waits s ≡ false → boot_counted s ≡ kept_boot s (s.gesture == short_starts)
unfolding boot_counted
kept_is s golden none =
    let ordered = cond (sound s s.order.image) (order_boot s) (behind (committing s (waived_once s)) (kept_boot (waived_once s) (s.gesture == short_starts))) in
    let kept = kept_boot s (s.gesture == short_starts) in
    ap (λ (b : Bool). cond b (golden_boot s true) (cond (order_waits s) ordered kept)) golden ∙ ap (λ (b : Bool). cond b ordered kept) none

pub blank_is : (s : Store) → by_gesture s ≡ false → order_waits s ≡ false → s.app ≡ None → boot_counted s ≡ golden_boot s (s.gesture == short_starts)
unfolding kept_boot
blank_is s golden none blank = kept_is s golden none ∙ ap (λ (o : Option App). kept_by o s (s.gesture == short_starts)) blank

pub kept_ends : (s : Store) (app : App) → by_gesture s ≡ false → order_waits s ≡ false → s.app ≡ Some app → BootEnds (boot_counted s) (app_runs app) s
unfolding kept_boot
kept_ends s app golden none here =
    let is = kept_is s golden none ∙ ap (λ (o : Option App). kept_by o s (s.gesture == short_starts)) here in
    record { started = ap (λ (b : Boot). b.runs) is; ends = ap (λ (b : Boot). last b.trail) is ∙ last-resting s 0 }

copied_by : (o : Option App) (s : Store) (three : Bool) → is_set_to o 0 golden_version ≡ false → golden_by o s three ≡ golden_copied s three
copied_by None s three other = refl
copied_by (Some app) s three other = ap (λ (b : Bool). cond b (golden_stays s app three) (golden_copied s three)) other

copied_is : (s : Store) (three : Bool) → is_set_to s.app 0 golden_version ≡ false → golden_boot s three ≡ golden_copied s three
unfolding golden_boot
copied_is s three other = copied_by s.app s three other

copied_last : (s : Store) (three : Bool) → sound s 0 ≡ true → BootEnds (golden_copied s three) (kept_runs s 0 golden_version) (golden_started (blanked s) (kept_runs s 0 golden_version) three)
copied_last s three fine =
    let r = kept_runs s 0 golden_version in
    let b = last (blank_trail s) in
    let copied : Boot = record { runs = Some r; trail = joined (blank_trail s) (joined (copy_trail b r.pages) (finish_trail b r three)) } in
    let is : golden_copied s three ≡ copied = ap (λ (x : Bool). cond x copied (record { runs = None; trail = resting s 0 })) fine in
    record {
      started = ap (λ (x : Boot). x.runs) is;
      ends = ap (λ (x : Boot). last x.trail) is ∙ last_copied s r.pages (λ x. finish_trail x r three) (λ x. (finish_begins x r three).first) ∙ finish_last (blanked s) r three;
    }

pub golden_copied_ends : (s : Store) (three : Bool) → is_set_to s.app 0 golden_version ≡ false → sound s 0 ≡ true
    → BootEnds (golden_boot s three) (kept_runs s 0 golden_version) (golden_started (blanked s) (kept_runs s 0 golden_version) three)
golden_copied_ends s three other fine =
    let is = copied_is s three other in
    let ends = copied_last s three fine in
    record { started = ap (λ (b : Boot). b.runs) is ∙ ends.started; ends = ap (λ (b : Boot). last b.trail) is ∙ ends.ends }

stays_is : (s : Store) (app : App) (three : Bool) → s.app ≡ Some app → is_set_to (Some app) 0 golden_version ≡ true → golden_boot s three ≡ golden_stays s app three
unfolding golden_boot
stays_is s app three is set =
    ap (λ (o : Option App). golden_by o s three) is ∙ ap (λ (b : Bool). cond b (golden_stays s app three) (golden_copied s three)) set

pub golden_stays_ends : (s : Store) (app : App) (three : Bool) → s.app ≡ Some app → is_set_to (Some app) 0 golden_version ≡ true → BootEnds (golden_boot s three) (golden_runs app) (golden_started s (golden_runs app) three)
golden_stays_ends s app three here set =
    let is = stays_is s app three here set in
    record { started = ap (λ (b : Boot). b.runs) is; ends = ap (λ (b : Boot). last b.trail) is ∙ finish_last s (golden_runs app) three }

-- Each act's trail begins at the store before it, and each of its stages has an operation.
use Rattle.std.proofs.Common.{ℕ, ◌<◌, Bool, true, List, Option, Some, None, refl, arith}
use Rattle.std.proofs.lemmas.Bool.{cond_both}
use Rattle.std.specs.Prelude.{◌%◌, ◌==◌, ◌&&◌, ◌||◌, not, nat_lt}
use Rattle.dg_nor.specs.Trail.{Trail, EachWorks, joined, last, resting}
use Rattle.dg_nor.proofs.TrailLemmas.{EachWorks-resting, EachWorks-stepping, EachWorks-joined}
use Rattle.dg_control.specs.Store.{commit_operations}
use Rattle.dg_object.specs.Object.{Row, Outline, object, profile}
use Rattle.dg_slot.specs.Kept.{Held, held_begun}
use Rattle.dg_volume.specs.Sizes.{golden_version, short_starts, old_form}
use Rattle.dg_volume.specs.Store.{Store, App, held}
use Rattle.dg_volume.specs.Changes.{spent, keeping, is_version, inject_refusal}
use Rattle.dg_volume.specs.Trails.{BeginsAt, committing, migrate_trail, drop_by, drop_trail, open_trail, take_trail, fill_trail, inject_by, inject_trail}
use Rattle.dg_volume.specs.Start.{Runs, Boot, counts, count_trail, by_gesture, order_waits, blank_by, blank_trail, copy_trail, app_of, kept_runs, order_boot, finish_trail, golden_copied, golden_by, golden_boot, kept_by, kept_boot, waived_once, boot_counted, boot, is_set_to, sound}
use Rattle.dg_volume.specs.declared.volume.InjectFault.{InjectFault}
use Rattle.dg_volume.specs.declared.volume.StartCause.{StartCause}
use Rattle.dg_volume.proofs.FillLemmas.{fill_first, fill_works}

commit_works : (room : ℕ) → 0 < commit_operations room
commit_works room = cond_both (room % 32 == 0) 4 2 (λ n. 0 < n) (λ _. omega arith) (λ _. omega arith)

pub begins_resting : (s : Store) (n : ℕ) → BeginsAt s (resting s n)
begins_resting s n = record { first = refl; works = EachWorks-resting s n }

pub begins_committing : (s next : Store) → BeginsAt s (committing s next)
begins_committing s next = record { first = refl; works = EachWorks-stepping s (commit_operations s.room) next (commit_works s.room) }

pub begins_joined : (s : Store) (t u : Trail Store) → BeginsAt s t → EachWorks u.stages → BeginsAt s (joined t u)
unfolding joined
begins_joined s t u b works = record { first = b.first; works = EachWorks-joined t u b.works works }

pub migrate_begins : (form : ℕ) (s : Store) → BeginsAt s (migrate_trail form s)
migrate_begins form s = cond_both (form == old_form) _ _ (BeginsAt s) (λ _. begins_committing s _) (λ _. begins_resting s 0)

-- ---- a take and an injection

drop_begins : (s : Store) (image : ℕ) (o : Option Held) → BeginsAt s (drop_by o s image)
drop_begins s image None = begins_resting s 0
drop_begins s image (Some h) = begins_committing s (keeping image None (spent s))

pub open_begins : (s : Store) (p : Outline) → BeginsAt s (open_trail s p)
open_begins s p = begins_joined s (resting s 2) (committing s (keeping p.image (Some (held_begun p)) (spent s))) (begins_resting s 2) (begins_committing s _).works

pub take_begins : (s : Store) (p : Outline) → BeginsAt s (take_trail s p)
unfolding take_trail drop_trail
take_begins s p =
    let t = drop_trail s p.image in
    begins_joined s t (open_trail (last t) p) (drop_begins s p.image (held s p.image)) (open_begins (last t) p).works

pub fill_begins : (s : Store) (image : ℕ) (pages : List (List ℕ)) → BeginsAt s (fill_trail s image pages)
fill_begins s image pages = record { first = fill_first s image pages; works = fill_works s image pages }

inject_begins_by : (s : Store) (row : Row) (o : Option InjectFault) → BeginsAt s (inject_by o s row)
inject_begins_by s row (Some fault) = begins_resting s 0
inject_begins_by s row None =
    cond_both (is_version (held s row.image) row.version) _ _ (BeginsAt s)
    (λ _. fill_begins s row.image _)
    (λ _. begins_joined s (take_trail s (profile row)) _ (take_begins s (profile row)) (fill_works (last (take_trail s (profile row))) row.image (object row)))

pub inject_begins : (s : Store) (row : Row) → BeginsAt s (inject_trail s row)
unfolding inject_trail
inject_begins s row = inject_begins_by s row (inject_refusal s row)

-- ---- a start

abbrev pub Begins : Store → Boot → Type 0
Begins s b = BeginsAt s b.trail

blank_begins_by : (s : Store) (o : Option App) → BeginsAt s (blank_by o s)
blank_begins_by s None = begins_resting s 0
blank_begins_by s (Some app) = begins_committing s _

blank_begins : (s : Store) → BeginsAt s (blank_trail s)
unfolding blank_trail
blank_begins s = blank_begins_by s s.app

count_begins : (k : StartCause) (s : Store) → BeginsAt s (count_trail k s)
unfolding count_trail
count_begins k s = cond_both (counts k s) _ _ (BeginsAt s) (λ _. begins_committing s _) (λ _. begins_resting s 0)

pub finish_begins : (s : Store) (r : Runs) (three : Bool) → BeginsAt s (finish_trail s r three)
unfolding finish_trail
finish_begins s r three = cond_both (nat_lt 0 s.room && (not (is_set_to s.app 0 golden_version) || three)) _ _ (BeginsAt s) (λ _. begins_committing s _) (λ _. begins_resting s 0)

order_begins : (s : Store) → Begins s (order_boot s)
unfolding order_boot
order_begins s =
    let r = kept_runs s s.order.image s.order.version in
    let b = last (blank_trail s) in
    let c = committing b (record (spent b) { app = Some (app_of r) }) in
    begins_joined s (blank_trail s) (joined (copy_trail b r.pages) c) (blank_begins s) (begins_joined b (copy_trail b r.pages) c (begins_resting b _) (begins_committing b _).works).works

copied_begins : (s : Store) (three : Bool) → Begins s (golden_copied s three)
copied_begins s three =
    let r = kept_runs s 0 golden_version in
    let b = last (blank_trail s) in
    let f = finish_trail b r three in
    cond_both (sound s 0) _ _ (Begins s)
    (λ _. begins_joined s (blank_trail s) (joined (copy_trail b r.pages) f) (blank_begins s) (begins_joined b (copy_trail b r.pages) f (begins_resting b _) (finish_begins b r three).works).works)
    (λ _. begins_resting s 0)

golden_begins_by : (s : Store) (three : Bool) (o : Option App) → Begins s (golden_by o s three)
golden_begins_by s three None = copied_begins s three
golden_begins_by s three (Some app) = cond_both (is_set_to (Some app) 0 golden_version) _ _ (Begins s) (λ _. finish_begins s _ three) (λ _. copied_begins s three)

golden_begins : (s : Store) (three : Bool) → Begins s (golden_boot s three)
unfolding golden_boot
golden_begins s three = golden_begins_by s three s.app

kept_begins_by : (s : Store) (three : Bool) (o : Option App) → Begins s (kept_by o s three)
kept_begins_by s three (Some app) = begins_resting s 0
kept_begins_by s three None = golden_begins s three

pub kept_begins : (s : Store) (three : Bool) → Begins s (kept_boot s three)
unfolding kept_boot
kept_begins s three = kept_begins_by s three s.app

pub counted_begins : (s : Store) → Begins s (boot_counted s)
unfolding boot_counted
counted_begins s =
    cond_both (by_gesture s) _ _ (Begins s) (λ _. golden_begins s true)
    (λ _. cond_both (order_waits s) _ _ (Begins s)
    (λ _. cond_both (sound s s.order.image) _ _ (Begins s) (λ _. order_begins s)
    (λ _. begins_joined s (committing s (waived_once s)) (kept_boot (waived_once s) (s.gesture == short_starts)).trail (begins_committing s _) (kept_begins (waived_once s) (s.gesture == short_starts)).works))
    (λ _. kept_begins s (s.gesture == short_starts)))

pub boot_begins : (k : StartCause) (s : Store) → Begins s (boot k s)
unfolding boot
boot_begins k s = begins_joined s (count_trail k s) (boot_counted (last (count_trail k s))).trail (count_begins k s) (counted_begins (last (count_trail k s))).works

-- The trails of a start begin at the store before it, and each of their stages has an operation.
use Rattle.std.proofs.Common.{ℕ, Bool, true, List, Option, Some, None}
use Rattle.std.proofs.lemmas.Bool.{cond_both}
use Rattle.std.specs.Prelude.{◌==◌, ◌&&◌, ◌||◌, not, nat_lt}
use Rattle.dg_nor.specs.Trail.{last, joined}
use Rattle.dg_volume.specs.Sizes.{golden_version, short_starts}
use Rattle.dg_volume.specs.Store.{App, Store}
use Rattle.dg_volume.specs.Changes.{spent}
use Rattle.dg_volume.specs.Trails.{BeginsAt, committing}
use Rattle.dg_volume.specs.Start.{Runs, Boot, by_gesture, order_waits, blank_by, blank_trail, copy_trail, app_of, kept_runs, order_boot, finish_trail, golden_copied, golden_by, golden_boot, kept_by, kept_boot, waived_once, boot_counted, is_set_to, sound}
use Rattle.dg_volume.proofs.BeginLemmas.{begins_resting, begins_committing, begins_joined}
use Rattle.dg_boot.specs.Ends.{golden_loaded, ordered_boot}

abbrev pub Begins : Store → Boot → Type 0
Begins s b = BeginsAt s b.trail

blank_begins_by : (s : Store) (o : Option App) → BeginsAt s (blank_by o s)
blank_begins_by s None = begins_resting s 0
blank_begins_by s (Some app) = begins_committing s _

pub blank_begins : (s : Store) → BeginsAt s (blank_trail s)
unfolding blank_trail
blank_begins s = blank_begins_by s s.app

pub copy_begins : (s : Store) (pages : List (List ℕ)) → BeginsAt s (copy_trail s pages)
copy_begins s pages = begins_resting s _

pub finish_begins : (s : Store) (r : Runs) (three : Bool) → BeginsAt s (finish_trail s r three)
unfolding finish_trail
finish_begins s r three = cond_both (nat_lt 0 s.room && (not (is_set_to s.app 0 golden_version) || three)) _ _ (BeginsAt s) (λ _. begins_committing s _) (λ _. begins_resting s 0)

pub order_begins : (s : Store) → Begins s (order_boot s)
unfolding order_boot
order_begins s =
    let r = kept_runs s s.order.image s.order.version in
    let b = last (blank_trail s) in
    let c = committing b (record (spent b) { app = Some (app_of r) }) in
    begins_joined s (blank_trail s) (joined (copy_trail b r.pages) c) (blank_begins s) (begins_joined b (copy_trail b r.pages) c (copy_begins b _) (begins_committing b _).works).works

pub loaded_begins : (s : Store) (three : Bool) → Begins s (golden_loaded s three)
loaded_begins s three =
    let r = kept_runs s 0 golden_version in
    let b = last (blank_trail s) in
    let f = finish_trail b r three in
    begins_joined s (blank_trail s) (joined (copy_trail b r.pages) f) (blank_begins s) (begins_joined b (copy_trail b r.pages) f (copy_begins b _) (finish_begins b r three).works).works

pub copied_begins : (s : Store) (three : Bool) → Begins s (golden_copied s three)
copied_begins s three = cond_both (sound s 0) _ _ (Begins s) (λ _. loaded_begins s three) (λ _. begins_resting s 0)

golden_begins_by : (s : Store) (three : Bool) (o : Option App) → Begins s (golden_by o s three)
golden_begins_by s three None = copied_begins s three
golden_begins_by s three (Some app) = cond_both (is_set_to (Some app) 0 golden_version) _ _ (Begins s) (λ _. finish_begins s _ three) (λ _. copied_begins s three)

pub golden_begins : (s : Store) (three : Bool) → Begins s (golden_boot s three)
unfolding golden_boot
golden_begins s three = golden_begins_by s three s.app

kept_begins_by : (s : Store) (three : Bool) (o : Option App) → Begins s (kept_by o s three)
kept_begins_by s three (Some app) = begins_resting s 0
kept_begins_by s three None = golden_begins s three

pub kept_begins : (s : Store) (three : Bool) → Begins s (kept_boot s three)
unfolding kept_boot
kept_begins s three = kept_begins_by s three s.app

pub ordered_begins : (s : Store) → Begins s (ordered_boot s)
ordered_begins s =
    cond_both (sound s s.order.image) _ _ (Begins s) (λ _. order_begins s)
    (λ _. begins_joined s (committing s (waived_once s)) (kept_boot (waived_once s) (s.gesture == short_starts)).trail (begins_committing s _) (kept_begins (waived_once s) (s.gesture == short_starts)).works)

pub counted_begins : (s : Store) → Begins s (boot_counted s)
unfolding boot_counted
counted_begins s =
    cond_both (by_gesture s) _ _ (Begins s) (λ _. golden_begins s true)
    (λ _. cond_both (order_waits s) _ _ (Begins s) (λ _. ordered_begins s) (λ _. kept_begins s (s.gesture == short_starts)))

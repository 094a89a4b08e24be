-- How much room a start leaves, also where its power is cut.
use Rattle.std.proofs.Common.{◌≡◌, ℕ, ◌+◌, ◌-◌, ◌≤◌, Bool, refl, true, not, ◌&&◌, ◌||◌, ltb, List, [], ◌∷◌, length, Option, Some, None, ⊎_elim, sym, subst, arith}
use Rattle.std.proofs.lemmas.Bool.{cond_both}
use Rattle.std.specs.Prelude.{◌==◌, ◌*◌, if◌then◌else◌}
use Rattle.dg_nor.specs.Trail.{Stage, Trail, last, joined, resting, LeavesFrom, Leaves}
use Rattle.dg_nor.specs.Through.{AllAfter, Through}
use Rattle.dg_nor.proofs.ThroughLemmas.{Through-joined, Through-resting, Through-stepping, Through-last}
use Rattle.dg_control.specs.Store.{commit_operations}
use Rattle.dg_volume.specs.Sizes.{golden_version, short_starts, copy_operations}
use Rattle.dg_volume.specs.Store.{Store, App, IsNear}
use Rattle.dg_volume.specs.Changes.{spent}
use Rattle.dg_volume.specs.Trails.{committing}
use Rattle.dg_volume.specs.Start.{Runs, Boot, behind, counts, count_trail, by_gesture, order_waits, is_set_to, blank_by, blank_trail, copy_trail, app_of, kept_runs, order_boot, golden_done, finish_trail, golden_copied, golden_stays, golden_by, golden_boot, kept_by, kept_boot, waived_once, boot_counted, boot, sound}
use Rattle.dg_volume.specs.declared.volume.StartCause.{StartCause}

-- this many commits are left
abbrev pub Roomy : ℕ → Store → Type 0
Roomy c s = c ≤ s.room

commit_rooms : (c : ℕ) (s t : Store) → t.room ≡ s.room - 1 → c + 1 ≤ s.room → Through (Roomy c) (committing s t)
commit_rooms c s t e h = Through-stepping (Roomy c) s (commit_operations s.room) t (omega (arith, h)) (omega (arith, h, e))

rests_rooms : (c n : ℕ) (s : Store) → c ≤ s.room → Through (Roomy c) (resting s n)
rests_rooms c n s h = Through-resting (Roomy c) s n h

blank_rooms_by : (c : ℕ) (s : Store) (o : Option App) → c + 1 ≤ s.room → Through (Roomy c) (blank_by o s)
blank_rooms_by c s None h = rests_rooms c 0 s (omega (arith, h))
blank_rooms_by c s (Some app) h = commit_rooms c s (record (spent s) { app = None }) refl h

blank_rooms : (c : ℕ) (s : Store) → c + 1 ≤ s.room → Through (Roomy c) (blank_trail s)
unfolding blank_trail
blank_rooms c s h = blank_rooms_by c s s.app h

count_rooms : (c : ℕ) (k : StartCause) (s : Store) → c + 1 ≤ s.room → Through (Roomy c) (count_trail k s)
unfolding count_trail
count_rooms c k s h =
    let t : Store = record (spent s) { gesture = s.gesture + 1 } in
    cond_both (counts k s) (committing s t) (resting s 0) (Through (Roomy c)) (λ _. commit_rooms c s t refl h) (λ _. rests_rooms c 0 s (omega (arith, h)))

finish_rooms : (c : ℕ) (s : Store) (r : Runs) (three : Bool) → c + 1 ≤ s.room → Through (Roomy c) (finish_trail s r three)
unfolding finish_trail
finish_rooms c s r three h =
    cond_both (ltb 0 s.room && (not (is_set_to s.app 0 golden_version) || three)) (committing s (golden_done s r three)) (resting s 0) (Through (Roomy c))
    (λ _. commit_rooms c s (golden_done s r three) refl h) (λ _. rests_rooms c 0 s (omega (arith, h)))

-- program memory is blank, a copy is made, and a last part follows
copied_rooms : (c : ℕ) (s : Store) (pages : List (List ℕ)) (u : Trail Store) → c + 2 ≤ s.room → (c + 1 ≤ (last (blank_trail s)).room → Through (Roomy c) u)
    → Through (Roomy c) (joined (blank_trail s) (joined (copy_trail (last (blank_trail s)) pages) u))
copied_rooms c s pages u h rest =
    let b = last (blank_trail s) in
    let here : c + 1 ≤ b.room = Through-last (Roomy (c + 1)) (blank_trail s) (blank_rooms (c + 1) s (omega (arith, h))) in
    Through-joined (Roomy c) (blank_trail s) (joined (copy_trail b pages) u) (blank_rooms c s (omega (arith, h)))
    (Through-joined (Roomy c) (copy_trail b pages) u (rests_rooms c (copy_operations * length pages) b (omega (arith, here))) (rest here))

order_rooms : (c : ℕ) (s : Store) → c + 2 ≤ s.room → Through (Roomy c) (order_boot s).trail
unfolding order_boot
order_rooms c s h =
    let r = kept_runs s s.order.image s.order.version in
    let b = last (blank_trail s) in
    let t : Store = record (spent b) { app = Some (app_of r) } in
    copied_rooms c s r.pages (committing b t) h (λ here. commit_rooms c b t refl here)

golden_copied_rooms : (c : ℕ) (s : Store) (three : Bool) → c + 2 ≤ s.room → Through (Roomy c) (golden_copied s three).trail
golden_copied_rooms c s three h =
    let r = kept_runs s 0 golden_version in
    let b = last (blank_trail s) in
    let f = finish_trail b r three in
    let copied : Boot = record { runs = Some r; trail = joined (blank_trail s) (joined (copy_trail b r.pages) f) } in
    let none : Boot = record { runs = None; trail = resting s 0 } in
    cond_both (sound s 0) copied none (λ (x : Boot). Through (Roomy c) x.trail)
    (λ _. copied_rooms c s r.pages f h (λ here. finish_rooms c b r three here))
    (λ _. rests_rooms c 0 s (omega (arith, h)))

golden_rooms_by : (c : ℕ) (s : Store) (three : Bool) (o : Option App) → c + 2 ≤ s.room → Through (Roomy c) (golden_by o s three).trail
golden_rooms_by c s three None h = golden_copied_rooms c s three h
golden_rooms_by c s three (Some app) h =
    cond_both (is_set_to (Some app) 0 golden_version) (golden_stays s app three) (golden_copied s three) (λ (x : Boot). Through (Roomy c) x.trail)
    (λ _. finish_rooms c s (record { image = 0; version = golden_version; pages = app.pages }) three (omega (arith, h)))
    (λ _. golden_copied_rooms c s three h)

golden_rooms : (c : ℕ) (s : Store) (three : Bool) → c + 2 ≤ s.room → Through (Roomy c) (golden_boot s three).trail
unfolding golden_boot
golden_rooms c s three h = golden_rooms_by c s three s.app h

kept_rooms_by : (c : ℕ) (s : Store) (three : Bool) (o : Option App) → c + 2 ≤ s.room → Through (Roomy c) (kept_by o s three).trail
kept_rooms_by c s three (Some app) h = rests_rooms c 0 s (omega (arith, h))
kept_rooms_by c s three None h = golden_rooms c s three h

kept_rooms : (c : ℕ) (s : Store) (three : Bool) → c + 2 ≤ s.room → Through (Roomy c) (kept_boot s three).trail
unfolding kept_boot
kept_rooms c s three h = kept_rooms_by c s three s.app h

counted_rooms : (c : ℕ) (s : Store) → c + 3 ≤ s.room → Through (Roomy c) (boot_counted s).trail
unfolding boot_counted
counted_rooms c s h =
    let P : Boot → Type 0 = λ b. Through (Roomy c) b.trail in
    let three = s.gesture == short_starts in
    let t = waived_once s in
    let waived = behind (committing s t) (kept_boot t three) in
    let ordered = if sound s s.order.image then order_boot s else waived in
    let two : c + 2 ≤ s.room = omega (arith, h) in
    cond_both (by_gesture s) (golden_boot s true) (if order_waits s then ordered else kept_boot s three) P (λ _. golden_rooms c s true two)
    (λ _. cond_both (order_waits s) ordered (kept_boot s three) P
    (λ waits. cond_both (sound s s.order.image) (order_boot s) waived P (λ _. order_rooms c s two)
    (λ _. Through-joined (Roomy c) (committing s t) (kept_boot t three).trail
    (commit_rooms c s t refl (omega (arith, h)))
    (kept_rooms c t three (omega (arith, h)))))
    (λ _. kept_rooms c s three two))

-- a start makes at most four commits
pub boot_rooms : (c : ℕ) (k : StartCause) (s : Store) → c + 4 ≤ s.room → Through (Roomy c) (boot k s).trail
unfolding boot
boot_rooms c k s h =
    let t = count_trail k s in
    let here : c + 3 ≤ (last t).room = Through-last (Roomy (c + 3)) t (count_rooms (c + 3) k s (omega (arith, h))) in
    Through-joined (Roomy c) t (boot_counted (last t)).trail (count_rooms c k s (omega (arith, h))) (counted_rooms c (last t) here)

-- ---- where its power is cut, one more is made

near_rooms : (c : ℕ) (a s : Store) → c + 1 ≤ a.room → IsNear a s → c ≤ s.room
near_rooms c a s h near = ⊎_elim (λ same. omega (arith, h, same)) (λ less. omega (arith, h, less)) near.room

leaves_from : (c : ℕ) (a : Store) (xs : List (Stage Store)) (k : ℕ) (s : Store) → c + 1 ≤ a.room → AllAfter (Roomy (c + 1)) xs → LeavesFrom IsNear a xs k s → c ≤ s.room
unfolding LeavesFrom AllAfter
leaves_from c a [] k s h all l = near_rooms c a s h l
leaves_from c a (x ∷ xs) k s h all l =
    ⊎_elim
    (λ later. leaves_from c x.after xs (k - x.operations) s all.0 all.1 later.1)
    (λ here. ⊎_elim (λ n. near_rooms c a s h n) (λ made. subst (Roomy c) (sym made.1) (let low : c + 1 ≤ x.after.room = all.0 in omega (arith, low))) here.1)
    l

pub leaves_rooms : (c : ℕ) (t : Trail Store) (k : ℕ) (s : Store) → Through (Roomy (c + 1)) t → Leaves IsNear t k s → c ≤ s.room
leaves_rooms c t k s through l = leaves_from c t.first t.stages k s through.0 through.1 l

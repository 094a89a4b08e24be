-- A start changes neither what is kept nor the order, wherever it is stopped.
use Rattle.std.proofs.Common.{ℕ, Bool, true, Option, Some, None, refl, ap, ◌∙◌}
use Rattle.std.proofs.lemmas.Bool.{cond_both}
use Rattle.std.specs.Prelude.{◌==◌, ◌*◌, length, ◌&&◌, ◌||◌, not, nat_lt}
use Rattle.dg_nor.specs.Trail.{Trail, last, joined, Leaves}
use Rattle.dg_nor.specs.Through.{Through}
use Rattle.dg_nor.proofs.ThroughLemmas.{Leaves-through, Through-joined, Through-resting, Through-stepping, Through-last}
use Rattle.dg_control.specs.Store.{commit_operations}
use Rattle.dg_volume.specs.Sizes.{golden_version, short_starts, copy_operations}
use Rattle.dg_volume.specs.Store.{Store, App, IsNear}
use Rattle.dg_volume.specs.Changes.{spent}
use Rattle.dg_volume.specs.Trails.{committing, clear_trail}
use Rattle.dg_volume.specs.Start.{Runs, Boot, counts, count_trail, by_gesture, order_waits, blank_by, blank_trail, copy_trail, app_of, kept_runs, order_boot, finish_trail, golden_copied, golden_by, golden_boot, kept_by, kept_boot, waived_once, boot_counted, boot, is_set_to, sound}
use Rattle.dg_volume.specs.declared.volume.StartCause.{StartCause}
use Rattle.dg_world.specs.inner.OutcomeEndings.{SameReport}

-- a store that is near another has the same report
same_report_near : (s a t : Store) → SameReport s a → IsNear a t → SameReport s t
same_report_near s a t same near = record { kept = ap (λ (x : Store). x.kept) near.same ∙ same.kept; order = ap (λ (x : Store). x.order) near.same ∙ same.order }

pub same_report : (s : Store) → SameReport s s
same_report s = record { kept = refl; order = refl }

module _ (start : Store) where
  abbrev Same : Trail Store → Type 0
  Same t = Through (SameReport start) t

  -- one commit of a store with the same report
  commit_same : (s t : Store) → SameReport start s → SameReport start t → Same (committing s t)
  commit_same s t p q = Through-stepping (SameReport start) s (commit_operations s.room) t p q

  blank_same_by : (o : Option App) (s : Store) → SameReport start s → Same (blank_by o s)
  blank_same_by None s p = Through-resting (SameReport start) s 0 p
  blank_same_by (Some app) s p = commit_same s _ p (record { kept = p.kept; order = p.order })

  blank_same : (s : Store) → SameReport start s → Same (blank_trail s)
  unfolding blank_trail
  blank_same s p = blank_same_by s.app s p

  count_same : (k : StartCause) (s : Store) → SameReport start s → Same (count_trail k s)
  unfolding count_trail
  count_same k s p = cond_both (counts k s) _ _ Same (λ _. commit_same s _ p (record { kept = p.kept; order = p.order })) (λ _. Through-resting (SameReport start) s 0 p)

  finish_same : (s : Store) (r : Runs) (three : Bool) → SameReport start s → Same (finish_trail s r three)
  unfolding finish_trail
  finish_same s r three p =
      cond_both (nat_lt 0 s.room && (not (is_set_to s.app 0 golden_version) || three)) _ _ Same (λ _. commit_same s _ p (record { kept = p.kept; order = p.order })) (λ _. Through-resting (SameReport start) s 0 p)

  order_same : (s : Store) → SameReport start s → Same (order_boot s).trail
  unfolding order_boot
  order_same s p =
      let b = last (blank_trail s) in
      let q = Through-last (SameReport start) (blank_trail s) (blank_same s p) in
      let r = kept_runs s s.order.image s.order.version in
      let c = committing b (record (spent b) { app = Some (app_of r) }) in
      Through-joined (SameReport start) (blank_trail s) (joined (copy_trail b r.pages) c) (blank_same s p)
      (Through-joined (SameReport start) (copy_trail b r.pages) c (Through-resting (SameReport start) b (copy_operations * length r.pages) q) (commit_same b _ q (record { kept = q.kept; order = q.order })))

  copied_same : (s : Store) (three : Bool) → SameReport start s → Same (golden_copied s three).trail
  copied_same s three p =
      let b = last (blank_trail s) in
      let q = Through-last (SameReport start) (blank_trail s) (blank_same s p) in
      let r = kept_runs s 0 golden_version in
      cond_both (sound s 0) _ _ (λ (x : Boot). Same x.trail)
      (λ _. Through-joined (SameReport start) (blank_trail s) (joined (copy_trail b r.pages) (finish_trail b r three)) (blank_same s p)
      (Through-joined (SameReport start) (copy_trail b r.pages) (finish_trail b r three) (Through-resting (SameReport start) b (copy_operations * length r.pages) q) (finish_same b r three q)))
      (λ _. Through-resting (SameReport start) s 0 p)

  golden_same_by : (o : Option App) (s : Store) (three : Bool) → SameReport start s → Same (golden_by o s three).trail
  golden_same_by None s three p = copied_same s three p
  golden_same_by (Some app) s three p = cond_both (is_set_to (Some app) 0 golden_version) _ _ (λ (x : Boot). Same x.trail) (λ _. finish_same s _ three p) (λ _. copied_same s three p)

  golden_same : (s : Store) (three : Bool) → SameReport start s → Same (golden_boot s three).trail
  unfolding golden_boot
  golden_same s three p = golden_same_by s.app s three p

  kept_same_by : (o : Option App) (s : Store) (three : Bool) → SameReport start s → Same (kept_by o s three).trail
  kept_same_by (Some app) s three p = Through-resting (SameReport start) s 0 p
  kept_same_by None s three p = golden_same s three p

  kept_same : (s : Store) (three : Bool) → SameReport start s → Same (kept_boot s three).trail
  unfolding kept_boot
  kept_same s three p = kept_same_by s.app s three p

  waived_same : (s : Store) → SameReport start s → SameReport start (waived_once s)
  waived_same s p = record { kept = p.kept; order = p.order }

  counted_same : (s : Store) → SameReport start s → Same (boot_counted s).trail
  unfolding boot_counted
  counted_same s p =
      cond_both (by_gesture s) _ _ (λ (x : Boot). Same x.trail) (λ _. golden_same s true p)
      (λ _. cond_both (order_waits s) _ _ (λ (x : Boot). Same x.trail)
      (λ _. cond_both (sound s s.order.image) _ _ (λ (x : Boot). Same x.trail) (λ _. order_same s p)
      (λ _. let q = waived_same s p in
      Through-joined (SameReport start) (committing s (waived_once s)) (kept_boot (waived_once s) (s.gesture == short_starts)).trail (commit_same s (waived_once s) p q) (kept_same (waived_once s) (s.gesture == short_starts) q)))
      (λ _. kept_same s (s.gesture == short_starts) p))

-- every store of a start's trail has the same report
pub boot_same_from : (start s : Store) (k : StartCause) → SameReport start s → Through (SameReport start) (boot k s).trail
unfolding boot
boot_same_from start s k same =
    let p = count_same start k s same in
    Through-joined (SameReport start) (count_trail k s) (boot_counted (last (count_trail k s))).trail p (counted_same start (last (count_trail k s)) (Through-last (SameReport start) (count_trail k s) p))

pub boot_same : (k : StartCause) (s : Store) → Through (SameReport s) (boot k s).trail
boot_same k s = boot_same_from s s k (same_report s)

pub clear_same : (s : Store) → Through (SameReport s) (clear_trail s)
clear_same s = commit_same s s _ (same_report s) (record { kept = refl; order = refl })

-- so has each store that a stop may leave
pub leaves_same : (s : Store) (t : Trail Store) (k : ℕ) (u : Store) → Through (SameReport s) t → Leaves IsNear t k u → SameReport s u
leaves_same s t k u through l = Leaves-through IsNear (SameReport s) (λ a x. same_report_near s a x) t k u through l

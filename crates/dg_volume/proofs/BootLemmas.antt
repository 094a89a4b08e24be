-- A start goes through stores in which a fact stays true.
use Rattle.std.proofs.Common.{◌≡◌, Bool, true, not, length, Option, Some, None, IfSome, refl}
use Rattle.std.proofs.lemmas.Bool.{cond_both, and_parts}
use Rattle.std.specs.Prelude.{◌==◌, ◌&&◌, ◌||◌, ◌+◌, ◌*◌, nat_lt, if◌then◌else◌}
use Rattle.dg_nor.specs.Trail.{Trail, last, joined, resting}
use Rattle.dg_nor.specs.Through.{Through}
use Rattle.dg_nor.proofs.ThroughLemmas.{Through-joined, Through-resting, Through-stepping, Through-last}
use Rattle.dg_control.specs.Store.{commit_operations}
use Rattle.dg_volume.specs.Sizes.{golden_version, short_starts, copy_operations}
use Rattle.dg_volume.specs.Store.{Store, App, held}
use Rattle.dg_volume.specs.Changes.{spent}
use Rattle.dg_volume.specs.Trails.{committing}
use Rattle.dg_volume.specs.Start.{Runs, Boot, behind, counts, count_trail, by_gesture, order_waits, is_whole, is_set_to, blank_by, blank_trail, copy_trail, app_of, kept_runs, order_boot, golden_done, finish_trail, golden_copied, golden_stays, golden_by, golden_boot, kept_by, kept_boot, waived_once, boot_counted, boot, sound}
use Rattle.dg_volume.specs.declared.volume.StartCause.{StartCause}
use Rattle.dg_volume.proofs.StayLemmas.{Stays}

pub whole_of : (s : Store) → order_waits s ≡ true → is_whole (held s s.order.image) s.order.version ≡ true
whole_of s waits = (and_parts (is_whole (held s s.order.image) s.order.version) _ ((and_parts (not s.waived) _ ((and_parts (not (s.order.number == 0)) _ waits).1)).1)).0

-- what a start may load into program memory
pub record Loads (P : Store → Type 0) (A : App → Type 0) : Type 0 where
  pub golden : (s : Store) → sound s 0 ≡ true → P s → A (app_of (kept_runs s 0 golden_version))
  pub ordered : (s : Store) → order_waits s ≡ true → sound s s.order.image ≡ true → P s → A (app_of (kept_runs s s.order.image s.order.version))
  pub stays : (app : App) → is_set_to (Some app) 0 golden_version ≡ true → A app → A (record { image = 0; version = golden_version; pages = app.pages })

module _ (P : Store → Type 0) (A : App → Type 0) (stays : Stays P A) (loads : Loads P A) where
  -- one commit that leaves the kept images unchanged
  commit_through : (s t : Store) → t.kept ≡ s.kept → IfSome t.app A → P s → Through P (committing s t)
  commit_through s t kept app a = Through-stepping P s (commit_operations s.room) t a (stays.loaded s t kept app a)

  -- ---- the parts of a start

  blank_through_by : (s : Store) (o : Option App) → P s → Through P (blank_by o s)
  blank_through_by s None a = Through-resting P s 0 a
  blank_through_by s (Some app) a = commit_through s (record (spent s) { app = None }) refl tt a

  blank_through : (s : Store) → P s → Through P (blank_trail s)
  unfolding blank_trail
  blank_through s a = blank_through_by s s.app a

  count_through : (k : StartCause) (s : Store) → P s → Through P (count_trail k s)
  unfolding count_trail
  count_through k s a =
      let t : Store = record (spent s) { gesture = s.gesture + 1 } in
      cond_both (counts k s) (committing s t) (resting s 0) (Through P) (λ _. commit_through s t refl (stays.memory s a) a) (λ _. Through-resting P s 0 a)

  finish_through : (s : Store) (r : Runs) (three : Bool) → A (app_of r) → P s → Through P (finish_trail s r three)
  unfolding finish_trail
  finish_through s r three holds a =
      cond_both (nat_lt 0 s.room && (not (is_set_to s.app 0 golden_version) || three)) (committing s (golden_done s r three)) (resting s 0) (Through P)
      (λ _. commit_through s (golden_done s r three) refl holds a) (λ _. Through-resting P s 0 a)

  -- program memory is blank, a copy is made, and a last part follows
  copied_through : (s : Store) (r : Runs) (u : Trail Store) → P s → (P (last (blank_trail s)) → Through P u) → Through P (joined (blank_trail s) (joined (copy_trail (last (blank_trail s)) r.pages) u))
  copied_through s r u a rest =
      let first = blank_through s a in
      let b = last (blank_trail s) in
      let here = Through-last P (blank_trail s) first in
      Through-joined P (blank_trail s) (joined (copy_trail b r.pages) u) first
      (Through-joined P (copy_trail b r.pages) u (Through-resting P b (copy_operations * length r.pages) here) (rest here))

  order_boot_through : (s : Store) → order_waits s ≡ true → sound s s.order.image ≡ true → P s → Through P (order_boot s).trail
  unfolding order_boot
  order_boot_through s waits fits a =
      let r = kept_runs s s.order.image s.order.version in
      let b = last (blank_trail s) in
      let t : Store = record (spent b) { app = Some (app_of r) } in
      copied_through s r (committing b t) a (λ here. commit_through b t refl (loads.ordered s waits fits a) here)

  golden_copied_through : (s : Store) (three : Bool) → P s → Through P (golden_copied s three).trail
  golden_copied_through s three a =
      let r = kept_runs s 0 golden_version in
      let f = finish_trail (last (blank_trail s)) r three in
      let copied : Boot = record { runs = Some r; trail = joined (blank_trail s) (joined (copy_trail (last (blank_trail s)) r.pages) f) } in
      let none : Boot = record { runs = None; trail = resting s 0 } in
      cond_both (sound s 0) copied none (λ (b : Boot). Through P b.trail)
      (λ fits. copied_through s r f a (λ here. finish_through (last (blank_trail s)) r three (loads.golden s fits a) here))
      (λ _. Through-resting P s 0 a)

  golden_through_by : (s : Store) (three : Bool) (o : Option App) → IfSome o A → P s → Through P (golden_by o s three).trail
  golden_through_by s three None h a = golden_copied_through s three a
  golden_through_by s three (Some app) h a =
      cond_both (is_set_to (Some app) 0 golden_version) (golden_stays s app three) (golden_copied s three) (λ (b : Boot). Through P b.trail)
      (λ is. finish_through s (record { image = 0; version = golden_version; pages = app.pages }) three (loads.stays app is h) a)
      (λ _. golden_copied_through s three a)

  golden_through : (s : Store) (three : Bool) → P s → Through P (golden_boot s three).trail
  unfolding golden_boot
  golden_through s three a = golden_through_by s three s.app (stays.memory s a) a

  kept_through_by : (s : Store) (three : Bool) (o : Option App) → P s → Through P (kept_by o s three).trail
  kept_through_by s three (Some app) a = Through-resting P s 0 a
  kept_through_by s three None a = golden_through s three a

  kept_through : (s : Store) (three : Bool) → P s → Through P (kept_boot s three).trail
  unfolding kept_boot
  kept_through s three a = kept_through_by s three s.app a

  -- an order whose image is not sound is waived
  waived_stays : (s : Store) → P s → P (waived_once s)
  waived_stays s a = stays.loaded s (waived_once s) refl (stays.memory s a) a

  counted_through : (s : Store) → P s → Through P (boot_counted s).trail
  unfolding boot_counted
  counted_through s a =
      let Q : Boot → Type 0 = λ b. Through P b.trail in
      let three = s.gesture == short_starts in
      let waived = behind (committing s (waived_once s)) (kept_boot (waived_once s) three) in
      let ordered = if sound s s.order.image then order_boot s else waived in
      cond_both (by_gesture s) (golden_boot s true) (if order_waits s then ordered else kept_boot s three) Q (λ _. golden_through s true a)
      (λ _. cond_both (order_waits s) ordered (kept_boot s three) Q
      (λ waits. cond_both (sound s s.order.image) (order_boot s) waived Q (λ fits. order_boot_through s waits fits a)
      (λ _. Through-joined P (committing s (waived_once s)) (kept_boot (waived_once s) three).trail
      (commit_through s (waived_once s) refl (stays.memory s a) a)
      (kept_through (waived_once s) three (waived_stays s a))))
      (λ _. kept_through s three a))

  pub boot_through : (k : StartCause) (s : Store) → P s → Through P (boot k s).trail
  unfolding boot
  boot_through k s a =
      let first = count_through k s a in
      Through-joined P (count_trail k s) (boot_counted (last (count_trail k s))).trail first (counted_through (last (count_trail k s)) (Through-last P (count_trail k s) first))

  -- ---- what starts

  abbrev StartsAs : Boot → Type 0
  StartsAs b = IfSome b.runs (λ r. A (app_of r))

  golden_copied_starts : (s : Store) (three : Bool) → P s → StartsAs (golden_copied s three)
  golden_copied_starts s three a =
      let r = kept_runs s 0 golden_version in
      let b = last (blank_trail s) in
      let copied : Boot = record { runs = Some r; trail = joined (blank_trail s) (joined (copy_trail b r.pages) (finish_trail b r three)) } in
      let none : Boot = record { runs = None; trail = resting s 0 } in
      cond_both (sound s 0) copied none StartsAs (λ fits. loads.golden s fits a) (λ _. tt)

  golden_starts_by : (s : Store) (three : Bool) (o : Option App) → IfSome o A → P s → StartsAs (golden_by o s three)
  golden_starts_by s three None h a = golden_copied_starts s three a
  golden_starts_by s three (Some app) h a =
      cond_both (is_set_to (Some app) 0 golden_version) (golden_stays s app three) (golden_copied s three) StartsAs (λ is. loads.stays app is h) (λ _. golden_copied_starts s three a)

  golden_starts : (s : Store) (three : Bool) → P s → StartsAs (golden_boot s three)
  unfolding golden_boot
  golden_starts s three a = golden_starts_by s three s.app (stays.memory s a) a

  kept_starts_by : (s : Store) (three : Bool) (o : Option App) → IfSome o A → P s → StartsAs (kept_by o s three)
  kept_starts_by s three (Some app) h a = h
  kept_starts_by s three None h a = golden_starts s three a

  kept_starts : (s : Store) (three : Bool) → P s → StartsAs (kept_boot s three)
  unfolding kept_boot
  kept_starts s three a = kept_starts_by s three s.app (stays.memory s a) a

  order_starts : (s : Store) → order_waits s ≡ true → sound s s.order.image ≡ true → P s → StartsAs (order_boot s)
  unfolding order_boot
  order_starts s waits fits a = loads.ordered s waits fits a

  counted_starts : (s : Store) → P s → StartsAs (boot_counted s)
  unfolding boot_counted
  counted_starts s a =
      let three = s.gesture == short_starts in
      let waived = behind (committing s (waived_once s)) (kept_boot (waived_once s) three) in
      let ordered = if sound s s.order.image then order_boot s else waived in
      cond_both (by_gesture s) (golden_boot s true) (if order_waits s then ordered else kept_boot s three) StartsAs (λ _. golden_starts s true a)
      (λ _. cond_both (order_waits s) ordered (kept_boot s three) StartsAs
      (λ waits. cond_both (sound s s.order.image) (order_boot s) waived StartsAs (λ fits. order_starts s waits fits a)
      (λ _. kept_starts (waived_once s) three (waived_stays s a)))
      (λ _. kept_starts s three a))

  pub boot_starts : (k : StartCause) (s : Store) → P s → StartsAs (boot k s)
  unfolding boot
  boot_starts k s a = counted_starts (last (count_trail k s)) (Through-last P (count_trail k s) (count_through k s a))

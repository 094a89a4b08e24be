-- What holds whatever is kept of an image, and whatever room is left, holds of each store on the trail of an injection of the
-- image.
use Rattle.std.proofs.Common.{ℕ, List, [], ◌∷◌, drop, Option, Some, None, option_map}
use Rattle.std.proofs.lemmas.Bool.{cond_both}
use Rattle.dg_nor.specs.Trail.{last, joined, resting, stepping}
use Rattle.dg_nor.specs.Through.{Through}
use Rattle.dg_nor.proofs.ThroughLemmas.{Through-joined, Through-resting, Through-stepping, Through-last}
use Rattle.dg_control.specs.Store.{commit_operations}
use Rattle.dg_object.specs.Object.{Row, object, profile}
use Rattle.dg_slot.specs.Layout.{page_operations}
use Rattle.dg_slot.specs.Kept.{Held, held_begun, with_page}
use Rattle.dg_volume.specs.Store.{Store, held}
use Rattle.dg_volume.specs.Changes.{spent, keeping, paged, is_version, inject_refusal}
use Rattle.dg_volume.specs.Trails.{committing, drop_by, drop_trail, open_trail, take_trail, fill_trail, inject_by, inject_trail, done_of}
use Rattle.dg_volume.specs.declared.volume.InjectFault.{InjectFault}

module _ (P : Store → Type 0) (row : Row) (other : (s : Store) (o : Option Held) → P s → P (keeping row.image o s)) (spends : (s : Store) → P s → P (spent s)) where
  drop_keeps : (s : Store) (o : Option Held) → P s → Through P (drop_by o s row.image)
  drop_keeps s None p = Through-resting P s 0 p
  drop_keeps s (Some h) p = Through-stepping P s (commit_operations s.room) (keeping row.image None (spent s)) p (other (spent s) None (spends s p))

  take_keeps : (s : Store) → P s → Through P (take_trail s (profile row))
  unfolding take_trail drop_trail
  take_keeps s p =
      let t = drop_by (held s row.image) s row.image in
      let first = drop_keeps s (held s row.image) p in
      let d = last t in
      let here = Through-last P t first in
      let next = keeping row.image (Some (held_begun (profile row))) (spent d) in
      Through-joined P t (open_trail d (profile row)) first
      (Through-joined P (resting d 2) (committing d next) (Through-resting P d 2 here)
      (Through-stepping P d (commit_operations d.room) next here (other (spent d) (Some (held_begun (profile row))) (spends d here))))

  fill_keeps : (pages : List (List ℕ)) (s : Store) → P s → Through P (fill_trail s row.image pages)
  unfolding fill_trail
  fill_keeps [] s p = Through-resting P s 0 p
  fill_keeps (page ∷ pages) s p =
      let next = paged row.image page s in
      let here = other s (option_map (λ (h : Held). with_page h page) (held s row.image)) p in
      Through-joined P (stepping s page_operations next) (fill_trail next row.image pages) (Through-stepping P s page_operations next p here) (fill_keeps pages next here)

  inject_keeps_by : (s : Store) (o : Option InjectFault) → P s → Through P (inject_by o s row)
  inject_keeps_by s (Some fault) p = Through-resting P s 0 p
  inject_keeps_by s None p =
      let t = take_trail s (profile row) in
      let first = take_keeps s p in
      cond_both (is_version (held s row.image) row.version)
      (fill_trail s row.image (drop (done_of (held s row.image)) (object row)))
      (joined t (fill_trail (last t) row.image (object row)))
      (Through P)
      (λ _. fill_keeps (drop (done_of (held s row.image)) (object row)) s p)
      (λ _. Through-joined P t (fill_trail (last t) row.image (object row)) first (fill_keeps (object row) (last t) (Through-last P t first)))

  pub inject_keeps : (s : Store) → P s → Through P (inject_trail s row)
  unfolding inject_trail
  inject_keeps s p = inject_keeps_by s (inject_refusal s row) p

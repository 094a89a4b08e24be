-- The stores that the acts of a volume go through (docs/IMAGES.md, "Takes, injections and orders").
use Rattle.std.specs.Prelude.{ℕ, ◌==◌, if◌then◌else◌, Bool, List, [], ◌∷◌, ◌≡◌, length, drop, Option, Some, None}
use Rattle.dg_nor.specs.Trail.{Trail, last, joined, resting, stepping, EachWorks}
use Rattle.dg_control.specs.Store.{commit_operations}
use Rattle.dg_control.specs.declared.snapshot.Order.{Order}
use Rattle.dg_object.specs.Object.{Row, Outline, object, profile}
use Rattle.dg_slot.specs.Layout.{page_operations}
use Rattle.dg_slot.specs.Kept.{Held, held_begun}
use Rattle.dg_slot.specs.Fits.{may_seal}
use Rattle.dg_volume.specs.Sizes.{old_form}
use Rattle.dg_volume.specs.Store.{Store, App, held}
use Rattle.dg_volume.specs.Changes.{spent, keeping, paged, ordered, gesture_cleared, advanced, is_version, inject_refusal}
use Rattle.dg_volume.specs.declared.volume.InjectFault.{InjectFault}

-- one commit turns s into this store
abbrev pub committing : Store → Store → Trail Store
committing s next = stepping s (commit_operations s.room) next

abbrev pub order_trail : Store → Order → Trail Store
order_trail s order = committing s (ordered s order)

abbrev pub clear_trail : Store → Trail Store
clear_trail s = committing s (gesture_cleared s)

abbrev pub advance_trail : Store → Option App → ℕ → Bool → Trail Store
advance_trail s app gesture waived = committing s (advanced s app gesture waived)

-- a chip of the older form is committed again unchanged, which writes the current form
abbrev pub migrate_trail : ℕ → Store → Trail Store
migrate_trail form s = if form == old_form then committing s (spent s) else resting s 0

-- what is kept of an image is given up
abbrev pub drop_by : Option Held → Store → ℕ → Trail Store
drop_by None s image = resting s 0
drop_by (Some h) s image = committing s (keeping image None (spent s))

unfoldable pub drop_trail : Store → ℕ → Trail Store
drop_trail s image = drop_by (held s image) s image

-- the header is erased and written, which leaves the store unchanged, and then the slot is Live
abbrev pub open_trail : Store → Outline → Trail Store
open_trail s p = joined (resting s 2) (committing s (keeping p.image (Some (held_begun p)) (spent s)))

-- the slot of an image is taken for a profile
unfoldable pub take_trail : Store → Outline → Trail Store
take_trail s p = joined (drop_trail s p.image) (open_trail (last (drop_trail s p.image)) p)

-- each page is an erase, its packets and its gate
unfoldable pub fill_trail : Store → ℕ → List (List ℕ) → Trail Store
fill_trail s image [] = resting s 0
fill_trail s image (page ∷ pages) = joined (stepping s page_operations (paged image page s))
    (fill_trail (paged image page s) image pages)

-- a page is made complete if it fits, by one operation
abbrev pub sealing_trail : Store → ℕ → Held → List ℕ → Trail Store
sealing_trail s image h page = if may_seal image h page then stepping s 1 (paged image page s) else resting s 0

abbrev pub done_of : Option Held → ℕ
done_of None = 0
done_of (Some h) = length h.complete

abbrev pub inject_by : Option InjectFault → Store → Row → Trail Store
inject_by (Some fault) s row = resting s 0
inject_by None s row =
    if is_version (held s row.image) row.version then fill_trail s row.image (drop (done_of (held s row.image)) (object row))
    else joined (take_trail s (profile row)) (fill_trail (last (take_trail s (profile row))) row.image (object row))

-- A row is injected: its slot is taken unless this version is kept, and then each missing page is filled. A refused injection
-- does nothing.
unfoldable pub inject_trail : Store → Row → Trail Store
inject_trail s row = inject_by (inject_refusal s row) s row

-- A trail begins at this store, and each of its stages has an operation, so that it may follow another.
pub record BeginsAt (s : Store) (t : Trail Store) : Type 0 where
  pub first : t.first ≡ s
  pub works : EachWorks t.stages

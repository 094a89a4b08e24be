-- Stores that agree and have a place for each image, through the acts of a mote.
use Rattle.std.proofs.Common.{◌≡◌, ℕ, ◌<◌, ◌≤◌, List, [], length, Option, Some, None, ◌∙◌, arith}
use Rattle.std.specs.Prelude.{slice_index_or, option_map}
use Rattle.std.proofs.Math.ListN.{length-set}
use Rattle.dg_nor.specs.Trail.{Trail, last, resting}
use Rattle.dg_nor.specs.Through.{Through}
use Rattle.dg_nor.proofs.ThroughLemmas.{Through-joined, Through-resting, Through-stepping, Through-last}
use Rattle.dg_control.specs.Store.{commit_operations}
use Rattle.dg_control.specs.declared.snapshot.Order.{Order}
use Rattle.dg_object.specs.Object.{Row, Outline, object, profile}
use Rattle.dg_slot.specs.Kept.{Held, held_begun, with_page}
use Rattle.dg_volume.specs.Sizes.{images}
use Rattle.dg_volume.specs.Store.{Store, held, held_to}
use Rattle.dg_volume.specs.Changes.{spent, keeping, paged, ordered, gesture_cleared}
use Rattle.dg_volume.specs.Trails.{committing, order_trail, clear_trail, drop_by, drop_trail, open_trail, take_trail}
use Rattle.dg_volume.specs.Table.{row_at}
use Rattle.dg_volume.specs.Agreement.{Agrees}
use Rattle.dg_mote.specs.Well.{StoreIsWell}
use Rattle.dg_mote.proofs.KeepLemmas.{through_both, through_then}

abbrev pub HasSlots : Store → Type 0
HasSlots s = length s.kept ≡ images

-- ---- a take keeps the slots

drop_slots : (o : Option Held) (s : Store) (i : ℕ) → HasSlots s → Through HasSlots (drop_by o s i)
drop_slots None s i p = Through-resting HasSlots s 0 p
drop_slots (Some h) s i p = Through-stepping HasSlots s (commit_operations s.room) (keeping i None (spent s)) p (length-set s.kept i None ∙ p)

open_slots : (s : Store) (p : Outline) → HasSlots s → Through HasSlots (open_trail s p)
open_slots s p has =
    let next = keeping p.image (Some (held_begun p)) (spent s) in
    Through-joined HasSlots (resting s 2) (committing s next) (Through-resting HasSlots s 2 has)
    (Through-stepping HasSlots s (commit_operations s.room) next has (length-set s.kept p.image (Some (held_begun p)) ∙ has))

pub take_slots : (s : Store) (p : Outline) → HasSlots s → Through HasSlots (take_trail s p)
unfolding take_trail drop_trail
take_slots s p has =
    let t = drop_by (held s p.image) s p.image in
    let first = drop_slots (held s p.image) s p.image has in
    Through-joined HasSlots t (open_trail (last t) p) first (open_slots (last t) p (Through-last HasSlots t first))

-- ---- both

pub both_well : (table : List Row) (t : Trail Store) → Through (Agrees table) t → Through HasSlots t → Through (StoreIsWell table) t
both_well table t a p =
    through_then (λ s. Agrees table s × HasSlots s) (StoreIsWell table) (λ s h. record { count = h.1; agrees = h.0 }) t (through_both (Agrees table) HasSlots t a p)

module _ (table : List Row) where
  module _ (order : (s : Store) (o : Order) → Agrees table s → Through (Agrees table) (order_trail s o)) where
    pub order_well : (s : Store) (o : Order) → StoreIsWell table s → Through (StoreIsWell table) (order_trail s o)
    order_well s o w = both_well table (order_trail s o) (order s o w.agrees) (Through-stepping HasSlots s (commit_operations s.room) (ordered s o) w.count w.count)

  module _ (clear : (s : Store) → Agrees table s → Through (Agrees table) (clear_trail s)) where
    pub clear_well : (s : Store) → StoreIsWell table s → Through (StoreIsWell table) (clear_trail s)
    clear_well s w = both_well table (clear_trail s) (clear s w.agrees) (Through-stepping HasSlots s (commit_operations s.room) (gesture_cleared s) w.count w.count)

  module _ (take : (s : Store) (row : Row) → 1 ≤ row.image → row.image < length s.kept → row_at table row.image row.version ≡ Some row → Agrees table s → Through (Agrees table) (take_trail s (profile row))) where
    pub take_well : (s : Store) (row : Row) → 1 ≤ row.image → row.image < images → row_at table row.image row.version ≡ Some row → StoreIsWell table s → Through (StoreIsWell table) (take_trail s (profile row))
    take_well s row low high in_table w =
        both_well table (take_trail s (profile row)) (take s row low (omega (arith, high, w.count)) in_table w.agrees) (take_slots s (profile row) w.count)

  module _ (next : (s : Store) (row : Row) (n : ℕ) → 1 ≤ row.image → row.image < length s.kept → row_at table row.image row.version ≡ Some row → held s row.image ≡ Some (held_to row n) → n < length (object row)
      → Agrees table s → Agrees table (paged row.image (slice_index_or (object row) n []) s)) where
    pub paged_well : (s : Store) (row : Row) (n : ℕ) → 1 ≤ row.image → row.image < images → row_at table row.image row.version ≡ Some row → held s row.image ≡ Some (held_to row n) → n < length (object row)
        → StoreIsWell table s → StoreIsWell table (paged row.image (slice_index_or (object row) n []) s)
    paged_well s row n low high in_table here more w =
        let page = slice_index_or (object row) n [] in
        record {
          count = length-set s.kept row.image (option_map (λ h. with_page h page) (held s row.image)) ∙ w.count;
          agrees = next s row n low (omega (arith, high, w.count)) in_table here more w.agrees;
        }

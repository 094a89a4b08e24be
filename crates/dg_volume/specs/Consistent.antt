-- Stores that are consistent, whatever frames made them (docs/PROMISES.md, "The report and what it tells").
use Rattle.std.specs.Prelude.{◌≡◌, ℕ, ◌<◌, ◌≤◌, List, [], length, slice_index_or, Some, IfSome}
use Rattle.dg_base.specs.Crc.{crc_of}
use Rattle.dg_object.specs.Object.{Row, object}
use Rattle.dg_object.specs.Descriptor.{Describes, crc_in}
use Rattle.dg_slot.specs.Kept.{Held, HasDescriptor}
use Rattle.dg_volume.specs.Sizes.{golden_version}
use Rattle.dg_volume.specs.Store.{Store, App, held, held_whole}

-- each page after page 0 has the CRC that page 0 keeps of it
abbrev pub FitFirst : List (List ℕ) → Type 0
FitFirst pages = (p : ℕ) → 1 ≤ p → p < length pages → crc_of (slice_index_or pages p []) ≡ crc_in (slice_index_or pages 0 []) p

-- if a page is complete, page 0 has the CRC of the slot and is the descriptor of its image, version and page count
pub record IsSoundSoFar (image : ℕ) (h : Held) : Type 0 where
  pub first : 0 < length h.complete → HasDescriptor (slice_index_or h.complete 0 []) image h.version h.pages h.crc
  pub rest : FitFirst h.complete

-- program memory holds the pages that its descriptor counts; golden there is golden
pub record IsSoundApp (row : Row) (app : App) : Type 0 where
  pub described : Describes (slice_index_or app.pages 0 []) app.image app.version (length app.pages)
  pub rest : FitFirst app.pages
  pub golden : app.image ≡ 0 → app.pages ≡ object row

-- golden is whole, and what is kept of other images and in program memory fits its own descriptor
pub record Consistent (row : Row) (s : Store) : Type 0 where
  pub version : row.version ≡ golden_version
  pub golden : held s 0 ≡ Some (held_whole row)
  pub kept : (i : ℕ) → IfSome (held s i) (IsSoundSoFar i)
  pub app : IfSome s.app (IsSoundApp row)

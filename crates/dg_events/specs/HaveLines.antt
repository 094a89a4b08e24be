-- What `have` and `lost` lines tell of what motes keep whole (docs/COMMANDS.md, "What a script costs").
use Rattle.std.specs.Prelude.{◌≡◌, ℕ, ◌==◌, ◌&&◌, Bool, false, Some}
use Rattle.std.specs.List.{Contains}
use Rattle.dg_slot.specs.Kept.{Held}
use Rattle.dg_volume.specs.Store.{Store, held}
use Rattle.dg_rules.specs.World.{World, store_at}
use Rattle.dg_rules.specs.Runs.{Played}
use Rattle.dg_script.specs.declared.report.Report.{Report}
use Rattle.dg_script.specs.declared.report.Report.TheVariants.{Have, Lost}
use Rattle.dg_events.specs.Keeps.{keeps_whole}

-- A version of an image that is kept before and after has the same number of pages.
pub record KeepsPageCounts (before after : Store) : Type 0 where
  pub same : (image : ℕ) (a b : Held) → held before image ≡ Some a → held after image ≡ Some b → a.version ≡ b.version
      → a.pages ≡ b.pages

-- so it is at each mote
abbrev pub PageCountsStay : World → World → Type 0
PageCountsStay w v = (m : ℕ) → KeepsPageCounts (store_at w m) (store_at v m)

-- a `have` or `lost` line of this image
abbrev pub is_held_line : (image : ℕ) → Report → Bool
is_held_line image (Have mote i version pages) = i == image
is_held_line image (Lost mote i) = i == image
is_held_line image line = false

-- a `have` line of this version of the image at the mote
abbrev pub is_have_line : (mote image version : ℕ) → Report → Bool
is_have_line mote image version (Have m i v pages) = (m == mote) && ((i == image) && (v == version))
is_have_line mote image version line = false

-- the same, and the mote keeps all pages of it in this world
abbrev pub says_whole : World → (mote image version : ℕ) → Report → Bool
says_whole w mote image version line = keeps_whole w mote image version && is_have_line mote image version line

-- The mote keeps this version of the image after the event, and a `have` line says so, with all pages.
pub record IsToldWhole (mote image version : ℕ) (p : Played) : Type 0 where
  pub kept : Held
  pub is : held (store_at p.after mote) image ≡ Some kept
  pub version_is : kept.version ≡ version
  pub told : Contains p.reports (Have mote image version kept.pages)

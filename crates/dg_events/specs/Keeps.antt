-- What motes keep whole, and what `have` lines say of it (docs/COMMANDS.md, "What a script costs").
use Rattle.std.specs.Prelude.{◌≡◌, ℕ, ◌<◌, Bool, length, Some, None}
use Rattle.dg_slot.specs.Kept.{Held}
use Rattle.dg_volume.specs.Sizes.{images}
use Rattle.dg_volume.specs.Store.{Store, held}
use Rattle.dg_volume.specs.Start.{is_whole}
use Rattle.dg_rules.specs.World.{World, store_at}
use Rattle.dg_script.specs.declared.report.Report.{Report}
use Rattle.dg_script.specs.declared.report.Report.TheVariants.{Have, Lost}

-- a mote keeps this version of an image, and all pages of it
abbrev pub keeps_whole : World → (mote image version : ℕ) → Bool
keeps_whole w mote image version = is_whole (held (store_at w mote) image) version

-- This version of an image is kept, and so many pages of it are complete.
pub record KeepsPages (s : Store) (image version done : ℕ) : Type 0 where
  pub known : image < images
  pub kept : Held
  pub is : held s image ≡ Some kept
  pub version_is : kept.version ≡ version
  pub done_is : length kept.complete ≡ done

-- a `have` line is of this mote, and says what its store keeps: a `lost` line, that it keeps nothing of the image
abbrev pub HaveTells : (mote : ℕ) → Store → Report → Type 0
HaveTells mote s (Have m image version done) = (m ≡ mote) × KeepsPages s image version done
HaveTells mote s (Lost m image) = (m ≡ mote) × (image < images) × (held s image ≡ None)
HaveTells mote s line = Unit {0}

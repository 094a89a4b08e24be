-- What is reported of the pages in program memory (docs/IMAGES.md, "The start").
use Rattle.std.specs.Prelude.{◌≡◌, ℕ, List, [], length, slice_index_or}
use Rattle.dg_base.specs.Crc.{crc_of}
use Rattle.dg_object.specs.Object.{content}
use Rattle.dg_slot.specs.Kept.{Held}
use Rattle.dg_volume.specs.Store.{App}
use Rattle.dg_volume.specs.Start.{length_in}
use Rattle.dg_boot.specs.declared.loaded.Loaded.{Loaded}

-- an image that is kept whole
abbrev pub IsWhole : Held → Type 0
IsWhole h = length h.complete ≡ h.pages

-- what is in program memory once the pages of this image are there
abbrev pub app_from : ℕ → Held → App
app_from image h = record { image = image; version = h.version; pages = h.complete }

-- it is this image in this version
pub record IsApp (app : App) (i v : ℕ) : Type 0 where
  pub image : app.image ≡ i
  pub version : app.version ≡ v

-- the number of these pages, the length of the image by its descriptor, and the checksum of its bytes
pub record Measures (ps : List (List ℕ)) (told : Loaded) : Type 0 where
  pub pages : told.pages ≡ length ps
  pub bytes : told.length ≡ length_in (slice_index_or ps 0 [])
  pub crc : told.crc ≡ crc_of (content told.length ps)

-- What the images that were declared stand for (docs/ARCHITECTURE.md, "The way of a script line").
use Rattle.std.specs.Prelude.{◌≡◌, ℕ, ◌==◌, ◌&&◌, Bool, List, Option, None, option_map}
use Rattle.std.specs.Map.{lookup}
use Rattle.dg_object.specs.Object.{Row, row_of}
use Rattle.dg_volume.specs.Table.{row_at}
use Rattle.dg_base.specs.declared.events.ImageVersion.{ImageVersion}
use Rattle.dg_shared.specs.declared.images.Image.{Image}
use Rattle.dg_shared.specs.declared.images.Images.{Images}

abbrev pub row_of_image : ImageVersion → Image → Row
row_of_image k i = row_of k.image k.version i.name i.content

abbrev pub is_image_version : ImageVersion → ImageVersion → Bool
is_image_version a b = (a.image == b.image) && (a.version == b.version)

-- the image that was declared with an image version
abbrev pub found : Images → ImageVersion → Option Image
found images image_version = lookup (is_image_version image_version) images.by_image_version.entries

-- the images are the declared rows
pub record Declares (images : Images) (rows : List Row) : Type 0 where
  pub each : (image version : ℕ) → option_map (row_of_image (record { image = image; version = version }))
      (found images (record { image = image; version = version })) ≡ row_at rows image version

abbrev pub NothingDeclared : Images → Type 0
NothingDeclared images = (image_version : ImageVersion) → found images image_version ≡ None

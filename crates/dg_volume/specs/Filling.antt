-- Pages that are filled packet by packet (docs/IMAGES.md, "Takes, injections and orders").
use Rattle.std.specs.Prelude.{ℕ, ◌*◌, List}
use Rattle.dg_words.specs.Cells.{part}
use Rattle.dg_slot.specs.Layout.{packet_size, page_operations}
use Rattle.dg_slot.specs.Kept.{Held, with_page}
use Rattle.dg_nor.specs.Trail.{Trail, stepping}
use Rattle.dg_object.specs.Object.{Row, row_of}
use Rattle.dg_volume.specs.declared.new_image.NewImage.{NewImage}

-- packet q of a page
abbrev pub packet_of : List ℕ → ℕ → List ℕ
packet_of page q = part page (packet_size * q) packet_size

-- one more page is complete, after its operations
abbrev pub page_trail : Held → List ℕ → Trail Held
page_trail h page = stepping h page_operations (with_page h page)

-- the row of an image that is to be kept
abbrev pub new_row : NewImage → Row
new_row new = row_of new.image new.version new.name.now new.bytes.now

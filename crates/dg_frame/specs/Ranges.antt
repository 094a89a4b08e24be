-- The ranges of the fields of a message, as relations (docs/PARTS.md, "The codec"; the messages are those of Deluge: Hui and
-- Culler, SenSys 2004).
use Rattle.std.specs.Prelude.{◌≡◌, ◌≢◌, ◌⊎◌, ℕ, ◌≤◌, Bool, true, All}
use Rattle.std.specs.FinSet as set
use Rattle.dg_control.specs.declared.snapshot.Order.{Order}
use Rattle.dg_frame.specs.Sizes.{narrow_images, wide_images, known_images, last_page, last_packet, fewest_pages, most_pages}
use Rattle.dg_frame.specs.declared.Entry.{Entry}
use Rattle.dg_frame.specs.declared.Message.{Message}
use Rattle.dg_frame.specs.declared.Message.TheVariants.{Advert, Request, Packet, Wide}

-- an entry of an image of which nothing is kept
abbrev pub unused : Entry
unused = record { version = 0; pages = 0; have = 0; crc = 0 }

-- an entry that describes a version
pub record TellsVersion (e : Entry) : Type 0 where
  pub version : 1 ≤ e.version
  pub pages : fewest_pages ≤ e.pages
  pub most : e.pages ≤ most_pages
  pub have : e.have ≤ e.pages

abbrev pub EntryInRange : Entry → Type 0
EntryInRange e = (e ≡ unused) ⊎ TellsVersion e

abbrev pub no_order : Order
no_order = record { number = 0; image = 0; version = 0 }

-- an order of one of this many images, or of golden
pub record NamesImage (images : ℕ) (o : Order) : Type 0 where
  pub number : 1 ≤ o.number
  pub image : o.image ≤ images
  pub version : 1 ≤ o.version

abbrev pub OrderInRange : (images : ℕ) → Order → Type 0
OrderInRange images o = (o ≡ no_order) ⊎ NamesImage images o

-- a page of a version of one of this many images
pub record PageInRange (images image version page : ℕ) : Type 0 where
  pub first : 1 ≤ image
  pub last : image ≤ images
  pub of_version : 1 ≤ version
  pub in_object : page ≤ last_page

-- each field is in its range for a wide or narrow reader. Sources and destinations may be anything
abbrev pub IsInRange : (wide : Bool) → Message → Type 0
IsInRange wide (Advert source entries order) = All EntryInRange entries × OrderInRange narrow_images order
IsInRange wide (Request source to image version page want) = PageInRange (known_images wide) image version page
    × (want ≢ set.empty)
IsInRange wide (Packet source image version page packet bytes) = PageInRange (known_images wide) image version page
    × (packet ≤ last_packet)
IsInRange wide (Wide source entries order) = (wide ≡ true) × (All EntryInRange entries × OrderInRange wide_images order)

-- What the pages of an image say of it (docs/COMMANDS.md, "Over one chip").
use Rattle.std.specs.Prelude.{ℕ, ◌==◌, not, List, [], take, drop, take_while, slice_index_or}
use Rattle.dg_object.specs.Object.{content}
use Rattle.dg_object.specs.Sizes.{name_size}
use Rattle.dg_slot.specs.Kept.{Held}
use Rattle.dg_volume.specs.Start.{length_in}

-- the name in a descriptor, from byte 12 on, without the zeros after it
unfoldable pub name_in : List ℕ → List ℕ
name_in page = take_while (λ c. not (c == 0)) (take name_size (drop 12 page))

-- the first page of what is kept
abbrev pub first_page : Held → List ℕ
first_page h = slice_index_or h.complete 0 []

-- the bytes of an image that is kept whole: those of its data pages, as many as its descriptor counts
abbrev pub image_bytes : Held → List ℕ
image_bytes h = content (length_in (first_page h)) h.complete

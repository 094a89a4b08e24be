-- The first byte of a sector at which a condition of a volume breaks (docs/COMMANDS.md, "Looking into chips").
use Rattle.std.specs.Prelude.{◌≡◌, ◌⊎◌, ℕ, ◌+◌, ◌*◌, ◌<◌, ◌≤◌, List, [], ◌∷◌, ◌++◌, take, drop, slice_index}
use Rattle.std.specs.Prelude.{Option, Some, None, unwrap_or}
use Rattle.std.specs.Int.{from_be_bytes, to_be_bytes, w16, w32}
use Rattle.dg_words.specs.Bits.{cleared_bits}
use Rattle.dg_words.specs.Cells.{part}
use Rattle.dg_nor.specs.Sizes.{sector_size}
use Rattle.dg_nor.specs.Chip.{sector}
use Rattle.dg_ledger.specs.Sizes.{ledger_sector, text_size, bits_size, most_count}
use Rattle.dg_ledger.specs.Ledger.{HasCount, ledger_text}
use Rattle.dg_control.specs.Sizes.{places, place_size}
use Rattle.dg_control.specs.Places.{place_in, IsCommitted}
use Rattle.dg_control.specs.Store.{current}
use Rattle.dg_control.specs.declared.snapshot.Program.{Program}
use Rattle.dg_control.specs.declared.snapshot.Program.TheVariants.{Blank, Set}
use Rattle.dg_control.specs.declared.snapshot.SlotState.{SlotState}
use Rattle.dg_control.specs.declared.snapshot.SlotState.TheVariants.{Dirty, Live}
use Rattle.dg_object.specs.Sizes.{head_size, page_size, most_bytes}
use Rattle.dg_object.specs.Object.{pages_for}
use Rattle.dg_object.specs.Descriptor.{Details, Describes, IsHead, crcs_end}
use Rattle.dg_slot.specs.Layout.{header_size, gates_at, gates_size, fewest_pages, most_pages}
use Rattle.dg_slot.specs.Layout.{header_sector, page_sector, program_sector}
use Rattle.dg_slot.specs.Header.{header_bytes, gates_of, IsHeader}
use Rattle.dg_slot.specs.Pages.{page_in}
use Rattle.dg_volume.specs.Sizes.{golden_version}

-- `Fits` says of each byte whether it is the one that has to be there. The first n bytes fit, and the next, if there is one, does
-- not
pub record FitTo (size : ℕ) (Fits : ℕ → Type 0) (n : ℕ) : Type 0 where
  pub within : n ≤ size
  pub before : (a : ℕ) → a < n → Fits a
  pub here : n < size → Fits n → ⊥

-- this is the first that does not fit
pub record IsFirstBreak (size : ℕ) (Fits : ℕ → Type 0) (b : ℕ) : Type 0 where
  pub within : b < size
  pub here : Fits b → ⊥
  pub before : (a : ℕ) → a < b → Fits a

abbrev pub AreEqual : List ℕ → List ℕ → ℕ → Type 0
AreEqual xs ys k = slice_index xs k ≡ slice_index ys k

-- from a byte on all are 0xFF
abbrev pub AreFilled : List ℕ → (from k : ℕ) → Type 0
AreFilled page from k = from ≤ k → slice_index page k ≡ 255

-- in the first n bytes at most this many bits are cleared, in order from the first
abbrev pub AreCleared : List ℕ → (most n : ℕ) → Type 0
AreCleared bits most n = (m : ℕ) × (m ≤ most) × (take n bits ≡ cleared_bits n m)

-- ---- the ledger: its text, and bits that are cleared one after the other

pub record LedgerFits (text bits : List ℕ) (b : ℕ) : Type 0 where
  pub spelled : b < text_size → slice_index text b ≡ slice_index ledger_text b
  pub cleared : (k : ℕ) → k < bits_size → text_size + k ≡ b → AreCleared bits most_count (k + 1)

abbrev pub BreaksLedger : List ℕ → ℕ → Type 0
BreaksLedger cells = IsFirstBreak sector_size (LedgerFits (part cells 0 text_size) (part cells text_size bits_size))

-- ---- the control sector: the byte at which the last committed place begins, or 0 if there is none

abbrev pub IsLastCommitted : List ℕ → ℕ → Type 0
IsLastCommitted cells k = (k < places) × IsCommitted (place_in cells k)
    × ((j : ℕ) → k < j → j < places → IsCommitted (place_in cells j) → ⊥)

abbrev pub BreaksPlace : List ℕ → ℕ → Type 0
BreaksPlace cells b = ((k : ℕ) × IsLastCommitted cells k × (b ≡ place_size * k))
    ⊎ (((j : ℕ) → j < places → IsCommitted (place_in cells j) → ⊥) × (b ≡ 0))

-- ---- headers: their bytes, and gates that are cleared one after the other, at most one for each page

abbrev pub said_pages : List ℕ → ℕ
said_pages first = slice_index first 3

abbrev pub said_crc : List ℕ → ℕ
said_crc first = from_be_bytes w16 (slice_index first 8 ∷ slice_index first 9 ∷ [])

-- a header of that image and version, of any pages and CRC
pub record SpelledFits (first : List ℕ) (image version b : ℕ) : Type 0 where
  pub spelled : slice_index first b ≡ slice_index (header_bytes image version (said_pages first) (said_crc first)) b
  pub fewest : b ≡ 3 → fewest_pages ≤ said_pages first
  pub most : b ≡ 3 → said_pages first ≤ most_pages

pub record HeaderFits (first gates : List ℕ) (image version b : ℕ) : Type 0 where
  pub head : b < header_size → SpelledFits first image version b
  pub cleared : (k : ℕ) → k < gates_size → gates_at + k ≡ b → AreCleared gates (said_pages first) (k + 1)

-- a Live slot with such a header, all of whose pages are complete
pub record GoldenFits (slot : SlotState) (first gates : List ℕ) (b : ℕ) : Type 0 where
  pub live : slot ≡ Live golden_version
  pub head : b < header_size → SpelledFits first 0 golden_version b
  pub cleared : (k : ℕ) → k < gates_size → gates_at + k ≡ b
      → slice_index gates k ≡ slice_index (gates_of (said_pages first)) k

abbrev pub BreaksGolden : List ℕ → SlotState → ℕ → Type 0
BreaksGolden c slot = IsFirstBreak sector_size (GoldenFits slot (part (sector c (header_sector 0)) 0 header_size)
    (part (sector c (header_sector 0)) gates_at gates_size))

abbrev pub BreaksHeader : List ℕ → ℕ → SlotState → ℕ → Type 0
BreaksHeader c i Dirty b = ⊥
BreaksHeader c i (Live v) b = IsFirstBreak sector_size (HeaderFits (part (sector c (header_sector i)) 0 header_size)
    (part (sector c (header_sector i)) gates_at gates_size) i v) b

-- ---- descriptors: image, pages and version, then a length with this many pages, a name, and 0xFF after the CRCs

-- the first bytes of the descriptor of that image and version, of these pages, or of any
abbrev pub front_of : (image version pages : ℕ) → List ℕ
front_of image version pages = 68 ∷ 71 ∷ image ∷ pages ∷ to_be_bytes w32 version

abbrev pub said_length : List ℕ → ℕ
said_length head = from_be_bytes w32 (take 4 (drop 8 head))

pub record HeadFits (head : List ℕ) (image version : ℕ) (pages : Option ℕ) (b : ℕ) : Type 0 where
  pub front : b < 8 → slice_index head b ≡ slice_index (front_of image version (unwrap_or pages (slice_index head 3))) b
  pub some : b ≡ 8 → 1 ≤ said_length head
  pub most : b ≡ 8 → said_length head ≤ most_bytes
  pub count : b ≡ 8 → slice_index head 3 ≡ pages_for (said_length head)
  pub name : b ≡ 12 → (d : Details) × IsHead head d

pub record DescriptorFits (page : List ℕ) (image version : ℕ) (pages : Option ℕ) (b : ℕ) : Type 0 where
  pub head : b < head_size → HeadFits (take head_size page) image version pages b
  pub rest : AreFilled page (crcs_end (slice_index page 3)) b

-- it breaks there; or it is the descriptor, but its CRC, which is computed from byte 0 on, is not the one that the header keeps
abbrev pub BreaksPage : List ℕ → (image version pages : ℕ) → ℕ → Type 0
BreaksPage page image version pages b =
    IsFirstBreak page_size (DescriptorFits page image version (Some pages)) b
    ⊎ (Describes page image version pages × (b ≡ 0))

abbrev pub BreaksDescriptor : List ℕ → ℕ → SlotState → ℕ → Type 0
BreaksDescriptor c i Dirty b = ⊥
BreaksDescriptor c i (Live v) b = (pages crc done : ℕ) → IsHeader (sector c (header_sector i)) i v pages crc done
    → BreaksPage (page_in c (page_sector i 0)) i v pages b

abbrev pub BreaksProgram : List ℕ → Program → ℕ → Type 0
BreaksProgram c Blank b = ⊥
BreaksProgram c (Set i v) b =
    IsFirstBreak page_size (DescriptorFits (page_in c (program_sector 0)) i v None) b

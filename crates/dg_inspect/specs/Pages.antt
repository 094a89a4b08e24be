-- What a chip shows of the pages of an image, page 0 first (docs/COMMANDS.md, "Looking into chips").
use Rattle.std.specs.Prelude.{◌≡◌, ℕ, ◌+◌, ◌<◌, ◌==◌, ◌&&◌, nat_le, nat_lt, not, Bool}
use Rattle.std.specs.Prelude.{if◌then◌else◌, List, [], length, slice_index_or, drop}
use Rattle.std.specs.Prelude.{Option, Some, None}
use Rattle.std.specs.FinSet as set
use Rattle.sha2.specs.Sha256.{sha256}
use Rattle.dg_words.specs.Lists.{tabulate}
use Rattle.dg_base.specs.Crc.{crc_of}
use Rattle.dg_object.specs.Object.{content}
use Rattle.dg_object.specs.Descriptor.{Details, crc_in}
use Rattle.dg_object.specs.Tested.{fields_in}
use Rattle.dg_object.specs.Records.{details_of}
use Rattle.dg_slot.specs.Pages.{page_in}
use Rattle.dg_slot.specs.Kept.{Held}
use Rattle.dg_chain.specs.Checking.{Answer, Fine, Broken, Misshapen, answer_of}
use Rattle.dg_inspect.specs.declared.seen.BytesSeen.{BytesSeen}
use Rattle.dg_inspect.specs.declared.seen.PagesSeen.{PagesSeen}
use Rattle.dg_inspect.specs.declared.seen.ChainSeen.{ChainSeen}
use Rattle.dg_inspect.specs.declared.seen.ImageSeen.{ImageSeen}

-- the first n pages from sector k on
abbrev pub pages_from : List ℕ → (k n : ℕ) → List (List ℕ)
pages_from c k n = tabulate n (λ p. page_in c (k + p))

-- what page 0 says, if it is a descriptor
abbrev pub said_in : List (List ℕ) → Details
said_in pages = fields_in (slice_index_or pages 0 [])

-- data page p is there, and its CRC is not the one that page 0 keeps of it
abbrev pub is_unsound : List (List ℕ) → ℕ → Bool
is_unsound pages p =
    (nat_le 1 p && nat_lt p (length pages))
    && not (crc_of (slice_index_or pages p []) == crc_in (slice_index_or pages 0 []) p)

-- the bytes of the image, as many as page 0 counts
abbrev pub bytes_in : List (List ℕ) → List ℕ
bytes_in pages = content (said_in pages).length pages

-- where all pages are there
abbrev pub bytes_seen : List (List ℕ) → Option BytesSeen
bytes_seen pages =
    if length pages == (said_in pages).pages
    then Some (record { crc = crc_of (bytes_in pages); sha256 = sha256 (bytes_in pages) })
    else None

pub record ShowsPages (pages : List (List ℕ)) (x : PagesSeen) : Type 0 where
  pub said : details_of x.descriptor ≡ said_in pages
  pub unsound : (p : ℕ) → set.contains x.unsound p ≡ is_unsound pages p
  pub bytes : x.bytes ≡ bytes_seen pages

-- ---- hash chains

-- the root that data pages have, if they have one: the digest of the first
abbrev pub root_in : List (List ℕ) → List ℕ
root_in pages = sha256 (slice_index_or pages 0 [])

abbrev pub chain_by : List ℕ → Answer → Option ChainSeen
chain_by root (Fine n) = Some (record { root = root; length = n })
chain_by root (Broken at) = None
chain_by root Misshapen = None

abbrev pub chain_in : List (List ℕ) → Option ChainSeen
chain_in pages = chain_by (root_in pages) (answer_of (root_in pages) pages)

-- ---- what a slot keeps

abbrev pub ShowsComplete : List (List ℕ) → Option PagesSeen → Type 0
ShowsComplete pages None = length pages ≡ 0
ShowsComplete pages (Some x) = (0 < length pages) × ShowsPages pages x

pub record ShowsHeld (h : Held) (x : ImageSeen) : Type 0 where
  pub version : x.version ≡ h.version
  pub pages : x.pages ≡ h.pages
  pub done : x.done ≡ length h.complete
  pub crc : x.crc ≡ h.crc
  pub complete : ShowsComplete h.complete x.complete
  pub chain : x.chain ≡ (if length h.complete == h.pages then chain_in (drop 1 h.complete) else None)

abbrev pub ShowsKept : Option Held → Option ImageSeen → Type 0
ShowsKept None x = x ≡ None
ShowsKept (Some h) None = ⊥
ShowsKept (Some h) (Some x) = ShowsHeld h x

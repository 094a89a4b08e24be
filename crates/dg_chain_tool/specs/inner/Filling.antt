-- How the pages of an image that is received are filled (docs/COMMANDS.md, "Hash-chained images").
use Rattle.std.specs.Prelude.{◌≡◌, ℕ, ◌-◌, ◌≤◌, true, false, Bool, if◌then◌else◌, List, take, length, Option, Some, None, Result}
use Rattle.std.specs.Prelude.{Ok, Err}
use Rattle.sha2.specs.Sha256.{sha256}
use Rattle.dg_nor.specs.Device.{Device}
use Rattle.dg_nor.specs.Trail.{Trail, resting, stepping}
use Rattle.dg_slot.specs.Layout.{page_operations}
use Rattle.dg_volume.specs.Store.{Store}
use Rattle.dg_volume.specs.Changes.{paged, FitsNext}
use Rattle.dg_volume.specs.Trails.{fill_trail}
use Rattle.dg_volume.specs.Acts.{Acted, Stops}
use Rattle.dg_volume.specs.declared.volume.Volume.{Volume}
use Rattle.dg_chain.specs.Checking.{Break, is_same}
use Rattle.dg_chain.specs.Receiving.{fill_operations}
use Rattle.dg_end.specs.declared.refusal.Refusal.TheVariants as refusals
use Rattle.dg_end.specs.declared.ends.End.{End}
use Rattle.dg_end.specs.declared.ends.End.TheVariants as ends
use Rattle.dg_chain_tool.specs.Receiving.{with_foreign}

-- the page is the expected one
abbrev pub fits_root : (expected : List ℕ) → List ℕ → Bool
fits_root expected page = is_same (sha256 page) expected

-- it is filled, and then made complete if it is the expected one
abbrev pub next_trail : Bool → Store → (image : ℕ) → List ℕ → Trail Store
next_trail fits s image page = if fits then stepping s page_operations (paged image page s) else resting s fill_operations

-- the next page of an image is a data page that fits
pub record FitsData (image : ℕ) (page : List ℕ) (s : Store) : Type 0 where
  pub next : FitsNext image page s
  pub data_page : 1 ≤ length next.kept.complete

-- the page of an image that is received next: its number, its bytes, and the digest that is expected of it
pub record NextPage : Type 0 where
  pub image : ℕ
  pub number : ℕ
  pub page : List ℕ
  pub digest : List ℕ

abbrev pub is_expected : NextPage → Bool
is_expected next = fits_root next.digest next.page

-- how the filling of that page ends
abbrev pub NextEnds : {T : Type 0} → Result T End → NextPage → Store → Device → Device → Volume → Type 0
NextEnds (Ok x) next s a b v = (is_expected next ≡ true) × Acted (stepping s page_operations (paged next.image next.page s)) a b v
NextEnds (Err (ends.Refused (refusals.Foreign k))) next s a b v =
    (k ≡ next.number) × (is_expected next ≡ false) × Acted (resting s fill_operations) a b v
NextEnds (Err ends.FlashFault) next s a b v = Stops (next_trail (is_expected next) s next.image next.page) a b
NextEnds (Err end) next s a b v = ⊥

-- pages from page n on are filled up to the first foreign one
abbrev pub fill_to : Option Break → (n : ℕ) → Store → (image : ℕ) → List (List ℕ) → Trail Store
fill_to None n s image pages = fill_trail s image pages
fill_to (Some at) n s image pages = with_foreign (fill_trail s image (take (at.page - n) pages))

-- how that ends
abbrev pub FillEnds : {T : Type 0} → Result T End → Option Break → Trail Store → Device → Device → Volume → Type 0
FillEnds (Ok x) found t a b v = (found ≡ None) × Acted t a b v
FillEnds (Err (ends.Refused (refusals.Foreign k))) found t a b v =
    ((at : Break) × (found ≡ Some at) × (at.page ≡ k)) × Acted t a b v
FillEnds (Err ends.FlashFault) found t a b v = Stops t a b
FillEnds (Err end) found t a b v = ⊥

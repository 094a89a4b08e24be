-- A data page that is received: it is filled packet by packet, and then sealed if it is the expected one (docs/COMMANDS.md,
-- "Hash-chained images").
use Rattle.std.specs.Prelude.{◌≡◌, ◌≢◌, ◌+◌, ◌&&◌, true, ℕ, if◌then◌else◌, List}
use Rattle.sha2.specs.Sha256.{sha256}
use Rattle.dg_base.specs.Crc.{crc_of}
use Rattle.dg_nor.specs.Device.{Device, Ran}
use Rattle.dg_nor.specs.Trail.{Trail, resting, stepping}
use Rattle.dg_object.specs.Sizes.{packets}
use Rattle.dg_slot.specs.Kept.{Held, with_page, kept_crc}
use Rattle.dg_slot.specs.Fits.{may_seal}
use Rattle.dg_slot.specs.Jobs.{IsOpen}
use Rattle.dg_chain.specs.Checking.{field_of, is_same}
use Rattle.dg_chain.specs.declared.sealing.ChainSealing.{ChainSealing}
use Rattle.dg_chain.specs.declared.sealing.ChainSealing.TheVariants.{Sealed, Foreign, Bad}

-- a page is filled by an erase and its packets
abbrev pub fill_operations : ℕ
fill_operations = packets + 1

-- and sealed by one more, that of its gate
abbrev pub seal_operations : ℕ
seal_operations = fill_operations + 1

-- The page is filled. If it is the expected one and fits, one more operation makes it complete.
abbrev pub receive_page_trail : (expected : List ℕ) → ℕ → Held → List ℕ → Trail Held
receive_page_trail expected image h page =
    if is_same (sha256 page) expected && may_seal image h page then stepping h seal_operations (with_page h page)
    else resting h fill_operations

-- what the receipt of a data page returns
abbrev pub ReceivesDataPage : (expected : List ℕ) → ℕ → Held → List ℕ → Device → Device → ChainSealing → Type 0
ReceivesDataPage expected image h page old new (Sealed o next) = (sha256 page ≡ expected) × (next ≡ field_of page)
    × (may_seal image h page ≡ true) × IsOpen new.image o (with_page h page) × Ran seal_operations old new
ReceivesDataPage expected image h page old new (Foreign found o) =
    (found ≡ sha256 page) × (found ≢ expected) × IsOpen new.image o h × Ran fill_operations old new
ReceivesDataPage expected image h page old new (Bad kept found o) =
    (sha256 page ≡ expected) × (kept ≡ kept_crc h) × (found ≡ crc_of page) × (found ≢ kept) × IsOpen new.image o h
    × Ran fill_operations old new

-- How operations are counted: each once, with its bytes, in its part of the chip.
use Rattle.std.specs.Prelude.{◌≡◌, ◌≢◌, ◌⊎◌, ℕ, ◌/◌, List, ◌++◌, Some, None}
use Rattle.dg_nor.specs.Sizes.{sector_size}
use Rattle.dg_slot.specs.Layout.{header_size}
use Rattle.dg_meter.specs.Regions.{region_of}
use Rattle.dg_meter.specs.Shares.{capped_sum, no_shares, share_noted, counts_in}
use Rattle.dg_meter.specs.declared.shares.Shares.{Shares}
use Rattle.dg_meter.specs.declared.tally.Tally.{Tally}
use Rattle.dg_meter.specs.declared.region.Region.TheVariants.{Head}
use Rattle.dg_meter.specs.declared.tally.Kind.{Kind}
use Rattle.dg_meter.specs.declared.tally.Kind.TheVariants.{Program, Erase}

-- nothing was counted
pub record NoOperations (t : Tally) : Type 0 where
  pub operations : t.operations ≡ 0
  pub programs : t.programs ≡ no_shares
  pub erases : t.erases ≡ no_shares
  pub last : t.last ≡ None
  pub headers : t.headers ≡ 0

abbrev pub shares_of : Tally → Kind → Shares
shares_of t Program = t.programs
shares_of t Erase = t.erases

-- how many there were in each part of the chip, programs before erases
abbrev pub counts_of : Tally → List ℕ
counts_of t = counts_in t.programs ++ counts_in t.erases

-- An erase of this sector was counted, and nothing else.
pub record Erased (sector : ℕ) (a b : Tally) : Type 0 where
  pub operations : b.operations ≡ capped_sum a.operations 1
  pub erases : b.erases ≡ share_noted a.erases (region_of sector) sector_size
  pub programs : b.programs ≡ a.programs
  pub last : b.last ≡ Some (record { kind = Erase; region = region_of sector; sector = sector; bytes = sector_size })
  pub headers : b.headers ≡ a.headers

-- A program of this many bytes from `at` on was counted, and nothing else. One of a whole sector is not counted: it is what a
-- fuse leaves of an erase that it interrupts, and that erase was counted.
pub record Programmed (at bytes : ℕ) (a b : Tally) : Type 0 where
  pub whole : bytes ≡ sector_size → b ≡ a
  pub operations : bytes ≢ sector_size → b.operations ≡ capped_sum a.operations 1
  pub programs : bytes ≢ sector_size → b.programs ≡ share_noted a.programs (region_of (at / sector_size)) bytes
  pub last : bytes ≢ sector_size
      → b.last ≡ Some (record { kind = Program; region = region_of (at / sector_size); sector = at / sector_size; bytes = bytes })
  pub erases : b.erases ≡ a.erases
  -- a header that is written, and nothing else
  pub header : region_of (at / sector_size) ≡ Head → bytes ≡ header_size → b.headers ≡ capped_sum a.headers 1
  pub others : (region_of (at / sector_size) ≢ Head) ⊎ (bytes ≢ header_size) → b.headers ≡ a.headers

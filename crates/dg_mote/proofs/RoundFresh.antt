-- A mote that has just started over a chip that was formatted.
use Rattle.std.proofs.Common.{◌≡◌, Bool, ℕ, zero, suc, ◌-◌, ◌&&◌, List, length, Option, Some, None, IfSome, get_or, refl, sym, arith, replicate}
use Rattle.std.proofs.lemmas.List.{take_all}
use Rattle.std.specs.Ordering.{nat_cmp}
use Rattle.std.specs.FinMap as map
use Rattle.dg_quiet.specs.Noted.{is_past}
use Rattle.dg_quiet.specs.Times.{request_window, packet_window}
use Rattle.dg_trickle.specs.Steps.{started}
use Rattle.dg_object.specs.Object.{Row, object}
use Rattle.dg_slot.specs.Kept.{Held}
use Rattle.dg_volume.specs.Sizes.{images, golden_version}
use Rattle.dg_volume.specs.Store.{fresh, golden_row, held, held_whole}
use Rattle.dg_volume.specs.Table.{row_at}
use Rattle.dg_volume.specs.Agreement.{KeepsRow}
use Rattle.dg_mote.specs.Well.{StoreIsWell}
use Rattle.dg_mote.specs.Drained.{Drained}
use Rattle.dg_mote.specs.Completing.{fresh_spot}

nothing : (P : Held → Type 0) (n i : ℕ) → IfSome (get_or (replicate {A = Option Held} n None) i None) P
nothing P zero i = tt
nothing P (suc n) zero = tt
nothing P (suc n) (suc i) = nothing P n i

pub fresh_well : (table : List Row) (name bytes : List ℕ) (used : ℕ) → row_at table 0 golden_version ≡ Some (golden_row name bytes) → StoreIsWell table (fresh name bytes used)
fresh_well table name bytes used in_table =
    let row = golden_row name bytes in
    let golden : KeepsRow table 0 (held_whole row) = record { row = row; in_table = in_table; pages = refl; crc = refl; first = sym (take_all (length (object row)) (object row) (omega arith)) } in
    record { count = refl; agrees = record { golden = (row, in_table, refl); kept = kept golden; app = tt } }
  where
    kept : KeepsRow table 0 (held_whole (golden_row name bytes)) → (i : ℕ) → IfSome (held (fresh name bytes used) i) (KeepsRow table i)
    kept golden zero = golden
    kept golden (suc i) = nothing (KeepsRow table (suc i)) (images - 1) i

pub fresh_drained : (name bytes : List ℕ) (used id : ℕ) (wide : Bool) (now word : ℕ) → Drained (fresh_spot name bytes used id wide now word) now
fresh_drained name bytes used id wide now word = record {
  timer = started now word;
  maintains = refl;
  unheard = refl;
  gesture = refl;
  order = refl;
  windows = λ later i from. λ k. is_past (map.get-empty nat_cmp i k) request_window later && is_past (map.get-empty nat_cmp i k) packet_window later;
}

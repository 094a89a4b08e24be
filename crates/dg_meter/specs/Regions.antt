-- The parts of a chip, by sectors (docs/IMAGES.md, "The flash map").
use Rattle.std.specs.Prelude.{ℕ, ◌-◌, ◌%◌, ◌==◌, nat_lt, if◌then◌else◌}
use Rattle.dg_slot.specs.Layout.{first_program_sector, program_end, slot_sectors}
use Rattle.dg_meter.specs.declared.region.Region.{Region}
use Rattle.dg_meter.specs.declared.region.Region.TheVariants.{Ledger, Control, Program, Head, Page}

-- the first of a slot's sectors is its header
abbrev pub slot_part : ℕ → Region
slot_part k = if k % slot_sectors == 0 then Head else Page

-- the ledger, the control sectors, program memory, and slots after it
abbrev pub region_of : ℕ → Region
region_of k =
    if k == 0 then Ledger
    else (if nat_lt k first_program_sector then Control
    else (if nat_lt k program_end then Program
    else slot_part (k - program_end)))

-- Words of private contracts and proofs.
use Rattle.std.specs.Prelude.{ℕ, codes}
use Rattle.dg_object.specs.Object.{Row, row_of}
use Rattle.dg_script.specs.Contents.{generated}
use Rattle.std.specs.Prelude.{nat_le, Bool}
use Rattle.dg_rules.specs.World.{Site}
use Rattle.dg_completion.specs.Completion.{page_count, pages_kept}
use Rattle.std.specs.Prelude.{Some}
use Rattle.dg_base.specs.declared.events.Event.TheVariants.{Reset}
use Rattle.dg_base.specs.declared.events.Step.{Step}
use Rattle.dg_trial.specs.Schedule.{drawn_cut}
use Rattle.std.specs.Prelude.{◌-◌, ◌*◌, ◌%◌}
use Rattle.dg_object.specs.Sizes.{page_size}

-- how many bytes the image has: some word makes the last page shorter
abbrev pub size_by : (pages word : ℕ) → ℕ
size_by pages word = (pages - 1) * page_size - word % page_size

-- the image
abbrev pub row_by : (pages seed word : ℕ) → Row
row_by pages seed word = row_of 1 1 (codes "trial") (generated (size_by pages word) seed)

-- a site keeps all pages of a row
abbrev pub keeps_all : Row → Site → Bool
keeps_all row x = nat_le (page_count row) (pages_kept x.store row)

-- A mote is reset, and its power is cut.
abbrev pub cut_reset : (mote w2 w3 : ℕ) → Step
cut_reset mote w2 w3 = record { event = Reset mote 0 w3; cut = Some (drawn_cut w2 w3) }

use Rattle.std.specs.Prelude.{◌≡◌, ℕ, ◌<◌, length, map, slice_get, Some}
use Rattle.dg_nor.specs.Device.{Device}
use Rattle.dg_meter.specs.Meters.{metered_device}
use Rattle.dg_rules.specs.Sizes.{most_motes}
use Rattle.dg_count.specs.Chips.{counts_by}
use Rattle.dg_count.proofs.tallies.tallies_of.Given as goal

-- the tallies so far are those of the first boards
abbrev pub invariant-loop-index : goal.invariant-loop-index
invariant-loop-index g l = (length l.tallies ≡ most_motes)
    × ((m : ℕ) (b : Device) → m < l.index → slice_get (map (metered_device g.N.Nor.device) l.boards) m ≡ Some b → b.made ≡ Some (counts_by l.tallies m))

-- Words of private contracts and proofs.
use Rattle.std.specs.Prelude.{ℕ, List, Option, option_map, Result}
use Rattle.dg_script.specs.Sizes.{most_motes, most_image, most_used, most_sweeps}
use Rattle.dg_script.specs.declared.fault.LineFault.{LineFault}
use Rattle.dg_script.specs.declared.fault.LineFault.TheVariants.{Number, Mote, Image}
use Rattle.dg_script.specs.Fields.{ranged_in}

-- how many motes there are: 1 to 16
abbrev pub mote_count_in : List ℕ → Result ℕ LineFault
mote_count_in = ranged_in Mote 1 most_motes

-- an image that can be declared, and any image
abbrev pub image_in : List ℕ → Result ℕ LineFault
image_in = ranged_in Image 1 most_image

-- commits that the chips count as spent
abbrev pub used_in : List ℕ → Result ℕ LineFault
used_in = ranged_in Number 0 most_used

-- how many sweeps
abbrev pub sweeps_in : List ℕ → Result ℕ LineFault
sweeps_in = ranged_in Number 1 most_sweeps

-- the fault of the line with this number, if it has one
abbrev pub numbered : ℕ → Option LineFault → Option (ℕ × LineFault)
numbered n found = option_map (λ fault. (n, fault)) found

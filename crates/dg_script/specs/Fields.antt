-- The fields of lines, with the fault of each (docs/SCRIPTS.md, "The script").
use Rattle.std.specs.Prelude.{ℕ, ◌==◌, nat_le, nat_lt, ◌&&◌, not, List, Result}
use Rattle.dg_base.specs.Numbers.{number_of}
use Rattle.dg_script.specs.Sizes.{most_image, most_number}
use Rattle.dg_script.specs.Results.{◌>>=◌, guarded, or_fault}
use Rattle.dg_script.specs.declared.fault.LineFault.{LineFault}
use Rattle.dg_script.specs.declared.fault.LineFault.TheVariants.{Number, Mote, Image, Version}

-- a number
unfoldable pub number_in : List ℕ → Result ℕ LineFault
number_in word = or_fault Number (number_of word)

-- a number from least to most; any other number has this fault
unfoldable pub ranged_in : (fault : LineFault) → (least most : ℕ) → List ℕ → Result ℕ LineFault
ranged_in fault least most word = number_in word >>= λ n. guarded (nat_le least n && nat_le n most) fault n

-- one of this many motes
unfoldable pub mote_in : (motes : ℕ) → List ℕ → Result ℕ LineFault
mote_in motes word = number_in word >>= λ n. guarded (nat_lt n motes) Mote n

-- one of this many motes, but not this one
unfoldable pub other_in : (motes : ℕ) → (mote : ℕ) → List ℕ → Result ℕ LineFault
other_in motes mote word = mote_in motes word >>= λ n. guarded (not (n == mote)) Mote n

abbrev pub any_image_in : List ℕ → Result ℕ LineFault
any_image_in = ranged_in Image 0 most_image

-- a version, or the number of an order
abbrev pub version_in : List ℕ → Result ℕ LineFault
version_in = ranged_in Version 1 most_number

-- the number of a frame, or of an operation
abbrev pub counted_in : List ℕ → Result ℕ LineFault
counted_in = ranged_in Number 1 most_number

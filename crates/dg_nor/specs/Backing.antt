-- What backs a board besides memory (docs/FLASH.md, "The device").
use Rattle.std.specs.Prelude.{◌≡◌, ℕ, true, false, Bool, List, Option, Some, None, IfSome}
use Rattle.std.proofs.Props.{props}
use Rattle.dg_nor.specs.Sparse.{sparse}
use Rattle.dg_nor.specs.declared.cells.Cells.{Cells}
use Rattle.dg_nor.specs.declared.files.ChipFile.{ChipFile}
use Rattle.dg_nor.specs.declared.files.FileFault.{FileFault}
use Rattle.dg_nor.specs.declared.backing.Backing.{Backing}
use Rattle.dg_nor.specs.declared.backing.Backing.TheVariants.{Memory, Mirrored, Gone}

-- the bytes of a chip
abbrev pub cells_image : Cells → List ℕ
cells_image c = sparse c.places c.stored.items

-- the bytes of a file, if it keeps what it was given
abbrev pub file_bytes : ChipFile → List ℕ
file_bytes f = f.given.bytes

-- its file is gone
abbrev pub is_gone : Backing → Bool
is_gone Memory = false
is_gone (Mirrored file) = false
is_gone (Gone fault) = true

-- it has no file
abbrev pub is_memory : Backing → Bool
is_memory Memory = true
is_memory (Mirrored file) = false
is_memory (Gone fault) = false

-- the bytes of its file, if it has one that did not fail
abbrev pub mirrored_bytes : Backing → Option (List ℕ)
mirrored_bytes Memory = None
mirrored_bytes (Mirrored file) = Some (file_bytes file)
mirrored_bytes (Gone fault) = None

-- why its file is gone
abbrev pub fault_of : Backing → Option FileFault
fault_of Memory = None
fault_of (Mirrored file) = None
fault_of (Gone fault) = Some fault

-- Its file has these bytes, if it has one that did not fail.
unfoldable pub Mirrors : Backing → List ℕ → Type 0
Mirrors backing image = IfSome (mirrored_bytes backing) (λ bytes. bytes ≡ image)

pub Mirrors-prop : (backing : Backing) (image : List ℕ) → IsProp (Mirrors backing image)
unfolding Mirrors
Mirrors-prop backing image = Prim.hlevel props

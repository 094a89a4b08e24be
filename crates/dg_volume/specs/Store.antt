-- Stores: what a chip stands for, without sectors or bits (docs/IMAGES.md, "Stores").
use Rattle.std.specs.Prelude.{◌≡◌, ◌⊎◌, ℕ, ◌+◌, ◌-◌, Bool, false, List, ◌∷◌, length, replicate, take, slice_index_or, Option}
use Rattle.std.specs.Prelude.{Some, None, IsSomeAnd}
use Rattle.dg_object.specs.Object.{Row, object, profile}
use Rattle.dg_control.specs.declared.snapshot.Order.{Order}
use Rattle.dg_slot.specs.Kept.{Held}
use Rattle.dg_volume.specs.Sizes.{images, golden_version, most_room}

-- what is in program memory: the pages of an image
pub record App : Type 0 where
  pub image : ℕ
  pub version : ℕ
  pub pages : List (List ℕ)

-- for each image what is kept of it; program memory, None if it is blank; the order, with number 0 if there is no order, and
-- whether it is waived; short starts in a row; the commits that are left
pub record Store : Type 0 where
  pub kept : List (Option Held)
  pub app : Option App
  pub order : Order
  pub waived : Bool
  pub gesture : ℕ
  pub room : ℕ

-- what is kept of an image
abbrev pub held : Store → ℕ → Option Held
held s i = slice_index_or s.kept i None

-- golden: image 0 is kept with its version, and whole
pub record KeepsGolden (s : Store) : Type 0 where
  pub whole : IsSomeAnd (held s 0) (λ h. (h.version ≡ golden_version) × (length h.complete ≡ h.pages))

-- an image of which the first n pages are kept
abbrev pub held_to : Row → ℕ → Held
held_to row n = record {
  version = row.version;
  pages = (profile row).pages;
  crc = (profile row).crc;
  complete = take n (object row);
}

-- an image that is kept whole
abbrev pub held_whole : Row → Held
held_whole row = record { version = row.version; pages = (profile row).pages; crc = (profile row).crc; complete = object row }

-- golden with this name and these bytes
abbrev pub golden_row : List ℕ → List ℕ → Row
golden_row name bytes = record { image = 0; version = golden_version; name = name; bytes = bytes }

-- a chip that was formatted with this many commits recorded as spent: golden is whole, and all else is empty
abbrev pub fresh : List ℕ → List ℕ → ℕ → Store
fresh name bytes used =
    record {
      kept = Some (held_whole (golden_row name bytes)) ∷ replicate (images - 1) None;
      app = None;
      order = record { number = 0; image = 0; version = 0 };
      waived = false;
      gesture = 0;
      room = most_room - used;
    }

-- the same store, with the same room or one commit less
pub record IsNear (before store : Store) : Type 0 where
  pub same : store ≡ record before { room = store.room }
  pub room : (store.room ≡ before.room) ⊎ (store.room + 1 ≡ before.room)

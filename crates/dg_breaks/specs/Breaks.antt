-- Why a chip is not a volume: the first of the conditions of a volume that it does not meet (docs/IMAGES.md, "Stores").
use Rattle.std.specs.Prelude.{◌≡◌, ℕ, ◌<◌, ⊤, List, slice_index_or}
use Rattle.dg_nor.specs.Chip.{sector}
use Rattle.dg_ledger.specs.Sizes.{ledger_sector}
use Rattle.dg_ledger.specs.Ledger.{HasCount}
use Rattle.dg_control.specs.Store.{Controls, current}
use Rattle.dg_control.specs.declared.snapshot.Program.{Program}
use Rattle.dg_control.specs.declared.snapshot.Program.TheVariants.{Blank, Set}
use Rattle.dg_control.specs.declared.snapshot.SlotState.{SlotState}
use Rattle.dg_control.specs.declared.snapshot.SlotState.TheVariants.{Dirty, Live}
use Rattle.dg_control.specs.declared.snapshot.Snapshot.{Snapshot}
use Rattle.dg_object.specs.Descriptor.{Details, IsDescriptor}
use Rattle.dg_slot.specs.Layout.{header_sector, page_sector, program_sector}
use Rattle.dg_slot.specs.Pages.{page_in}
use Rattle.dg_slot.specs.Header.{IsHeader}
use Rattle.dg_slot.specs.Kept.{HasDescriptor}
use Rattle.dg_volume.specs.Sizes.{images, golden_version}
use Rattle.dg_breaks.specs.Bytes.{BreaksLedger, BreaksPlace, BreaksGolden, BreaksHeader, BreaksDescriptor, BreaksProgram}
use Rattle.dg_breaks.specs.declared.condition.Condition.{Condition}
use Rattle.dg_breaks.specs.declared.condition.Condition.TheVariants as condition
use Rattle.dg_breaks.specs.declared.condition.Break.{Break}

-- ---- the conditions after the snapshot, each of a slot or of program memory

abbrev pub slot_state : Snapshot → ℕ → SlotState
slot_state p i = slice_index_or p.slots i Dirty

-- the slot has a header of this version
abbrev pub HasHeader : List ℕ → (image version : ℕ) → Type 0
HasHeader c i v = (pages : ℕ) × (crc : ℕ) × (done : ℕ) × IsHeader (sector c (header_sector i)) i v pages crc done

abbrev pub HoldsGolden : List ℕ → SlotState → Type 0
HoldsGolden c x = (x ≡ Live golden_version)
    × ((pages : ℕ) × (crc : ℕ) × IsHeader (sector c (header_sector 0)) 0 golden_version pages crc pages)

abbrev pub HoldsHeader : List ℕ → ℕ → SlotState → Type 0
HoldsHeader c i Dirty = ⊤
HoldsHeader c i (Live v) = HasHeader c i v

abbrev pub HoldsDescriptor : List ℕ → ℕ → SlotState → Type 0
HoldsDescriptor c i Dirty = ⊤
HoldsDescriptor c i (Live v) = (pages crc done : ℕ) → IsHeader (sector c (header_sector i)) i v pages crc done
    → 0 < done → HasDescriptor (page_in c (page_sector i 0)) i v pages crc

abbrev pub HoldsSet : List ℕ → Program → Type 0
HoldsSet c Blank = ⊤
HoldsSet c (Set i v) = (d : Details) × IsDescriptor (page_in c (program_sector 0)) d × (d.image ≡ i) × (d.version ≡ v)

-- each slot before this one
abbrev pub HeadersTo : List ℕ → Snapshot → ℕ → Type 0
HeadersTo c p n = (j : ℕ) → j < n → HoldsHeader c j (slot_state p j)

abbrev pub DescriptorsTo : List ℕ → Snapshot → ℕ → Type 0
DescriptorsTo c p n = (j : ℕ) → j < n → HoldsDescriptor c j (slot_state p j)

-- ---- the first that is not met

-- the chip has this snapshot and does not meet this condition, but meets each before it
abbrev pub FailsBehind : List ℕ → Snapshot → Condition → Type 0
FailsBehind c p condition.Ledger = ⊥
FailsBehind c p condition.Snapshot = ⊥
FailsBehind c p condition.Golden = HoldsGolden c (slot_state p 0) → ⊥
FailsBehind c p (condition.Header i) =
    HoldsGolden c (slot_state p 0) × HeadersTo c p i × (i < images) × (HoldsHeader c i (slot_state p i) → ⊥)
FailsBehind c p (condition.Descriptor i) =
    HoldsGolden c (slot_state p 0) × HeadersTo c p images × DescriptorsTo c p i × (i < images)
    × (HoldsDescriptor c i (slot_state p i) → ⊥)
FailsBehind c p condition.Program =
    HoldsGolden c (slot_state p 0) × HeadersTo c p images × DescriptorsTo c p images × (HoldsSet c p.program → ⊥)

abbrev pub HasSnapshot : List ℕ → (Snapshot → Type 0) → Type 0
HasSnapshot c P = (p : Snapshot) × (room : ℕ) × Controls c p room × P p

abbrev pub FailsAt : List ℕ → Condition → Type 0
FailsAt c condition.Ledger = (n : ℕ) → HasCount c n → ⊥
FailsAt c condition.Snapshot = ((n : ℕ) × HasCount c n) × ((p : Snapshot) (room : ℕ) → Controls c p room → ⊥)
FailsAt c condition.Golden = HasSnapshot c (λ p. FailsBehind c p condition.Golden)
FailsAt c (condition.Header i) = HasSnapshot c (λ p. FailsBehind c p (condition.Header i))
FailsAt c (condition.Descriptor i) = HasSnapshot c (λ p. FailsBehind c p (condition.Descriptor i))
FailsAt c condition.Program = HasSnapshot c (λ p. FailsBehind c p condition.Program)

-- the sector in which it is read
abbrev pub IsSectorOf : List ℕ → Condition → ℕ → Type 0
IsSectorOf c condition.Ledger k = k ≡ ledger_sector
IsSectorOf c condition.Snapshot k = (n : ℕ) → HasCount c n → k ≡ current n
IsSectorOf c condition.Golden k = k ≡ header_sector 0
IsSectorOf c (condition.Header i) k = k ≡ header_sector i
IsSectorOf c (condition.Descriptor i) k = k ≡ page_sector i 0
IsSectorOf c condition.Program k = k ≡ program_sector 0

-- the first byte of it at which it breaks
abbrev pub BreaksBehind : List ℕ → Snapshot → Condition → ℕ → Type 0
BreaksBehind c p condition.Ledger b = ⊥
BreaksBehind c p condition.Snapshot b = ⊥
BreaksBehind c p condition.Golden b = BreaksGolden c (slot_state p 0) b
BreaksBehind c p (condition.Header i) b = BreaksHeader c i (slot_state p i) b
BreaksBehind c p (condition.Descriptor i) b = BreaksDescriptor c i (slot_state p i) b
BreaksBehind c p condition.Program b = BreaksProgram c p.program b

abbrev pub IsByteOf : List ℕ → Condition → ℕ → Type 0
IsByteOf c condition.Ledger b = BreaksLedger (sector c ledger_sector) b
IsByteOf c condition.Snapshot b = (n : ℕ) → HasCount c n → BreaksPlace (sector c (current n)) b
IsByteOf c condition.Golden b = HasSnapshot c (λ p. BreaksBehind c p condition.Golden b)
IsByteOf c (condition.Header i) b = HasSnapshot c (λ p. BreaksBehind c p (condition.Header i) b)
IsByteOf c (condition.Descriptor i) b = HasSnapshot c (λ p. BreaksBehind c p (condition.Descriptor i) b)
IsByteOf c condition.Program b = HasSnapshot c (λ p. BreaksBehind c p condition.Program b)

pub record BreaksAt (c : List ℕ) (b : Break) : Type 0 where
  pub fails : FailsAt c b.condition
  pub sector : IsSectorOf c b.condition b.sector
  pub byte : IsByteOf c b.condition b.byte

-- all conditions after the snapshot are met
pub record HoldsBehind (c : List ℕ) (p : Snapshot) : Type 0 where
  pub golden : HoldsGolden c (slot_state p 0)
  pub headers : HeadersTo c p images
  pub descriptors : DescriptorsTo c p images
  pub program : HoldsSet c p.program

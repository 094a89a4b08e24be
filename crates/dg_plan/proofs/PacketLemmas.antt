-- A slot that is written after a read of its header only.
use Rattle.std.proofs.Common.{◌≡◌, ℕ, ◌^◌, ◌<◌, ◌≤◌, List, Option, Some, None, IfSome, refl, sym, ap, subst, ◌∙◌, arith}
use Rattle.dg_bits.specs.Sets.{Numbers}
use Rattle.dg_nor.specs.Chip.{Touches}
use Rattle.dg_slot.specs.Layout.{header_sector, slot_end, page_sector}
use Rattle.dg_slot.specs.Kept.{Held, KeepsImage}
use Rattle.dg_slot.specs.Jobs.{outline_of_slot, done_of_slot, IsOpen, Packets}
use Rattle.dg_slot.specs.declared.states.OpenSlot.{OpenSlot}
use Rattle.dg_volume.specs.Sizes.{images}
use Rattle.dg_volume.specs.Store.{Store, held}
use Rattle.dg_volume.specs.Stands.{Stands}
use Rattle.dg_plan.specs.declared.pages.PageName.{PageName}
use Rattle.dg_plan.specs.Packets.{sector_named, IsNext, IsElsewhere, HadPut}

-- ---- what is cited of the layers below

abbrev pub Alone : Type 0
Alone = (c d : List ℕ) (s : Store) (i : ℕ) → i < images → Touches (header_sector i) (slot_end i) c d → IfSome (held s i) (KeepsImage d i) → Stands c s → Stands d s

abbrev pub Versions : Type 0
Versions = (c : List ℕ) (s : Store) (i : ℕ) (h : Held) → Stands c s → held s i ≡ Some h → i < images → (1 ≤ h.version) × (h.version < 2 ^ 32)

-- what the header of a slot says is what the slot keeps
abbrev pub Found : List ℕ → (image version : ℕ) → OpenSlot → Type 0
Found c i v o = (h : Held) → h.version < 2 ^ 32 → KeepsImage c i h → (h.version ≡ v) × IsOpen c o h

-- ---- what is kept

keeps_held : (c : List ℕ) (s : Store) (i : ℕ) (h : Held) → i < images → Stands c s → held s i ≡ Some h → KeepsImage c i h
keeps_held c s i h known stands here = subst (λ (x : Option Held). IfSome x (KeepsImage c i)) here (stands.contains.kept i known)

pub kept_found : (versions : Versions) (c : List ℕ) (s : Store) (i v : ℕ) (o : OpenSlot) (h : Held) → i < images → Found c i v o → Stands c s → held s i ≡ Some h → (h.version ≡ v) × IsOpen c o h
kept_found versions c s i v o h known found stands here = found h (versions c s i h stands here known).1 (keeps_held c s i h known stands here)

pub none_kept : (c : List ℕ) (s : Store) (i v : ℕ) (h : Held) → i < images → ((h : Held) → h.version ≡ v → KeepsImage c i h → ⊥) → Stands c s → held s i ≡ Some h → h.version ≡ v → ⊥
none_kept c s i v h known none stands here version = none h version (keeps_held c s i h known stands here)

-- ---- what a slot is, by the page that was asked for

pub is_next : (c : List ℕ) (o : OpenSlot) (h : Held) (name : PageName) → h.version ≡ name.version → IsOpen c o h → done_of_slot o ≡ name.page → done_of_slot o < (outline_of_slot o).pages → IsNext name h
is_next c o h name version opened page more = record { version = version; page = sym opened.opens.done ∙ page; more = omega (arith, opened.opens.done, opened.opens.pages, more) }

pub is_elsewhere : (c : List ℕ) (o : OpenSlot) (h : Held) (name : PageName) (next : ℕ) → h.version ≡ name.version → IsOpen c o h → done_of_slot o ≡ next → (next ≡ name.page → next ≡ (outline_of_slot o).pages) → IsElsewhere name next h
is_elsewhere c o h name next version opened done whole = record { version = version; done = sym opened.opens.done ∙ done; whole = λ e. whole e ∙ opened.opens.pages }

-- ---- a slot that was written

written_by : (versions : Versions) (c m d : List ℕ) (s : Store) (i v : ℕ) (o : OpenSlot) → i < images → m ≡ c → (outline_of_slot o).image ≡ i → Found c i v o → ((h : Held) → IsOpen m o h → IsOpen d o h) → Stands c s
    → (x : Option Held) → held s i ≡ x → IfSome x (KeepsImage d i)
written_by versions c m d s i v o known same image found kept stands None here = tt
written_by versions c m d s i v o known same image found kept stands (Some h) here =
    let opened = (kept_found versions c s i v o h known found stands here).1 in
    subst (λ (n : ℕ). KeepsImage d n h) image (kept h (subst (λ (x : List ℕ). IsOpen x o h) (sym same) opened)).keeps

pub stands_written : (alone : Alone) (versions : Versions) (c m d : List ℕ) (s : Store) (i v : ℕ) (o : OpenSlot) → i < images → m ≡ c → (outline_of_slot o).image ≡ i → Touches (header_sector i) (slot_end i) m d → Found c i v o
    → ((h : Held) → IsOpen m o h → IsOpen d o h) → Stands c s → Stands d s
stands_written alone versions c m d s i v o known same image touches found kept stands =
    alone m d s i known touches (written_by versions c m d s i v o known same image found kept stands (held s i) refl) (subst (λ (x : List ℕ). Stands x s) (sym same) stands)

-- ---- the same if the header is read first

-- the sector of the slot's next page is the one that was named
pub same_sector : (o : OpenSlot) (name : PageName) → (outline_of_slot o).image ≡ name.image → done_of_slot o ≡ name.page → page_sector (outline_of_slot o).image (done_of_slot o) ≡ sector_named name
same_sector o name image page = ap (λ (n : ℕ). page_sector n (done_of_slot o)) image ∙ ap (page_sector name.image) page

pub had_put : (c m : List ℕ) (j k : ℕ) (got : Numbers) (ps : Packets) → m ≡ c → j ≡ k → HadPut c k got ps → HadPut m j got ps
had_put c m j k got ps same sector had = subst (λ (x : List ℕ). HadPut x j got ps) (sym same) (subst (λ (n : ℕ). HadPut c n got ps) (sym sector) had)

-- What a volume's laws say of the slots that it lends, and acts that follow one another.
use Rattle.std.proofs.Common.{◌≡◌, ℕ, ◌<◌, ◌≤◌, List, length, Some, sym, subst}
use Rattle.dg_nor.specs.Chip.{Touches}
use Rattle.dg_nor.specs.Device.{Device, Ran, Halts}
use Rattle.dg_nor.specs.Trail.{Trail, last, EachWorks, joined, resting}
use Rattle.dg_nor.proofs.TrailLemmas.{Ran-joined, Halted-joined_first, last-joined, operations-resting, last-resting}
use Rattle.dg_object.specs.Object.{Outline}
use Rattle.dg_slot.specs.Layout.{header_sector, slot_end}
use Rattle.dg_slot.specs.Kept.{Held, KeepsImage, with_page, held_begun}
use Rattle.dg_volume.specs.Sizes.{images}
use Rattle.dg_volume.specs.Store.{Store, IsNear, held}
use Rattle.dg_volume.specs.Stands.{Stands, MountedBut, Mounted}
use Rattle.dg_volume.specs.Changes.{paged}
use Rattle.dg_volume.specs.Ends.{taken}
use Rattle.dg_volume.specs.Acts.{Acted, Stops}
use Rattle.dg_volume.specs.Trails.{BeginsAt, take_trail}
use Rattle.dg_volume.specs.declared.volume.Volume.{Volume}

-- ---- the laws

abbrev pub SlotStays : Type 0
SlotStays = (c d : List ℕ) (v : Volume) (s : Store) (i : ℕ) (h : Held) → 1 ≤ i → i < images → held s i ≡ Some h → Touches (header_sector i) (slot_end i) c d → KeepsImage d i h → Mounted c v s → Mounted d v s

abbrev pub Filling : Type 0
Filling = (c d : List ℕ) (v : Volume) (s : Store) (i : ℕ) (h : Held) → 1 ≤ i → i < images → held s i ≡ Some h → Touches (header_sector i) (slot_end i) c d → KeepsImage d i h → MountedBut (λ j. j ≡ i) c v s → MountedBut (λ j. j ≡ i) d v s

abbrev pub FillingStops : Type 0
FillingStops = (n done : ℕ) (a b : Device) (v : Volume) (s : Store) (i : ℕ) (h : Held) → 1 ≤ i → i < images → held s i ≡ Some h → Touches (header_sector i) (slot_end i) a.image b.image → KeepsImage b.image i h → MountedBut (λ j. j ≡ i) a.image v s → Halts n done a b
    → Stops (resting s n) a b

abbrev pub PageCounts : Type 0
PageCounts = (c d : List ℕ) (v : Volume) (s : Store) (i : ℕ) (h : Held) (page : List ℕ) → 1 ≤ i → i < images → held s i ≡ Some h → Touches (header_sector i) (slot_end i) c d → KeepsImage d i (with_page h page) → MountedBut (λ j. j ≡ i) c v s
    → MountedBut (λ j. j ≡ i) d v (paged i page s)

abbrev pub PageHeld : Type 0
PageHeld = (s : Store) (i : ℕ) (h : Held) (page : List ℕ) → i < length s.kept → held s i ≡ Some h → held (paged i page s) i ≡ Some (with_page h page)

abbrev pub TakeEnds : Type 0
TakeEnds = (s : Store) (p : Outline) → last (take_trail s p) ≡ taken s p

abbrev pub TakenHeld : Type 0
TakenHeld = (s : Store) (p : Outline) → p.image < length s.kept → held (taken s p) p.image ≡ Some (held_begun p)

abbrev pub TakeBegins : Type 0
TakeBegins = (s : Store) (p : Outline) → BeginsAt s (take_trail s p)

-- ---- acts

pub rest_acted : (s : Store) (n : ℕ) (a b : Device) (v : Volume) → Mounted b.image v s → Ran n a b → Acted (resting s n) a b v
rest_acted s n a b v mounted ran = record {
  ran = subst (λ (k : ℕ). Ran k a b) (sym (operations-resting s n)) ran;
  mounted = subst (Mounted b.image v) (sym (last-resting s n)) mounted;
}

pub acted_then : (t u : Trail Store) (a b c : Device) (v w : Volume) → last t ≡ u.first → Acted t a b v → Acted u b c w → Acted (joined t u) a c w
acted_then t u a b c v w same first second = record {
  ran = Ran-joined t u first.ran second.ran;
  mounted = subst (Mounted c.image w) (sym (last-joined t u same)) second.mounted;
}

pub stops_first : (t u : Trail Store) (a b : Device) → EachWorks u.stages → last t ≡ u.first → Stops t a b → Stops (joined t u) a b
stops_first t u a b works same stops = Halted-joined_first Stands IsNear t u works same stops

-- What other crates write after the control sectors.
use Rattle.std.proofs.Common.{◌≡◌, ℕ, ◌+◌, ◌<◌, ◌≤◌, List, length, Option, Some, None, IfSome, IsSomeAnd, refl, sym, ap, subst, ◌∙◌, ⊎_elim, arith}
use Rattle.dg_volume.proofs.HeldLemmas.{held_there, golden_held, each_keeping}
use Rattle.std.proofs.Math.ListN.{length-set}
use Rattle.std.proofs.lemmas.Bool.{cases_lt, cases_eq}
use Rattle.dg_words.specs.Cells.{part}
use Rattle.dg_nor.specs.Chip.{sector, Touches}
use Rattle.dg_object.specs.Descriptor.{IsDescriptor}
use Rattle.dg_object.proofs.RowLemmas.{pages_for-most}
use Rattle.dg_control.specs.declared.snapshot.Snapshot.{Snapshot}
use Rattle.dg_control.specs.declared.snapshot.SlotState.TheVariants.{Live}
use Rattle.dg_control.proofs.CommitLemmas.{controls_kept, mounted_kept}
use Rattle.dg_slot.specs.Layout.{page_size, most_pages, header_sector, slot_end, program_sector, program_end}
use Rattle.dg_slot.specs.Pages.{page_in, program}
use Rattle.dg_slot.specs.Kept.{Held, KeepsImage}
use Rattle.dg_slot.specs.Jobs.{SameSlot}
use Rattle.dg_slot.proofs.SlotLemmas.{same_tables, image_stays}
use Rattle.dg_volume.specs.Sizes.{images, golden_version, control_sectors}
use Rattle.dg_volume.specs.Store.{App, Store, held}
use Rattle.dg_volume.specs.Told.{Says, told, slot_told}
use Rattle.dg_volume.specs.Stands.{HoldsApp, Contains, Stands, MountedBut, Mounted, kept_at}
use Rattle.dg_volume.specs.Changes.{keeping}
use Rattle.dg_volume.specs.declared.volume.Volume.{Volume}

-- ---- the parts of a chip

abbrev SameControl : List ℕ → List ℕ → Type 0
SameControl c d = (k : ℕ) → k < control_sectors → sector d k ≡ sector c k

abbrev SameMemory : List ℕ → List ℕ → Type 0
SameMemory c d = (k : ℕ) → program_sector 0 ≤ k → k < program_end → sector d k ≡ sector c k

control_before : (a b : ℕ) (c d : List ℕ) → control_sectors ≤ a → Touches a b c d → SameControl c d
control_before a b c d low keeps k h = keeps.before k (omega arith) (omega arith)

memory_before : (b : ℕ) (c d : List ℕ) (i : ℕ) → Touches (header_sector i) b c d → SameMemory c d
memory_before b c d i keeps k low high = keeps.before k (omega arith) (omega arith)

slot_behind : (c d : List ℕ) (i : ℕ) → i < images → Touches (program_sector 0) program_end c d → SameSlot i c d
slot_behind c d i known keeps k low high = keeps.behind k (omega arith) (omega arith)

-- the sectors of another slot
slot_beside : (c d : List ℕ) (i j : ℕ) → j < images → (j ≡ i → ⊥) → Touches (header_sector i) (slot_end i) c d → SameSlot j c d
slot_beside c d i j known other keeps k low high = ⊎_elim
    (λ less. keeps.before k (omega arith) (omega arith))
    (λ more. let above : i + 1 ≤ j = omega (arith, more, other) in keeps.behind k (omega arith) (omega arith))
    (cases_lt j i)

app_stays : (c d : List ℕ) (app : App) → SameMemory c d → HoldsApp c app → HoldsApp d app
app_stays c d app same holds =
    let x = holds.described in
    let most : x.0.pages ≤ most_pages = omega (arith, x.1.head.range.pages, pages_for-most x.0.length x.1.head.range.fits) in
    let pages : program c x.0.pages ≡ program d x.0.pages =
    same_tables x.0.pages (λ p. page_in c (program_sector p)) (λ p. page_in d (program_sector p)) (λ p l. ap (λ s. part s 0 page_size) (sym (same (program_sector p) (omega arith) (omega arith)))) in
    record { described = (x.0, subst (λ (s : List ℕ). IsDescriptor (part s 0 page_size) x.0) (sym (same (program_sector 0) (omega arith) (omega arith))) x.1, x.2, x.3, x.4 ∙ pages) }

memory_stays : (c d : List ℕ) (o : Option App) → SameMemory c d → IfSome o (HoldsApp c) → IfSome o (HoldsApp d)
memory_stays c d None same holds = tt
memory_stays c d (Some app) same holds = app_stays c d app same holds

held_stays : (c d : List ℕ) (i : ℕ) (o : Option Held) → SameSlot i c d → IfSome o (KeepsImage c i) → IfSome o (KeepsImage d i)
held_stays c d i None same keeps = tt
held_stays c d i (Some h) same keeps = image_stays c d i h same keeps

-- ---- a chip on which these parts are unchanged, or are as the store says

mounted_by : (P Q : ℕ → Type 0) (c d : List ℕ) (v : Volume) (s t : Store) → SameControl c d → MountedBut Q c v s → t.room ≡ s.room → ((p : Snapshot) → Says p s → Says p t) → Contains d t
    → ((i : ℕ) → i < images → (P i → ⊥) → kept_at v i ≡ told (held t i)) → MountedBut P d v t
mounted_by P Q c d v s t same m room says contains kept = record {
  control = mounted_kept c d v.control same m.control;
  stands = record {
    snapshot = m.stands.snapshot;
    controls = subst (λ (n : ℕ). Rattle.dg_control.specs.Store.Controls d m.stands.snapshot n) (sym room) (controls_kept c d m.stands.snapshot s.room same m.stands.controls);
    says = says m.stands.snapshot m.stands.says;
    contains = contains;
  };
  tells = record { says = says _ m.tells.says; room = m.tells.room ∙ sym room; kept = kept };
}

pub memory_free : (c d : List ℕ) (v : Volume) (s : Store) → s.app ≡ None → Touches (program_sector 0) program_end c d → Mounted c v s → Mounted d v s
memory_free c d v s none keeps m =
    let contains = m.stands.contains in
    mounted_by (λ i. ⊥) (λ i. ⊥) c d v s s (control_before (program_sector 0) program_end c d (omega arith) keeps) m refl (λ p says. says)
    (record {
      count = contains.count;
      kept = λ i known. held_stays c d i (held s i) (slot_behind c d i known keeps) (contains.kept i known);
      golden = contains.golden;
      app = subst (λ (o : Option App). IfSome o (HoldsApp d)) (sym none) tt;
    })
    m.tells.kept

-- what is reported of one slot does not count
pub told_but : (c : List ℕ) (v : Volume) (s : Store) (i : ℕ) → Mounted c v s → MountedBut (λ j. j ≡ i) c v s
told_but c v s i m = record { control = m.control; stands = m.stands; tells = record { says = m.tells.says; room = m.tells.room; kept = λ j k other. m.tells.kept j k (λ x. x) } }

pub slot_counts : (c d : List ℕ) (v : Volume) (s : Store) (i : ℕ) (h g : Held) → 1 ≤ i → i < images → held s i ≡ Some h → g.version ≡ h.version → Touches (header_sector i) (slot_end i) c d → KeepsImage d i g → MountedBut (λ j. j ≡ i) c v s
    → MountedBut (λ j. j ≡ i) d v (keeping i (Some g) s)
slot_counts c d v s i h g not_golden known here version keeps image m =
    let contains = m.stands.contains in
    let within : i < length s.kept = omega (arith, contains.count) in
    let t = keeping i (Some g) s in
    let told_slots : (j : ℕ) → slot_told (held s j) ≡ slot_told (held t j) =
    each_keeping (λ j x. slot_told (held s j) ≡ slot_told x) s i (Some g) within (ap slot_told here ∙ ap (λ (n : ℕ). Live n) (sym version)) (λ j other. refl) in
    mounted_by (λ j. j ≡ i) (λ j. j ≡ i) c d v s t (control_before (header_sector i) (slot_end i) c d (omega arith) keeps) m refl
    (λ p says. record { slots = λ j k. says.slots j k ∙ told_slots j; program = says.program; order = says.order; waived = says.waived; gesture = says.gesture })
    (record {
      count = length-set s.kept i (Some g) ∙ contains.count;
      kept = each_keeping (λ j x. j < images → IfSome x (KeepsImage d j)) s i (Some g) within (λ k. image) (λ j other k. held_stays c d j (held s j) (slot_beside c d i j k other keeps) (contains.kept j k));
      golden = record { whole = subst (λ (o : Option Held). IsSomeAnd o (λ x. (x.version ≡ golden_version) × (length x.complete ≡ x.pages))) (sym (golden_held s i (Some g) not_golden)) contains.golden.whole };
      app = memory_stays c d s.app (memory_before (slot_end i) c d i keeps) contains.app;
    })
    (λ j k other. m.tells.kept j k other ∙ ap told (sym (held_there s i j (Some g) other)))

-- what is reported of the slots is unchanged, whatever it is
pub slot_same : (P : ℕ → Type 0) (c d : List ℕ) (v : Volume) (s : Store) (i : ℕ) (h : Held) → 1 ≤ i → i < images → held s i ≡ Some h → Touches (header_sector i) (slot_end i) c d → KeepsImage d i h → MountedBut P c v s
    → MountedBut P d v s
slot_same P c d v s i h not_golden known here keeps image m =
    let contains = m.stands.contains in
    mounted_by P P c d v s s (control_before (header_sector i) (slot_end i) c d (omega arith) keeps) m refl (λ p says. says)
    (record {
      count = contains.count;
      kept = λ j k. ⊎_elim
          (λ e. subst (λ (n : ℕ). IfSome (held s n) (KeepsImage d n)) (sym e) (subst (λ (o : Option Held). IfSome o (KeepsImage d i)) (sym here) image))
          (λ other. held_stays c d j (held s j) (slot_beside c d i j k other keeps) (contains.kept j k))
          (cases_eq j i);
      golden = contains.golden;
      app = memory_stays c d s.app (memory_before (slot_end i) c d i keeps) contains.app;
    })
    m.tells.kept

-- the slot of an image of which nothing is kept is free
pub slot_free : (c d : List ℕ) (v : Volume) (s : Store) (i : ℕ) → i < images → held s i ≡ None → Touches (header_sector i) (slot_end i) c d → Mounted c v s → Mounted d v s
slot_free c d v s i known none keeps m =
    let contains = m.stands.contains in
    mounted_by (λ j. ⊥) (λ j. ⊥) c d v s s (control_before (header_sector i) (slot_end i) c d (omega arith) keeps) m refl (λ p says. says)
    (record {
      count = contains.count;
      kept = λ j k. ⊎_elim
          (λ e. subst (λ (n : ℕ). IfSome (held s n) (KeepsImage d n)) (sym e) (subst (λ (o : Option Held). IfSome o (KeepsImage d i)) (sym none) tt))
          (λ other. held_stays c d j (held s j) (slot_beside c d i j k other keeps) (contains.kept j k))
          (cases_eq j i);
      golden = contains.golden;
      app = memory_stays c d s.app (memory_before (slot_end i) c d i keeps) contains.app;
    })
    m.tells.kept

-- ---- without a volume

-- a slot is written, and what is kept of its image is unchanged
pub slot_alone : (c d : List ℕ) (s : Store) (i : ℕ) → i < images → Touches (header_sector i) (slot_end i) c d → IfSome (held s i) (KeepsImage d i) → Stands c s → Stands d s
slot_alone c d s i known keeps image stands =
    let contains = stands.contains in
    record {
      snapshot = stands.snapshot;
      controls = controls_kept c d stands.snapshot s.room (control_before (header_sector i) (slot_end i) c d (omega arith) keeps) stands.controls;
      says = stands.says;
      contains = record {
        count = contains.count;
        kept = λ j k. ⊎_elim
            (λ e. subst (λ (n : ℕ). IfSome (held s n) (KeepsImage d n)) (sym e) image)
            (λ other. held_stays c d j (held s j) (slot_beside c d i j k other keeps) (contains.kept j k))
            (cases_eq j i);
        golden = contains.golden;
        app = memory_stays c d s.app (memory_before (slot_end i) c d i keeps) contains.app;
      };
    }

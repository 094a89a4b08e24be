-- A chip while a commit is made.
use Rattle.std.proofs.Common.{◌≡◌, ℕ, ◌+◌, ◌-◌, ◌<◌, ◌≤◌, List, Option, Some, None, IfSome, refl, sym, ap, subst, ◌∙◌, inl, inr, ⊎_elim, arith}
use Rattle.dg_words.specs.Cells.{part}
use Rattle.dg_nor.specs.Sizes.{sectors}
use Rattle.dg_nor.specs.Chip.{sector, Touches}
use Rattle.dg_nor.specs.Device.{Device, Ran, Halted}
use Rattle.dg_nor.specs.Trail.{operations, MayLeave}
use Rattle.dg_nor.proofs.DeviceLemmas.{Halted-weaker}
use Rattle.dg_nor.proofs.TrailLemmas.{operations-stepping, Leaves-stepping, last-stepping}
use Rattle.dg_object.specs.Descriptor.{IsDescriptor}
use Rattle.dg_object.proofs.RowLemmas.{pages_for-most}
use Rattle.dg_control.specs.Store.{ControlStore, Controls, ControlStands, IsNearControl, commit_operations, committed, commit_trail, MayCommit}
use Rattle.dg_control.specs.Mounted.{control_snapshot, control_room, control_store, IsControlOf}
use Rattle.dg_control.specs.declared.snapshot.Snapshot.{Snapshot}
use Rattle.dg_control.specs.declared.control.Control.{Control}
use Rattle.dg_slot.specs.Layout.{page_size, most_pages, program_sector}
use Rattle.dg_slot.specs.Pages.{page_in, program}
use Rattle.dg_slot.specs.Kept.{Held, KeepsImage}
use Rattle.dg_slot.proofs.SlotLemmas.{same_tables, image_stays as slot_stays}
use Rattle.dg_volume.specs.Sizes.{images, control_sectors}
use Rattle.dg_volume.specs.Store.{App, Store, held, IsNear}
use Rattle.dg_volume.specs.Told.{Says, told}
use Rattle.dg_volume.specs.declared.volume.Volume.{Volume}
use Rattle.dg_volume.specs.Stands.{HoldsApp, Contains, Stands, Mounted, kept_at}
use Rattle.dg_volume.specs.Trails.{committing}
use Rattle.dg_volume.specs.Acts.{Acted, Stops}

-- ---- the sectors after the control sectors are unchanged

abbrev pub SameBehind : List ℕ → List ℕ → Type 0
SameBehind c d = (k : ℕ) → control_sectors ≤ k → k < sectors → sector d k ≡ sector c k

pub behind_kept : (c d : List ℕ) → Touches 0 control_sectors c d → SameBehind c d
behind_kept c d keeps k low high = keeps.behind k low high

pub image_stays : (c d : List ℕ) (i : ℕ) (h : Held) → i < images → SameBehind c d → KeepsImage c i h → KeepsImage d i h
image_stays c d i h known same keeps = slot_stays c d i h (λ k low high. same k (omega (arith, low)) (omega (arith, known, high))) keeps

held_stays : (c d : List ℕ) (i : ℕ) (o : Option Held) → i < images → SameBehind c d → IfSome o (KeepsImage c i) → IfSome o (KeepsImage d i)
held_stays c d i None known same keeps = tt
held_stays c d i (Some h) known same keeps = image_stays c d i h known same keeps

app_stays : (c d : List ℕ) (app : App) → SameBehind c d → HoldsApp c app → HoldsApp d app
app_stays c d app same holds =
    let x = holds.described in
    let most : x.0.pages ≤ most_pages = omega (arith, x.1.head.range.pages, pages_for-most x.0.length x.1.head.range.fits) in
    let pages : program c x.0.pages ≡ program d x.0.pages =
    same_tables x.0.pages (λ p. page_in c (program_sector p)) (λ p. page_in d (program_sector p)) (λ p l. ap (λ s. part s 0 page_size) (sym (same (program_sector p) (omega arith) (omega arith)))) in
    record { described = (x.0, subst (λ (s : List ℕ). IsDescriptor (part s 0 page_size) x.0) (sym (same (program_sector 0) (omega arith) (omega arith))) x.1, x.2, x.3, x.4 ∙ pages) }

memory_stays : (c d : List ℕ) (o : Option App) → SameBehind c d → IfSome o (HoldsApp c) → IfSome o (HoldsApp d)
memory_stays c d None same holds = tt
memory_stays c d (Some app) same holds = app_stays c d app same holds

pub contains_stays : (c d : List ℕ) (s : Store) → SameBehind c d → Contains c s → Contains d s
contains_stays c d s same held_by = record {
  count = held_by.count;
  kept = λ i known. held_stays c d i (held s i) known same (held_by.kept i known);
  golden = held_by.golden;
  app = memory_stays c d s.app same held_by.app;
}

-- ---- room

pub near_same : (s : Store) → IsNear s s
near_same s = record { same = refl; room = inl refl }

says_room : (p : Snapshot) (s : Store) (room : ℕ) → Says p s → Says p (record s { room = room })
says_room p s room says = record { slots = says.slots; program = says.program; order = says.order; waived = says.waived; gesture = says.gesture }

contains_room : (c : List ℕ) (s : Store) (room : ℕ) → Contains c s → Contains c (record s { room = room })
contains_room c s room h = record { count = h.count; kept = h.kept; golden = record { whole = h.golden.whole }; app = h.app }

-- ---- a commit from s to t, which differ only in what a snapshot says

pub record Commits (c : List ℕ) (v : Control) (next : Snapshot) (s t : Store) : Type 0 where
  pub says : Says (control_snapshot v) s
  pub room : control_room v ≡ s.room
  pub contains : Contains c s
  pub says_next : Says next t
  pub contains_next : Contains c t
  pub spent : t.room ≡ s.room - 1

near_store : (c d : List ℕ) (v : Control) (next : Snapshot) (s t : Store) (x : ControlStore) → Commits c v next s t → SameBehind c d → ControlStands d x → IsNearControl (control_store v) x → Stands d (record s { room = x.room })
near_store c d v next s t x commits same stands near = record {
  snapshot = control_snapshot v;
  controls = subst (λ (p : Snapshot). Controls d p x.room) near.snapshot stands;
  says = says_room (control_snapshot v) s x.room commits.says;
  contains = contains_room d s x.room (contains_stays c d s same commits.contains);
}

near_it : (v : Control) (s : Store) (x : ControlStore) → control_room v ≡ s.room → IsNearControl (control_store v) x → IsNear s (record s { room = x.room })
near_it v s x room near = record { same = refl; room = ⊎_elim (λ e. inl (e ∙ room)) (λ e. inr (e ∙ room)) near.room }

next_store : (c d : List ℕ) (v : Control) (next : Snapshot) (s t : Store) (x : ControlStore) → Commits c v next s t → SameBehind c d → ControlStands d x → x ≡ committed (control_store v) next → Stands d t
next_store c d v next s t x commits same stands is = record {
  snapshot = next;
  controls =
      let here : Controls d next (control_room v - 1) = subst (λ (y : ControlStore). ControlStands d y) is stands in
      subst (Controls d next) (ap (λ (n : ℕ). n - 1) commits.room ∙ sym commits.spent) here;
  says = commits.says_next;
  contains = contains_stays c d t same commits.contains_next;
}

-- what a stop leaves
pub commit_leaves : (c d : List ℕ) (v : Control) (next : Snapshot) (s t : Store) (k : ℕ) → Commits c v next s t → Touches 0 control_sectors c d → MayCommit (control_store v) next k d → MayLeave Stands IsNear (committing s t) k d
commit_leaves c d v next s t k commits keeps may =
    let same = behind_kept c d keeps in
    let left = may.leaves in
    let x = left.store in
    let count : operations (commit_trail (control_store v) next) ≡ commit_operations s.room = operations-stepping (control_store v) (commit_operations (control_room v)) (committed (control_store v) next) ∙ ap commit_operations commits.room in
    let within : k < commit_operations s.room = omega (arith, may.within, count) in
    let within_control : k < commit_operations (control_room v) = omega (arith, within, ap commit_operations commits.room) in
    ⊎_elim
    (λ near. record {
      store = record s { room = x.room };
      stands_for = near_store c d v next s t x commits same left.stands_for near;
      allowed = (Leaves-stepping IsNear s (commit_operations s.room) t k (record s { room = x.room }) within).1 (inl (near_it v s x commits.room near));
    })
    (λ done. record {
      store = t;
      stands_for = next_store c d v next s t x commits same left.stands_for done.1;
      allowed = (Leaves-stepping IsNear s (commit_operations s.room) t k t within).1 (inr (done.0 ∙ ap commit_operations commits.room, refl));
    })
    ((Leaves-stepping IsNearControl (control_store v) (commit_operations (control_room v)) (committed (control_store v) next) k x within_control).0 left.allowed)

pub operations_committing : (v : Control) (next : Snapshot) (s t : Store) → control_room v ≡ s.room → operations (commit_trail (control_store v) next) ≡ operations (committing s t)
operations_committing v next s t room =
    operations-stepping (control_store v) (commit_operations (control_room v)) (committed (control_store v) next) ∙ ap commit_operations room ∙ sym (operations-stepping s (commit_operations s.room) t)

pub commit_stops : (v : Control) (next : Snapshot) (s t : Store) (a b : Device) → Commits a.image v next s t → Touches 0 control_sectors a.image b.image → Halted (operations (commit_trail (control_store v) next)) (MayCommit (control_store v) next) a b → Stops (committing s t) a b
commit_stops v next s t a b commits keeps h =
    subst (λ (n : ℕ). Halted n (MayLeave Stands IsNear (committing s t)) a b) (operations_committing v next s t commits.room)
    (Halted-weaker (λ k within may. commit_leaves a.image b.image v next s t k commits keeps may) h)

-- ---- a commit that was made

pub controls_of : (c : List ℕ) (v : Control) → IsControlOf c v → Controls c (control_snapshot v) (control_room v)
controls_of c v m = record { generation = _; counted = m.counted; form = v.form; told = m.told; free = v.free; are_free = m.are_free; left = refl }

pub commit_mounted : (v w : Volume) (next : Snapshot) (s t : Store) (a b : Device) → Commits a.image v.control next s t → Touches 0 control_sectors a.image b.image → IsControlOf b.image w.control → control_snapshot w.control ≡ next
    → control_room w.control + 1 ≡ control_room v.control → ((i : ℕ) → i < images → kept_at w i ≡ told (held t i)) → Mounted b.image w t
commit_mounted v w next s t a b commits keeps control snapshot room kept =
    let left : control_room w.control ≡ t.room = omega (arith, room, commits.room, commits.spent) in
    record {
      control = control;
      stands = record {
        snapshot = next;
        controls = subst (Controls b.image next) left (subst (λ (p : Snapshot). Controls b.image p (control_room w.control)) snapshot (controls_of b.image w.control control));
        says = commits.says_next;
        contains = contains_stays a.image b.image t (behind_kept a.image b.image keeps) commits.contains_next;
      };
      tells = record {
        says = subst (λ (p : Snapshot). Says p t) (sym snapshot) commits.says_next;
        room = left;
        kept = λ i known free. kept i known;
      };
    }

pub commit_acted : (v w : Volume) (next : Snapshot) (s t : Store) (a b : Device) → Commits a.image v.control next s t → Touches 0 control_sectors a.image b.image → IsControlOf b.image w.control → control_snapshot w.control ≡ next
    → control_room w.control + 1 ≡ control_room v.control → ((i : ℕ) → i < images → kept_at w i ≡ told (held t i)) → Ran (operations (commit_trail (control_store v.control) next)) a b → Acted (committing s t) a b w
commit_acted v w next s t a b commits keeps control snapshot room kept ran = record {
  ran = subst (λ (n : ℕ). Ran n a b) (operations_committing v.control next s t commits.room) ran;
  mounted = subst (Mounted b.image w) (sym (last-stepping s (commit_operations s.room) t)) (commit_mounted v w next s t a b commits keeps control snapshot room kept);
}

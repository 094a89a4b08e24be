-- Commits of a start and of a mote.
use Rattle.std.proofs.Common.{◌≡◌, ℕ, Bool, List, get_or, Option, IfSome, ◌≢◌, ◌⊎◌, refl, sym, ap, subst, ⊎_elim, ◌∙◌}
use Rattle.dg_control.specs.declared.snapshot.Program.{Program}
use Rattle.dg_control.specs.declared.snapshot.Snapshot.{Snapshot}
use Rattle.dg_control.specs.declared.snapshot.SlotState.{SlotState}
use Rattle.dg_control.specs.declared.snapshot.SlotState.TheVariants.{Dirty}
use Rattle.dg_control.specs.Mounted.{control_snapshot}
use Rattle.dg_volume.specs.Store.{App, Store}
use Rattle.dg_volume.specs.Told.{Says, program_told}
use Rattle.dg_volume.specs.Stands.{HoldsApp, Stands, Tells, Mounted}
use Rattle.dg_nor.specs.Device.{Device, Ran}
use Rattle.dg_nor.specs.Trail.{resting}
use Rattle.dg_nor.proofs.DeviceLemmas.{Ran-none}
use Rattle.dg_nor.proofs.TrailLemmas.{operations-resting, last-resting}
use Rattle.dg_volume.specs.Sizes.{old_form, new_form}
use Rattle.dg_volume.specs.Trails.{committing, migrate_trail}
use Rattle.dg_volume.specs.Changes.{spent, advanced, gesture_cleared}
use Rattle.dg_volume.specs.declared.volume.Volume.{Volume}
use Rattle.dg_volume.specs.Acts.{Acted, Stops}
use Rattle.dg_volume.proofs.CommitLemmas.{Commits}

-- what a start commits, compared with the snapshot before
pub record SaysStart (r p : Snapshot) (x : Program) (n : ℕ) (b : Bool) : Type 0 where
  pub program : r.program ≡ x
  pub gesture : r.gesture ≡ n
  pub waived : r.waived ≡ b
  pub slots : r.slots ≡ p.slots
  pub order : r.order ≡ p.order

pub advance_commits : (c : List ℕ) (v : Volume) (s : Store) (next : Snapshot) (x : Program) (n : ℕ) (b : Bool) (app : Option App) → Stands c s → Tells v s → x ≡ program_told app → IfSome app (HoldsApp c)
    → SaysStart next (control_snapshot v.control) x n b → Commits c v.control next s (advanced s app n b)
advance_commits c v s next x n b app stands tells told holds says = record {
  says = tells.says;
  room = tells.room;
  contains = stands.contains;
  says_next = record {
    slots = λ i known. ap (λ (xs : List SlotState). get_or xs i Dirty) says.slots ∙ tells.says.slots i known;
    program = says.program ∙ told;
    order = says.order ∙ tells.says.order;
    waived = says.waived;
    gesture = says.gesture;
  };
  contains_next = record { count = stands.contains.count; kept = stands.contains.kept; golden = record { whole = stands.contains.golden.whole }; app = holds };
  spent = refl;
}

-- only the short starts change
pub clear_commits : (c : List ℕ) (v : Volume) (s : Store) (next : Snapshot) → Stands c s → Tells v s
    → SaysStart next (control_snapshot v.control) (control_snapshot v.control).program 0 (control_snapshot v.control).waived → Commits c v.control next s (gesture_cleared s)
clear_commits c v s next stands tells says = record {
  says = tells.says;
  room = tells.room;
  contains = stands.contains;
  says_next = record {
    slots = λ i known. ap (λ (xs : List SlotState). get_or xs i Dirty) says.slots ∙ tells.says.slots i known;
    program = says.program ∙ tells.says.program;
    order = says.order ∙ tells.says.order;
    waived = says.waived ∙ tells.says.waived;
    gesture = says.gesture;
  };
  contains_next = record { count = stands.contains.count; kept = stands.contains.kept; golden = record { whole = stands.contains.golden.whole }; app = stands.contains.app };
  spent = refl;
}

-- only the room changes
pub migrate_commits : (c : List ℕ) (v : Volume) (s : Store) (next : Snapshot) → Stands c s → Tells v s → next ≡ control_snapshot v.control → Commits c v.control next s (spent s)
migrate_commits c v s next stands tells same = record {
  says = tells.says;
  room = tells.room;
  contains = stands.contains;
  says_next = subst (λ (p : Snapshot). Says p (spent s)) (sym same)
      (record { slots = tells.says.slots; program = tells.says.program; order = tells.says.order; waived = tells.says.waived; gesture = tells.says.gesture });
  contains_next = record { count = stands.contains.count; kept = stands.contains.kept; golden = record { whole = stands.contains.golden.whole }; app = stands.contains.app };
  spent = refl;
}

-- ---- the trail of a migration

pub migrate_acted : (form : ℕ) (s : Store) (a b : Device) (v : Volume) → form ≡ old_form → Acted (committing s (spent s)) a b v → Acted (migrate_trail form s) a b v
migrate_acted form s a b v old acted = subst (λ n. Acted (migrate_trail n s) a b v) (sym old) acted

pub migrate_stops : (form : ℕ) (s : Store) (a b : Device) → form ≡ old_form → Stops (committing s (spent s)) a b → Stops (migrate_trail form s) a b
migrate_stops form s a b old stops = subst (λ n. Stops (migrate_trail n s) a b) (sym old) stops

pub is_migrated : (form : ℕ) → (form ≡ old_form) ⊎ (form ≡ new_form) → form ≢ old_form → form ≡ new_form
is_migrated form known other = ⊎_elim (λ old. absurd (other old)) (λ new. new) known

rest_acted : (s : Store) (a : Device) (v : Volume) → Mounted a.image v s → Acted (resting s 0) a a v
rest_acted s a v mounted = record {
  ran = subst (λ n. Ran n a a) (sym (operations-resting s 0)) (Ran-none a);
  mounted = subst (Mounted a.image v) (sym (last-resting s 0)) mounted;
}

pub rested : (form : ℕ) (s : Store) (a : Device) (v : Volume) → form ≡ new_form → Mounted a.image v s → Acted (migrate_trail form s) a a v
rested form s a v new mounted = subst (λ n. Acted (migrate_trail n s) a a v) (sym new) (rest_acted s a v mounted)

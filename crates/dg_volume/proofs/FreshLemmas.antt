-- A chip that was formatted stands for golden alone.
use Rattle.std.proofs.Common.{◌≡◌, ℕ, zero, suc, ◌-◌, ◌<◌, ◌≤◌, List, ◌∷◌, replicate, length, get_or, None, IfSome, IsTrue, refl, ap, ◌∙◌, inl, arith}
use Rattle.dg_words.specs.Cells.{AreBytes}
use Rattle.dg_base.specs.Texts.{spells_name}
use Rattle.dg_nor.specs.Chip.{Touches}
use Rattle.dg_object.specs.Object.{Row, IsRow}
use Rattle.dg_object.proofs.RowLemmas.{length-object}
use Rattle.dg_control.specs.Snapshot.{IsFresh}
use Rattle.dg_control.specs.Store.{Controls}
use Rattle.dg_control.specs.declared.snapshot.SlotState.{SlotState}
use Rattle.dg_control.specs.declared.snapshot.SlotState.TheVariants.{Dirty, Live}
use Rattle.dg_control.specs.declared.snapshot.Snapshot.{Snapshot}
use Rattle.dg_slot.specs.Layout.{most_bytes}
use Rattle.dg_slot.specs.Kept.{Held, KeepsImage}
use Rattle.dg_volume.specs.Sizes.{images, control_sectors, most_room}
use Rattle.dg_volume.specs.Store.{held, held_whole, golden_row, fresh}
use Rattle.dg_volume.specs.Formatting.{GoldenFirst}
use Rattle.dg_volume.specs.Told.{slot_told}
use Rattle.dg_volume.specs.Stands.{Stands}
use Rattle.dg_volume.proofs.CommitLemmas.{behind_kept, image_stays}

pub golden_is_row : (name bytes : List ℕ) → IsTrue (spells_name name) → 1 ≤ length bytes → length bytes ≤ most_bytes → AreBytes bytes → IsRow (golden_row name bytes)
golden_is_row name bytes named some fits small = record { image = omega arith; version = omega arith; version_fits = omega arith; name = named; some = some; fits = fits; bytes = small }

-- golden is in its slot, and nothing is in the others, however many there are
none_said : (n i : ℕ) → get_or (replicate n Dirty) i Dirty ≡ slot_told (get_or (replicate n None) i None)
none_said zero i = refl
none_said (suc n) zero = refl
none_said (suc n) (suc i) = none_said n i

none_kept : (c : List ℕ) (n k i : ℕ) → IfSome (get_or (replicate n None) i None) (KeepsImage c k)
none_kept c zero k i = tt
none_kept c (suc n) k zero = tt
none_kept c (suc n) k (suc i) = none_kept c n k i

slot_said : (name bytes : List ℕ) (used : ℕ) (p : Snapshot) → IsFresh p → (i : ℕ) → i < images → get_or p.slots i Dirty ≡ slot_told (held (fresh name bytes used) i)
slot_said name bytes used p is i known = ap (λ (xs : List SlotState). get_or xs i Dirty) is.slots ∙ each i
  where
    each : (i : ℕ) → get_or (Live 1 ∷ replicate (images - 1) Dirty) i Dirty ≡ slot_told (held (fresh name bytes used) i)
    each zero = refl
    each (suc i) = none_said (images - 1) i

slot_kept : (c name bytes : List ℕ) (used : ℕ) → KeepsImage c 0 (held_whole (golden_row name bytes)) → (i : ℕ) → i < images → IfSome (held (fresh name bytes used) i) (KeepsImage c i)
slot_kept c name bytes used golden zero h = golden
slot_kept c name bytes used golden (suc i) h = none_kept c (images - 1) (suc i) i

-- golden's slot is unchanged while the control sectors are written
pub golden_stays : (c d : List ℕ) (h : Held) → Touches 0 control_sectors c d → KeepsImage c 0 h → KeepsImage d 0 h
golden_stays c d h touches keeps = image_stays c d 0 h (omega arith) (behind_kept c d touches) keeps

pub fresh_stands : (c d name bytes : List ℕ) (used : ℕ) (p : Snapshot) → KeepsImage c 0 (held_whole (golden_row name bytes)) → Touches 0 control_sectors c d → Controls d p (most_room - used) → IsFresh p → Stands d (fresh name bytes used)
fresh_stands c d name bytes used p keeps touches controls is = record {
  snapshot = p;
  controls = controls;
  says = record { slots = slot_said name bytes used p is; program = is.program; order = is.order; waived = is.waived; gesture = is.gesture };
  contains = record {
    count = refl;
    kept = slot_kept d name bytes used (golden_stays c d (held_whole (golden_row name bytes)) touches keeps);
    golden = record { whole = (refl, length-object (golden_row name bytes)) };
    app = tt;
  };
}

-- golden was in its slot when the control sectors were touched
pub golden_first : (c d e : List ℕ) (golden : Row) → KeepsImage d 0 (held_whole golden) → Touches 0 control_sectors d e → GoldenFirst golden c e
golden_first c d e golden keeps touches = record { either = inl (golden_stays d e (held_whole golden) touches keeps) }

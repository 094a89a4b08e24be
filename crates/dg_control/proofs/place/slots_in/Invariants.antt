use Rattle.std.proofs.Common.{◌≡◌, ℕ, ◌+◌, ◌*◌, ◌<◌, ◌≤◌, length, take, drop, get_or, IsTrue}
use Rattle.dg_control.specs.Sizes.{images, slots_at, slot_size}
use Rattle.dg_control.specs.Ranges.{slot_fits}
use Rattle.dg_control.specs.Snapshot.{slot_bytes}
use Rattle.dg_control.specs.declared.snapshot.SlotState.{SlotState}
use Rattle.dg_control.specs.declared.snapshot.SlotState.TheVariants.{Dirty}
use Rattle.dg_control.proofs.place.slots_in.Given as goal

abbrev pub invariant-loop-k : goal.invariant-loop-k
invariant-loop-k l = record {
  long : length l.slots ≡ images;
  spelled : (i : ℕ) → i < l.k → (s : SlotState) → IsTrue (slot_fits s) → take slot_size (drop (slots_at + slot_size * i) l.place) ≡ slot_bytes s → get_or l.slots i Dirty ≡ s;
  rest : (i : ℕ) → l.k ≤ i → get_or l.slots i Dirty ≡ Dirty;
}

use Rattle.std.proofs.Common.{◌≡◌, ℕ, ◌+◌, ◌*◌, ◌≤◌, length, take, drop, ◌++◌}
use Rattle.dg_control.specs.Sizes.{place_size, slots_at, slot_size}
use Rattle.dg_control.specs.Snapshot.{slots_bytes}
use Rattle.dg_control.proofs.place.put_slots.Given as goal

abbrev pub invariant-loop-k : goal.invariant-loop-k
invariant-loop-k l = record {
  front : take (slots_at + slot_size * l.k) l.place ≡ take slots_at l.initial.place ++ slots_bytes (take l.k l.slots);
  rest : (n : ℕ) → slots_at + slot_size * l.k ≤ n → drop n l.place ≡ drop n l.initial.place;
  long : length l.place ≡ place_size;
}

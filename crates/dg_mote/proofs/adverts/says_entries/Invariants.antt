use Rattle.std.proofs.Common.{◌≡◌, ℕ, ◌<◌, ◌≤◌, true}
use Rattle.dg_volume.specs.Store.{Store, held}
use Rattle.dg_volume.specs.Stands.{Tells}
use Rattle.dg_mote.specs.Summary.{entry_for, entry_by, same_entry}
use Rattle.dg_mote.proofs.adverts.says_entries.Given as goal

abbrev pub invariant-loop-image : goal.invariant-loop-image
invariant-loop-image l = (s : Store) → Tells l.volume s → (i : ℕ) → 1 ≤ i → i < l.image → same_entry (entry_for l.entries i) (entry_by (held s i)) ≡ true

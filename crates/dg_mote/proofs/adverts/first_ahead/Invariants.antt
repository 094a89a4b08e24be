use Rattle.std.proofs.Common.{◌≡◌, ℕ, ◌<◌, ◌≤◌, false}
use Rattle.dg_volume.specs.Store.{Store, held}
use Rattle.dg_volume.specs.Stands.{Tells}
use Rattle.dg_mote.specs.Summary.{entry_for, advertiser_ahead}
use Rattle.dg_mote.proofs.adverts.first_ahead.Given as goal

abbrev pub invariant-loop-image : goal.invariant-loop-image
invariant-loop-image l = (s : Store) → Tells l.volume s → (i : ℕ) → 1 ≤ i → i < l.image → advertiser_ahead (entry_for l.entries i) (held s i) ≡ false

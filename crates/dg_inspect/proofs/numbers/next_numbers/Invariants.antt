use Rattle.std.proofs.Common.{◌≡◌, ℕ, ◌<◌, ◌≤◌, length, None, get_or}
use Rattle.dg_volume.specs.Sizes.{images}
use Rattle.dg_volume.specs.Store.{Store, held}
use Rattle.dg_inspect.specs.Seen.{ShowsStore}
use Rattle.dg_inspect.specs.Numbers.{next_version}
use Rattle.dg_inspect.proofs.numbers.next_numbers.Given as goal

abbrev pub invariant-loop-image : goal.invariant-loop-image
invariant-loop-image l = record {
  long : length l.versions ≡ images;
  golden : get_or l.versions 0 None ≡ None;
  some : 1 ≤ l.image;
  told : (s : Store) → ShowsStore s l.volume → (i : ℕ) → 1 ≤ i → i < l.image → get_or l.versions i None ≡ next_version s.room (held s i);
}

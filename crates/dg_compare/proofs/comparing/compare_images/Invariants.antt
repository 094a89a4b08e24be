use Rattle.std.proofs.Common.{◌≡◌, ℕ, ◌<◌, length, get_or}
use Rattle.dg_volume.specs.Store.{Store}
use Rattle.dg_volume.specs.Stands.{Stands}
use Rattle.dg_inspect.specs.Chip.{still_device}
use Rattle.dg_inspect.specs.Seen.{ShowsStore}
use Rattle.dg_compare.specs.Alike.{ComparesImage}
use Rattle.dg_compare.specs.declared.results.ImageCompared.{ImageCompared}
use Rattle.dg_compare.proofs.comparing.compare_images.Given as goal

-- the images before this one are compared
abbrev pub invariant-loop-image : goal.invariant-loop-image
invariant-loop-image l = record {
  compared : (s t : Store) → Stands (still_device l.one).image s → Stands (still_device l.other).image t → ShowsStore s l.seen → ShowsStore t l.other_seen → (i : ℕ) (d : ImageCompared) → i < l.image → ComparesImage s t i (get_or l.found.items i d);
  count : length l.found.items ≡ l.image;
}

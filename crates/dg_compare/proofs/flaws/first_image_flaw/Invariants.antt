use Rattle.std.proofs.Common.{ℕ, ◌<◌, List, None, get_or}
use Rattle.dg_volume.specs.Sizes.{images}
use Rattle.dg_volume.specs.Store.{Store, held}
use Rattle.dg_volume.specs.Stands.{Stands}
use Rattle.dg_inspect.specs.Pages.{ShowsKept}
use Rattle.dg_compare.specs.Sound.{SoundTo}
use Rattle.dg_compare.proofs.flaws.first_image_flaw.Given as goal

-- each slot before this one is sound
abbrev pub invariant-loop-image : goal.invariant-loop-image
invariant-loop-image l = (c : List ℕ) (s : Store) → Stands c s → ((i : ℕ) → i < images → ShowsKept (held s i) (get_or l.seen i None)) → SoundTo s l.image

use Rattle.std.proofs.Common.{◌≡◌, ℕ, ◌<◌, length, None, get_or}
use Rattle.dg_nor.specs.Reads.{Looked}
use Rattle.dg_volume.specs.Store.{Store, held}
use Rattle.dg_volume.specs.Stands.{Mounted}
use Rattle.dg_inspect.specs.Pages.{ShowsKept}
use Rattle.dg_inspect.proofs.looking.see_images.Given as goal

-- what is seen of the images before this one
abbrev pub invariant-loop-image : goal.invariant-loop-image
invariant-loop-image g l =
    let old = g.N.Nor.device l.fn.nor in
    record {
      shown : (s : Store) → Mounted old.image l.volume s → (i : ℕ) → i < l.image → ShowsKept (held s i) (get_or l.seen.items i None);
      count : length l.seen.items ≡ l.image;
      looked : Looked old (g.N.Nor.device l.nor);
    }

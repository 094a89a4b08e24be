use Rattle.std.proofs.Common.{◌≡◌, ℕ, ◌*◌, ◌<◌, ◌≤◌, false, take, length, Option, None, get_or}
use Rattle.std.specs.List.{sum_by}
use Rattle.dg_nor.specs.Device.{Took}
use Rattle.dg_nor.specs.Reads.{Looked}
use Rattle.dg_control.specs.declared.snapshot.SlotState.TheVariants.{Dirty}
use Rattle.dg_slot.specs.Kept.{Held}
use Rattle.dg_volume.specs.Sizes.{images}
use Rattle.dg_volume.specs.Told.{told}
use Rattle.dg_volume.specs.Reading.{SlotKeeps}
use Rattle.dg_volume.specs.Remount.{header_most, live}
use Rattle.dg_volume.proofs.remounting.remount_slots.Given as goal

abbrev pub invariant-loop-image : goal.invariant-loop-image
invariant-loop-image g l =
    let old = g.N.Nor.device l.fn.nor in
    record {
      found : (i : ℕ) → i < l.image → (h : Option Held) × SlotKeeps old.image i (get_or l.snapshot.slots i Dirty) h × (get_or l.kept i None ≡ told h);
      long : length l.kept ≡ images;
      looked : Looked old (g.N.Nor.device l.nor);
      awake : 0 < l.image → 1 ≤ live (get_or l.snapshot.slots 0 Dirty) → old.stopped ≡ false;
      took : Took (header_most * sum_by live (take l.image l.snapshot.slots)) old (g.N.Nor.device l.nor);
    }

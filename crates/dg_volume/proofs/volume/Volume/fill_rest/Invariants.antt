use Rattle.std.proofs.Common.{◌≡◌, ℕ, ◌<◌, false, drop}
use Rattle.dg_nor.specs.Chip.{Touches}
use Rattle.dg_object.specs.Object.{object}
use Rattle.dg_slot.specs.Layout.{header_sector, slot_end}
use Rattle.dg_volume.specs.Filling.{new_row}
use Rattle.dg_volume.specs.Store.{Store}
use Rattle.dg_volume.specs.Stands.{Mounted, is_lent}
use Rattle.dg_volume.proofs.FillLemmas.{Filled}
use Rattle.dg_volume.proofs.volume.Volume.fill_rest.Given as goal

abbrev pub invariant-loop-p : goal.invariant-loop-p
invariant-loop-p g l =
    let old = g.N.Nor.device l.fn.nor in
    let now = g.N.Nor.device l.nor in
    let pages = object (new_row l.new) in
    record {
      filled : (s : Store) → Mounted old.image l.fn.self s → Filled s l.new.image (drop l.done pages) (drop l.p pages) old now l.self;
      untouched : l.p ≡ l.done → (now ≡ old) × (l.self ≡ l.fn.self);
      awake : l.done < l.p → old.stopped ≡ false;
      lent : (i : ℕ) → is_lent l.self i ≡ is_lent l.fn.self i;
      touches : Touches (header_sector l.new.image) (slot_end l.new.image) old.image now.image;
      references : now.references ≡ old.references;
    }

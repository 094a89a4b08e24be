use Rattle.std.proofs.Common.{◌≡◌, ◌-◌, true}
use Rattle.std.specs.List.{list_all, range_with_len}
use Rattle.dg_nor.specs.Reads.{Looked}
use Rattle.dg_slot.specs.Layout.{page_sector}
use Rattle.dg_slot.specs.Pages.{page_in}
use Rattle.dg_boot.proofs.SoundLemmas.{is_sound_at}
use Rattle.dg_boot.proofs.sound.is_sound.Given as goal

abbrev pub invariant-loop-p : goal.invariant-loop-p
invariant-loop-p g l =
    let old = g.N.Nor.device l.fn.nor in
    record {
      sound : list_all (is_sound_at (λ p. page_in old.image (page_sector l.image p))) (range_with_len 1 (l.p - 1)) ≡ true;
      looked : Looked old (g.N.Nor.device l.nor);
    }

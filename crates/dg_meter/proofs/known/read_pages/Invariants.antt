use Rattle.std.specs.Prelude.{◌≡◌, ℕ, ◌<◌, length, slice_index}
use Rattle.dg_nor.specs.Device.{Took}
use Rattle.dg_nor.specs.Reads.{Looked}
use Rattle.dg_meter.specs.Pages.{slots, pages_at}
use Rattle.dg_meter.proofs.known.read_pages.Given as goal

-- the chip was only read, and the first numbers are known
abbrev pub invariant-loop-slot : goal.invariant-loop-slot
invariant-loop-slot g l = record {
  looked : Looked (g.N.Nor.device l.fn.chip) (g.N.Nor.device l.chip);
  took : Took l.slot (g.N.Nor.device l.fn.chip) (g.N.Nor.device l.chip);
  count : length l.known ≡ slots;
  pages : (s : ℕ) → s < l.slot → slice_index (g.N.Nor.device l.chip).image (pages_at s) ≡ slice_index l.known s;
}

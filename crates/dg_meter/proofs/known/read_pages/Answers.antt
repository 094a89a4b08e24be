use Rattle.std.proofs.Common.{◌≡◌, ◌∙◌, ℕ, ap, get_or, arith}
use Rattle.std.proofs.lemmas.List.{length-set}
use Rattle.std.specs.Prelude.{slice_index}
use Rattle.dg_nor.proofs.ReadLemmas.{Looked_then}
use Rattle.dg_nor.proofs.TakenLemmas.{Took_then}
use Rattle.dg_meter.specs.Pages.{pages_at}
use Rattle.dg_meter.proofs.PageLemmas.{first_read, one_more_page}
use Rattle.dg_meter.proofs.known.read_pages.Goals as goal

pub loop-slot-preserved : goal.loop-slot-preserved
loop-slot-preserved g c =
    let i = c.loop-slot.invariant in
    let image = (g.N.Nor.device c.loop-slot.chip).image in
    let byte : ℕ = get_or c.read.new.into 0 0 in
    let is : byte ≡ slice_index image (pages_at c.loop-slot.slot) =
    first_read image c.pages_cell.result c.read.new.into c.in_ok-read.ensures.bytes ∙ ap (λ (k : ℕ). slice_index image k) c.pages_cell.ensures in
    record {
      looked = Looked_then i.looked (record { same_image = c.read.ensures.same_image; ran = c.in_ok-read.ensures.ran });
      took = Took_then i.took c.read.ensures.took;
      count = length-set c.loop-slot.known c.loop-slot.slot byte ∙ i.count;
      pages = one_more_page c.loop-slot.known image (g.N.Nor.device c.read.new.self).image c.loop-slot.slot byte (omega (arith, c.loop-slot-test.true, i.count)) c.read.ensures.same_image is i.pages;
    }

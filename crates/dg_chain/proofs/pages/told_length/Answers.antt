use Rattle.std.proofs.Common.{ℕ, ◌∙◌, ap}
use Rattle.std.specs.Int.{from_be_bytes, w32}
use Rattle.dg_words.specs.Cells.{part}
use Rattle.dg_nor.specs.Chip.{sector}
use Rattle.dg_slot.specs.Layout.{page_sector}
use Rattle.dg_chain.proofs.StepLemmas.{first_four}
use Rattle.dg_chain.proofs.pages.told_length.Goals as goal

pub returns-clause-length : goal.returns-clause-length
returns-clause-length g c =
    let image = (g.N.Nor.device c.args.nor.now).image in
    c.from_be_bytes.ensures
    ∙ ap (from_be_bytes w32) (first_four (sector image (page_sector c.args.image 1)) c.read_in.new.into (c.in_ok-read_in.ensures.bytes ∙ ap (λ (k : ℕ). part (sector image k) 0 4) c.page_sector.ensures))

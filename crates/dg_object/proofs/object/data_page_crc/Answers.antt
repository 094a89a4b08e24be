use Rattle.std.proofs.Common.{ap, sym, ◌∙◌}
use Rattle.dg_words.specs.Lists.{padded}
use Rattle.dg_words.proofs.ListLemmas.{padded_full}
use Rattle.dg_base.specs.Crc.{crc_of}
use Rattle.dg_object.specs.Sizes.{page_size}
use Rattle.dg_object.proofs.PageLemmas.{filled_crc}
use Rattle.dg_object.proofs.object.data_page_crc.Goals as goal

pub returns-then-held-eq-PAGE_SIZE : goal.returns-then-held-eq-PAGE_SIZE
returns-then-held-eq-PAGE_SIZE c =
    c.crc16-crc.ensures
    ∙ ap crc_of (sym (padded_full page_size 255 c.held_in-held.result.now c.if-held-eq-PAGE_SIZE.true) ∙ ap (padded page_size 255) c.held_in-held.ensures.held)

pub returns : goal.returns
returns c =
    c.crc16_more.ensures
    ∙ filled_crc page_size 255 c.crc16-crc.result c.held_in-held.result.now c.blank-filling.result c.held_in-held.ensures.fits c.crc16-crc.ensures c.blank-filling.ensures
    ∙ ap (λ zs. crc_of (padded page_size 255 zs)) c.held_in-held.ensures.held

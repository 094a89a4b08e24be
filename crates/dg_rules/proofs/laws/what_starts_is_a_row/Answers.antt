use Rattle.dg_rules.proofs.RunsLemmas.{starts_row}
use Rattle.dg_rules.proofs.laws.what_starts_is_a_row.Goals as goal

pub returns : goal.returns
returns c w e agrees fits =
    starts_row (record { exactly = c.a_restart_is_for_the_order.ensures.exactly; nothing = c.a_restart_is_for_the_order.ensures.nothing }) c.a_whole_image_is_sound.ensures w agrees e fits

use Rattle.dg_volume.proofs.HeldLemmas.{held_paged}
use Rattle.dg_volume.proofs.BehindLemmas.{told_but, slot_same}
use Rattle.dg_volume.proofs.PagedLemmas.{page_counts, fill_stops, seal_stops}
use Rattle.dg_volume.proofs.laws.a_lent_slot_is_filled.Goals as goal

pub returns-clause-lent : goal.returns-clause-lent
returns-clause-lent x c v s i m = told_but c v s i m

pub returns-clause-filling : goal.returns-clause-filling
returns-clause-filling x c d v s i h low known here touches keeps m = slot_same _ c d v s i h low known here touches keeps m

pub returns-clause-sealed : goal.returns-clause-sealed
returns-clause-sealed x c d v s i h page low known here touches keeps m = page_counts c d v s i h page low known here touches keeps m

pub returns-clause-held : goal.returns-clause-held
returns-clause-held x s i h page known here = held_paged s i h page known here

pub returns-clause-filling_stopped : goal.returns-clause-filling_stopped
returns-clause-filling_stopped x n done a b v s i h low known here touches keeps m halts = fill_stops n done a b v s i h low known here touches keeps m halts

pub returns-clause-seal_stopped : goal.returns-clause-seal_stopped
returns-clause-seal_stopped x a b v s i h page low known here touches m stops = seal_stops a b v s i h page low known here touches m stops

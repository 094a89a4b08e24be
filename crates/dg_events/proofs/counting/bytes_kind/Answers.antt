use Rattle.dg_events.proofs.FrameLemmas.{kind_of_first}
use Rattle.dg_events.proofs.counting.bytes_kind.Goals as goal

pub returns-in-Some : goal.returns-in-Some
returns-in-Some c = kind_of_first c.args.bytes.now c.in-Some.byte.now c.first_kind.result c.in-Some.ensures.value c.first_kind.ensures

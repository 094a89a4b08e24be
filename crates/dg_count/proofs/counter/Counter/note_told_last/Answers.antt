use Rattle.std.proofs.Common.{sym, ap, option_map}
use Rattle.dg_rules.specs.World.{Sent}
use Rattle.dg_count.proofs.counter.Counter.note_told_last.Goals as goal

pub note_told_hearing-requires-clause-number : goal.note_told_hearing-requires-clause-number
note_told_hearing-requires-clause-number g c boards w is = ap (option_map (λ (s : Sent). s.bytes)) (sym (c.last_frame-frame.ensures boards w is))

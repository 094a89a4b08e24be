use Rattle.std.proofs.Common.{ℕ, List, true, sym, ap, ◌∙◌, Option}
use Rattle.dg_frame.specs.Spelling.{frame_of}
use Rattle.dg_events.specs.RefusedFrames.{fault_brought}
use Rattle.dg_count.proofs.FaultLemmas.{refusal_is}
use Rattle.dg_count.proofs.frame_counting.wide_fault.Goals as goal

pub returns-in-Some : goal.returns-in-Some
returns-in-Some c boards w is =
    ap (λ (bs : Option (List ℕ)). fault_brought true bs) (sym (c.in-Some.ensures.sent boards w is))
    ∙ refusal_is (frame_of c.in-Some.message.now) c.in-Some.message.now true c.refusal.result c.refusal.ensures.read c.refusal.ensures.refused

pub returns-in-None : goal.returns-in-None
returns-in-None c boards w is = ap (λ (bs : Option (List ℕ)). fault_brought true bs) (sym (c.in-None.ensures.sent boards w is))

use Rattle.dg_nor.proofs.ReadLemmas.{Looked_then, ReadStopped_after, ReadEnds_err}
use Rattle.dg_breaks.proofs.breaks.break_behind.Goals as goal

pub returns-in_err-descriptor_byte-clause-ends : goal.returns-in_err-descriptor_byte-clause-ends
returns-in_err-descriptor_byte-clause-ends g c =
    let looked = Looked_then (Looked_then c.in_ok-holds_golden.ensures.ends c.in_ok-image.ensures.ends) c.in_ok-image-2.ensures.ends in
    ReadEnds_err _ c.from_residual-in_err-descriptor_byte.result _ _ c.from_residual-in_err-descriptor_byte.ensures.1 (ReadStopped_after looked c.in_err-descriptor_byte.ensures.ends)

pub returns-in_err-header_byte-clause-ends : goal.returns-in_err-header_byte-clause-ends
returns-in_err-header_byte-clause-ends g c =
    let looked = Looked_then c.in_ok-holds_golden.ensures.ends c.in_ok-image.ensures.ends in
    ReadEnds_err _ c.from_residual-in_err-header_byte.result _ _ c.from_residual-in_err-header_byte.ensures.1 (ReadStopped_after looked c.in_err-header_byte.ensures.ends)

pub returns-in_err-image-2-clause-ends : goal.returns-in_err-image-2-clause-ends
returns-in_err-image-2-clause-ends g c =
    let looked = Looked_then c.in_ok-holds_golden.ensures.ends c.in_ok-image.ensures.ends in
    ReadEnds_err _ c.from_residual-in_err-image-2.result _ _ c.from_residual-in_err-image-2.ensures.1 (ReadStopped_after looked c.in_err-image-2.ensures.ends)

pub returns-in_err-program_byte-clause-ends : goal.returns-in_err-program_byte-clause-ends
returns-in_err-program_byte-clause-ends g c =
    let looked = Looked_then (Looked_then c.in_ok-holds_golden.ensures.ends c.in_ok-image.ensures.ends) c.in_ok-image-2.ensures.ends in
    ReadEnds_err _ c.from_residual-in_err-program_byte.result _ _ c.from_residual-in_err-program_byte.ensures.1 (ReadStopped_after looked c.in_err-program_byte.ensures.ends)

pub returns-clause-ends : goal.returns-clause-ends
returns-clause-ends g c =
    Looked_then (Looked_then (Looked_then c.in_ok-holds_golden.ensures.ends c.in_ok-image.ensures.ends) c.in_ok-image-2.ensures.ends) c.in_ok-program_byte.ensures.ends

pub returns-in_err-golden_byte-clause-ends : goal.returns-in_err-golden_byte-clause-ends
returns-in_err-golden_byte-clause-ends g c =
    ReadEnds_err _ c.from_residual-in_err-golden_byte.result _ _ c.from_residual-in_err-golden_byte.ensures.1 (ReadStopped_after c.in_ok-holds_golden.ensures.ends c.in_err-golden_byte.ensures.ends)

pub returns-then-not-branch-clause-ends : goal.returns-then-not-branch-clause-ends
returns-then-not-branch-clause-ends g c = Looked_then c.in_ok-holds_golden.ensures.ends c.in_ok-golden_byte.ensures.ends

pub returns-in_err-image-clause-ends : goal.returns-in_err-image-clause-ends
returns-in_err-image-clause-ends g c =
    ReadEnds_err _ c.from_residual-in_err-image.result _ _ c.from_residual-in_err-image.ensures.1 (ReadStopped_after c.in_ok-holds_golden.ensures.ends c.in_err-image.ensures.ends)

pub returns-in-Some-clause-ends : goal.returns-in-Some-clause-ends
returns-in-Some-clause-ends g c =
    Looked_then (Looked_then c.in_ok-holds_golden.ensures.ends c.in_ok-image.ensures.ends) c.in_ok-header_byte.ensures.ends

pub returns-in-Some-2-clause-ends : goal.returns-in-Some-2-clause-ends
returns-in-Some-2-clause-ends g c =
    Looked_then (Looked_then (Looked_then c.in_ok-holds_golden.ensures.ends c.in_ok-image.ensures.ends) c.in_ok-image-2.ensures.ends) c.in_ok-descriptor_byte.ensures.ends

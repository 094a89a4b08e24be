use Rattle.dg_nor.specs.Reads.{Looked}
use Rattle.dg_breaks.specs.Breaks.{DescriptorsTo}
use Rattle.dg_breaks.proofs.breaks.first_undescribed.Given as goal

-- each slot before this one holds
abbrev pub invariant-loop-image : goal.invariant-loop-image
invariant-loop-image g l =
    let old = g.N.Nor.device l.fn.nor in
    record { before : DescriptorsTo old.image l.snapshot l.image; looked : Looked old (g.N.Nor.device l.nor) }

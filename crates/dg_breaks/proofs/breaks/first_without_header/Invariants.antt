use Rattle.dg_nor.specs.Reads.{Looked}
use Rattle.dg_breaks.specs.Breaks.{HeadersTo}
use Rattle.dg_breaks.proofs.breaks.first_without_header.Given as goal

-- each slot before this one holds
abbrev pub invariant-loop-image : goal.invariant-loop-image
invariant-loop-image g l =
    let old = g.N.Nor.device l.fn.nor in
    record { before : HeadersTo old.image l.snapshot l.image; looked : Looked old (g.N.Nor.device l.nor) }

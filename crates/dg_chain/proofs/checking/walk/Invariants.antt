use Rattle.std.proofs.Common.{◌≡◌, ◌+◌, ◌-◌}
use Rattle.dg_nor.specs.Reads.{Looked}
use Rattle.dg_chain.specs.Checking.{first_break, pages_on}
use Rattle.dg_chain.proofs.StepLemmas.{last_or}
use Rattle.dg_chain.proofs.checking.walk.Given as goal

abbrev pub invariant-loop-page : goal.invariant-loop-page
invariant-loop-page g l =
    let old = g.N.Nor.device l.fn.nor in
    let rest = pages_on old.image l.image l.page ((l.count + 1) - l.page) in
    record {
      broken : first_break l.kept l.page rest ≡ first_break l.root 1 (pages_on old.image l.image 1 l.count);
      last : last_or l.kept rest ≡ last_or l.root (pages_on old.image l.image 1 l.count);
      looked : Looked old (g.N.Nor.device l.nor);
    }

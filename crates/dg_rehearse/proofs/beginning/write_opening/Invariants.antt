use Rattle.std.proofs.Common.{◌≡◌, ◌++◌}
use Rattle.dg_rehearse.proofs.BeginLemmas.{opening_so_far}
use Rattle.dg_rehearse.proofs.beginning.write_opening.Given as goal

abbrev pub invariant-loop-link : goal.invariant-loop-link
invariant-loop-link l = l.script.items ≡ l.fn.script.items ++ opening_so_far l.profile.motes l.link-items l.link-index

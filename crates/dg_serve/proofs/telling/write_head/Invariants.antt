use Rattle.std.proofs.Common.{◌≡◌, ◌++◌}
use Rattle.dg_serve.proofs.HeadLemmas.{head_so_far}
use Rattle.dg_serve.proofs.telling.write_head.Given as goal

abbrev pub invariant-loop-link : goal.invariant-loop-link
invariant-loop-link l = l.text.items ≡ l.fn.text.items ++ head_so_far l.profile.motes l.profile.links l.link-index

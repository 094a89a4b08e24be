use Rattle.std.proofs.Common.{◌≡◌, ◌+◌, drop}
use Rattle.std.specs.List.{prefix_len}
use Rattle.dg_layout.specs.Layout.{is_before}
use Rattle.dg_layout.proofs.layout.leading.Given as goal

-- all changes so far come before the place
abbrev pub invariant-loop-count : goal.invariant-loop-count
invariant-loop-count l = prefix_len (is_before l.place) l.changes ≡ l.count + prefix_len (is_before l.place) (drop l.count l.changes)

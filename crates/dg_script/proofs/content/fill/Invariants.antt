use Rattle.std.proofs.Common.{◌≡◌, take}
use Rattle.dg_script.specs.Contents.{generated}
use Rattle.dg_script.proofs.content.fill.Given as goal

-- the bytes so far are written
abbrev pub invariant-loop-at : goal.invariant-loop-at
invariant-loop-at l = take l.at l.into ≡ generated l.at l.seed

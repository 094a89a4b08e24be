-- Words of private contracts.
use Rattle.std.specs.Prelude.{ℕ}
use Rattle.dg_base.specs.declared.answers.Status.{Status}
use Rattle.dg_outside.specs.Outside.{Outside}
use Rattle.dg_cli.specs.Basing.{BasedOver}

abbrev pub BaseDone : (id step seed : ℕ) → Status → Outside → Outside → Type 0
BaseDone id step seed status a b = BasedOver (record { id = id; step = step; seed = seed }) status a b a.boards b.boards

-- The programs and erases of a step (docs/SCRIPTS.md, "Cuts").
use Rattle.std.specs.Prelude.{ℕ, min, Option, Some, None}
use Rattle.dg_nor.specs.Trail.{operations}
use Rattle.dg_base.specs.declared.events.Cut.{Cut}
use Rattle.dg_base.specs.declared.events.Step.{Step}
use Rattle.dg_rules.specs.World.{World, store_at}
use Rattle.dg_rules.specs.Events.{does, mote_of, trail_of}

-- of n operations, those that are made: all, or those up to the one that a cut interrupts, which counts
abbrev pub made_by : Option Cut → ℕ → ℕ
made_by None n = n
made_by (Some cut) n = min cut.after n

-- how many a step makes on its mote's chip
abbrev pub made_in : World → Step → ℕ
made_in w x = made_by x.cut (operations (trail_of (does w x.event) (store_at w (mote_of x.event))))

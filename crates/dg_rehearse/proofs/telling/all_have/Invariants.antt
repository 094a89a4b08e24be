use Rattle.std.proofs.Common.{◌≡◌, ℕ, ◌<◌, true}
use Rattle.dg_rehearse.specs.Ended.{TellsOf}
use Rattle.dg_rehearse.specs.Turns.{all_motes, tells_of}
use Rattle.dg_rehearse.proofs.telling.all_have.Given as goal

abbrev pub invariant-loop-mote : goal.invariant-loop-mote
invariant-loop-mote l = record { each : (m : ℕ) → m < l.mote → TellsOf l.plan m l.reports; value : all_motes (tells_of l.plan l.reports) l.mote ≡ true }

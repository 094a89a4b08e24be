use Rattle.std.proofs.Common.{refl, arith}
use Rattle.dg_events.proofs.UptimeLemmas.{none_timed}
use Rattle.dg_events.proofs.uptime.Uptimes.new.Goals as goal

pub returns : goal.returns
returns c = record {
  few = omega arith;
  early = omega arith;
  ms = refl;
  motes = refl;
  each = λ m u there. none_timed 16 m u c.none.result c.none.ensures there;
}

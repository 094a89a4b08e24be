use Rattle.std.proofs.Common.{length, Some, ap}
use Rattle.dg_count.specs.Runs.{placement_of}
use Rattle.dg_count.proofs.ChipLemmas.{have_ended}
use Rattle.dg_count.proofs.RunLemmas.{place_is}
use Rattle.dg_count.proofs.watching.CounterWatcherMetered.ended.Goals as goal

pub returns : goal.returns
returns g c = record {
  seen = λ initial stores events w led is seen.
      let p = c.place_of-place in
      (seen.0, seen.1, have_ended (placement_of c.args.self.now) (Some p.result) (length stores) events (ap Some (place_is p.result c.args.event.now p.ensures.mote p.ensures.dt p.ensures.kind)) is seen.2);
}

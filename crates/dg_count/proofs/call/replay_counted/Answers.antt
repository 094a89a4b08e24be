use Rattle.std.proofs.Common.{List, map, ap, subst}
use Rattle.dg_nor.specs.Device.{Device}
use Rattle.dg_meter.specs.Meters.{metered_device}
use Rattle.dg_count.specs.Chips.{AreTallies}
use Rattle.dg_count.specs.Runs.{sight_of}
use Rattle.dg_count.proofs.SightLemmas.{seen_later, replay_seen}
use Rattle.dg_count.proofs.call.replay_counted.Goals as goal

pub returns-clause-counted : goal.returns-clause-counted
returns-clause-counted g c seen rest table =
    let before = map (metered_device g.N.Nor.device) c.args.boards.now.items in
    let after = map (metered_device g.N.Nor.device) c.replay-status.new.boards.items in
    let s = c.replay-status.ensures.seen rest table seen in (
      s.0,
      replay_seen c.replay-status.result c.settle.new.self before after s.0.came s.0.limits.few_events
          (seen_later c.replay-status.result (sight_of c.replay-status.new.watcher before after) (sight_of c.settle.new.self before after) s.0.came (c.settle.ensures.seen before after)
          (c.settle.ensures.end before after) s.1)
          (subst (λ (boards : List Device). AreTallies c.settle.new.self.settled boards) (ap (map (metered_device g.N.Nor.device)) c.deref.ensures.value) c.settle.ensures.tallies),
    )

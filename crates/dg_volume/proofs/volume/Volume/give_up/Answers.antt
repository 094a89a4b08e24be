use Rattle.std.proofs.Common.{◌≡◌, None, rules}
use Rattle.dg_volume.specs.Stands.{kept_at}
use Rattle.dg_volume.proofs.TakeLemmas.{on_ok, on_err, given_up_acted, given_up_stops, dropped_none}
use Rattle.dg_volume.proofs.volume.Volume.give_up.Goals as goal

pub returns-then-is_none-clause-acted : goal.returns-then-is_none-clause-acted
returns-then-is_none-clause-acted g c s mounted =
    let none : kept_at c.args.self.now c.args.image ≡ None = search rules in
    dropped_none _ c.args.self.now s c.args.image c.requires.known_image none mounted

pub returns-clause-acted : goal.returns-clause-acted
returns-clause-acted g c = on_ok c.commit_kept.result (λ acted s mounted. given_up_acted _ _ c.args.self.now _ s c.args.image c.requires.known_image (search rules) mounted acted) c.commit_kept.ensures.acted

pub returns-clause-stopped : goal.returns-clause-stopped
returns-clause-stopped g c = on_err c.commit_kept.result (λ stopped s mounted. given_up_stops _ _ c.args.self.now s c.args.image c.requires.known_image (search rules) mounted stopped) c.commit_kept.ensures.stopped

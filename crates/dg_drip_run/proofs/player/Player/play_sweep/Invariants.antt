use Rattle.std.proofs.Common.{Ok, take}
use Rattle.dg_drip_run.specs.inner.Playing.{DripItemsPlayed, StaysPlaying}
use Rattle.dg_drip_run.proofs.RoundLemmas.{pairs_items}
use Rattle.dg_drip_run.proofs.player.Player.play_sweep.Given as goal

-- the rounds of the links before this one were played
abbrev pub invariant-loop-at : goal.invariant-loop-at
invariant-loop-at l = DripItemsPlayed (Ok tt) l.fn.self l.self (pairs_items (take l.at l.fn.self.network.links.items)) × StaysPlaying l.fn.self l.self

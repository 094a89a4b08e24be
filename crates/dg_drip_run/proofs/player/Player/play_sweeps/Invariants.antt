use Rattle.std.proofs.Common.{Ok}
use Rattle.dg_drip.specs.Spread.{sweeps}
use Rattle.dg_drip_script.specs.Scripts.{rounds_items}
use Rattle.dg_drip_run.specs.inner.Playing.{DripItemsPlayed, StaysPlaying}
use Rattle.dg_drip_run.proofs.player.Player.play_sweeps.Given as goal

-- this many sweeps were played
abbrev pub invariant-loop-done : goal.invariant-loop-done
invariant-loop-done l = DripItemsPlayed (Ok tt) l.fn.self l.self (rounds_items (sweeps l.done l.fn.self.network.links.items)) × StaysPlaying l.fn.self l.self

use Rattle.std.proofs.Common.{Ok}
use Rattle.dg_drip_run.specs.inner.Playing.{DripItemsPlayed, StaysPlaying}
use Rattle.dg_drip_run.proofs.RoundLemmas.{keys_items}
use Rattle.dg_drip_run.proofs.player.Player.play_round.Given as goal

-- the keys below this one were played
abbrev pub invariant-loop-key : goal.invariant-loop-key
invariant-loop-key l = DripItemsPlayed (Ok tt) l.fn.self l.self (keys_items l.a l.b l.key) × StaysPlaying l.fn.self l.self

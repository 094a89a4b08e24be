use Rattle.std.proofs.Common.{◌∷◌, [], List, ℕ, refl, ap, true}
use Rattle.dg_drip.specs.Spread.{drip_round, sweeps}
use Rattle.dg_drip_script.specs.Scripts.{unreported_items, with_items, begun_script}
use Rattle.dg_drip_script.specs.Scripts.{rounds_items}
use Rattle.dg_drip_script.specs.declared.line.DripLine.TheVariants.{Event as EventLine, Round, Sweeps}
use Rattle.dg_drip_run.proofs.ApplyLemmas.{links_of_player}
use Rattle.dg_drip_run.proofs.LineLemmas.{begun_playing, events_played}
use Rattle.dg_drip_run.proofs.player.Player.play_line.Goals as goal

pub apply_event-requires-clause-playing : goal.apply_event-requires-clause-playing
apply_event-requires-clause-playing c = begun_playing c.args.self.now c.requires.playing

pub play_round-requires-clause-playing : goal.play_round-requires-clause-playing
play_round-requires-clause-playing c = begun_playing c.args.self.now c.requires.playing

pub play_sweeps-requires-clause-playing : goal.play_sweeps-requires-clause-playing
play_sweeps-requires-clause-playing c = begun_playing c.args.self.now c.requires.playing

pub returns-in-Event : goal.returns-in-Event
returns-in-Event c =
    rw c.in-Event.is (events_played c.apply_event.result c.args.self.now c.apply_event.new.self (EventLine c.in-Event.event) (record { event = c.in-Event.event; reported = true } ∷ []) (λ s before h. refl) c.apply_event.ensures.ran)

pub returns-in-Round : goal.returns-in-Round
returns-in-Round c =
    rw c.in-Round.is (events_played c.play_round.result c.args.self.now c.play_round.new.self (Round c.in-Round.a c.in-Round.b) (unreported_items (drip_round c.in-Round.a c.in-Round.b)) (λ s before h. refl) c.play_round.ensures.ran)

pub returns-in-Sweeps : goal.returns-in-Sweeps
returns-in-Sweeps c =
    rw c.in-Sweeps.is
    (events_played c.play_sweeps.result c.args.self.now c.play_sweeps.new.self (Sweeps c.in-Sweeps.count) (rounds_items (sweeps c.in-Sweeps.count c.args.self.now.network.links.items))
    (λ s before h. ap (λ (links : List (ℕ × ℕ)). with_items (begun_script s) (rounds_items (sweeps c.in-Sweeps.count links))) (links_of_player c.args.self.now s before h)) c.play_sweeps.ensures)

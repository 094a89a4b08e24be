use Rattle.std.proofs.Common.{◌+◌, ◌<◌, ◌^◌, ◌∷◌, [], refl, arith}
use Rattle.dg_drip_replay.specs.Standing.{time_of}
use Rattle.dg_drip_run.proofs.ApplyLemmas.{filled, apply_ran, goes_on}
use Rattle.dg_drip_run.proofs.player.Player.apply_event.Goals as goal

pub returns-then-self-ge-MOST_EVENTS-clause-ran : goal.returns-then-self-ge-MOST_EVENTS-clause-ran
returns-then-self-ge-MOST_EVENTS-clause-ran c = λ s before h. filled c.args.self.now s before (record { event = c.args.event.now; reported = c.args.reported }) h c.if-self-ge-MOST_EVENTS.true

pub returns-clause-ran : goal.returns-clause-ran
returns-clause-ran c =
    let short : time_of c.args.event.now < 2 ^ 32 = omega (arith, c.dt_of-short.ensures, c.dt_of-short.type_inv) in
    apply_ran c.push_text.result c.args.self.now (record { network = c.apply.new.self; standing = c.args.self.now.standing; events = c.args.self.now.events + 1; text = c.push_text.new.text })
    c.args.event.now c.args.reported c.in-Ok.report c.push_text.ensures.reported c.push_text.ensures.stop c.requires.fits short c.requires.begun c.if-self-ge-MOST_EVENTS.false c.in-Ok.ensures.does c.in-Ok.ensures.passes refl refl

pub returns-clause-on : goal.returns-clause-on
returns-clause-on c =
    goes_on c.push_text.result c.args.self.now (record { network = c.apply.new.self; standing = c.args.self.now.standing; events = c.args.self.now.events + 1; text = c.push_text.new.text })
    (record { event = c.args.event.now; reported = c.args.reported } ∷ []) c.requires.playing refl (returns-clause-ran c)

use Rattle.std.proofs.Common.{◌≡◌, sym, subst}
use Rattle.dg_volume.specs.Acts.{Stops}
use Rattle.dg_mote.specs.Model.{Mode}
use Rattle.dg_mote.specs.Adverts.{on_advert, offer}
use Rattle.dg_mote.specs.Motes.{Done}
use Rattle.dg_mote.specs.declared.mote.Heard.TheVariants as heard
use Rattle.dg_mote.proofs.HereLemmas.{maintains_here, receives_here, transmits_here}
use Rattle.dg_mote.proofs.ServeLemmas.{dropped_done, if_ok, on_err, not_dropped}
use Rattle.dg_mote.proofs.mote.Mote.hear_advert.Goals as goal

pub compare_advert-requires-clause-mote : goal.compare_advert-requires-clause-mote
compare_advert-requires-clause-mote g c =
    let is = c.requires.mote.2 in
    let here = maintains_here _ c.args.self.now c.requires.mote.0 c.requires.mote.1 c.in-Maintain.field-0 is c.in-Maintain.is in
    (c.requires.mote.0, c.requires.mote.1, c.in-Maintain.field-0, is, here.is)

pub returns-in-Maintain-clause-done : goal.returns-in-Maintain-clause-done
returns-in-Maintain-clause-done g c = if_ok c.compare_advert.result c.compare_advert.ensures.done (λ answer done m s is.
    let a = g.N.Nor.device c.args.nor.now in
    let here = maintains_here a.image c.args.self.now m s c.in-Maintain.field-0 is c.in-Maintain.is in
    subst (λ (y : Mode). Done (on_advert y m s c.args.now c.args.word (offer c.args.source c.args.entries.now) c.args.order.now) a (g.N.Nor.device c.compare_advert.new.nor) c.compare_advert.new.self answer) (sym here.is) (done m s c.in-Maintain.field-0 is here.is))

pub returns-in-Maintain-clause-stopped : goal.returns-in-Maintain-clause-stopped
returns-in-Maintain-clause-stopped g c = on_err c.compare_advert.result c.compare_advert.ensures.stopped (λ stopped m s is.
    let a = g.N.Nor.device c.args.nor.now in
    let here = maintains_here a.image c.args.self.now m s c.in-Maintain.field-0 is c.in-Maintain.is in
    subst (λ (y : Mode). Stops (on_advert y m s c.args.now c.args.word (offer c.args.source c.args.entries.now) c.args.order.now).trail a (g.N.Nor.device c.compare_advert.new.nor)) (sym here.is) (stopped m s c.in-Maintain.field-0 is here.is))

pub returns-in-Receive-clause-done : goal.returns-in-Receive-clause-done
returns-in-Receive-clause-done g c m s is =
    let x = c.in-Receive in
    let a = g.N.Nor.device c.args.nor.now in
    let here = receives_here a.image c.args.self.now m s x.version x.server x.asking x.job is x.is in
    subst (λ (y : Mode). Done (on_advert y m s c.args.now c.args.word (offer c.args.source c.args.entries.now) c.args.order.now) a a c.args.self.now heard.Dropped) (sym here.is) (dropped_done a c.args.self.now m s is)

pub returns-in-Transmit-clause-done : goal.returns-in-Transmit-clause-done
returns-in-Transmit-clause-done g c m s is =
    let x = c.in-Transmit in
    let a = g.N.Nor.device c.args.nor.now in
    let here = transmits_here a.image c.args.self.now m s x.image x.version x.page x.serving is x.is in
    subst (λ (y : Mode). Done (on_advert y m s c.args.now c.args.word (offer c.args.source c.args.entries.now) c.args.order.now) a a c.args.self.now heard.Dropped) (sym here.is) (dropped_done a c.args.self.now m s is)

pub returns-in-Maintain-clause-unchanged : goal.returns-in-Maintain-clause-unchanged
returns-in-Maintain-clause-unchanged g c = not_dropped ((g.N.Nor.device c.compare_advert.new.nor ≡ g.N.Nor.device c.args.nor.now) × (c.compare_advert.new.self ≡ c.args.self.now)) c.compare_advert.result c.compare_advert.ensures.not_dropped

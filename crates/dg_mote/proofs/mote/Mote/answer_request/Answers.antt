use Rattle.std.proofs.Common.{sym, subst}
use Rattle.dg_mote.specs.Hearing.{ChipStays}
use Rattle.dg_mote.specs.Requests.{to_it, page_request}
use Rattle.dg_mote.specs.Model.{Mode}
use Rattle.dg_mote.proofs.HereLemmas.{maintains_here, transmits_here}
use Rattle.dg_mote.proofs.mote.Mote.answer_request.Goals as goal

pub returns-in-Maintain-clause-rests : goal.returns-in-Maintain-clause-rests
returns-in-Maintain-clause-rests c d m s is =
    let here = maintains_here d c.args.self.now m s c.in-Maintain.field-0 is c.in-Maintain.is in
    subst (λ (x : Mode). ChipStays (to_it x m s c.args.now (page_request c.args.name.image c.args.name.version c.args.name.page c.args.want)) d s c.serve.new.self c.serve.result) (sym here.is)
    (c.serve.ensures.rests d m s c.in-Maintain.field-0 is here.is)

pub returns-in-Transmit-clause-rests : goal.returns-in-Transmit-clause-rests
returns-in-Transmit-clause-rests c d m s is =
    let x = c.in-Transmit in
    let here = transmits_here d c.args.self.now m s x.image x.version x.page x.serving is x.is in
    subst (λ (y : Mode). ChipStays (to_it y m s c.args.now (page_request c.args.name.image c.args.name.version c.args.name.page c.args.want)) d s c.serve_more.new.self c.serve_more.result) (sym here.is)
    (c.serve_more.ensures.rests d m s here.t c.args.now is here.is)

use Rattle.std.proofs.Common.{◌≤◌, Bool, sym, subst, ◌∙◌}
use Rattle.dg_send.specs.Owed.{Owed}
use Rattle.dg_frame.specs.Sizes.{known_images}
use Rattle.dg_mote.specs.Hearing.{ChipStays}
use Rattle.dg_mote.specs.Requests.{to_it, page_request}
use Rattle.dg_mote.specs.Model.{Maintain}
use Rattle.dg_mote.specs.declared.mote.Heard.TheVariants as heard
use Rattle.dg_mote.specs.declared.mote.Mode.TheVariants as value
use Rattle.dg_mote.proofs.ServeLemmas.{serving_now}
use Rattle.dg_mote.proofs.mote.Mote.serve.Goals as goal

pub returns-clause-rests : goal.returns-clause-rests
returns-clause-rests c d m s timer is mode =
    let i = c.args.name.image in
    let version = c.args.name.version in
    let page = c.args.name.page in
    subst (λ (o : Owed). ChipStays (to_it (Maintain timer) m s c.args.now (page_request i version page c.args.want)) d s (record c.args.self.now { mode = value.Transmit i version page o }) (heard.Serves i page)) (sym c.new.ensures)
    (serving_now d c.args.self.now m s timer i version page c.args.now c.args.want c.requires.range.first (subst (λ (w : Bool). i ≤ known_images w) is.wide c.requires.range.last) c.requires.some is mode (sym (c.can_serve.ensures d m s is) ∙ c.if-not-can_serve.false))

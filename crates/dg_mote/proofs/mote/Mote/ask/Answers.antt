use Rattle.std.proofs.Common.{◌≤◌, Bool, subst}
use Rattle.dg_nor.proofs.DeviceLemmas.{OnErr_from}
use Rattle.dg_frame.specs.Sizes.{known_images}
use Rattle.dg_mote.proofs.AskLemmas.{asking_done}
use Rattle.dg_mote.proofs.mote.Mote.ask.Goals as goal

pub returns-in_err-job-clause-stopped : goal.returns-in_err-job-clause-stopped
returns-in_err-job-clause-stopped g c = OnErr_from c.from_residual.result (λ m s timer is mode may. c.in_err-job.ensures.stopped s is.mounted may)

pub returns-clause-done : goal.returns-clause-done
returns-clause-done g c m s timer is mode may =
    let high = subst (λ (w : Bool). c.args.image ≤ known_images w) is.wide c.requires.known in
    let a = g.N.Nor.device c.args.nor.now in
    let b = g.N.Nor.device c.begin_page.new.nor in
    let begun = c.in_ok-job.ensures.begun s is.mounted may in
    asking_done a b c.args.self.now c.begin_page.new.volume m s timer c.args.now c.args.word c.args.source c.args.image c.page-page.result c.args.entry c.new.result c.in_ok-job.job is mode may high begun.0 begun.1 c.in_ok-job.ensures.lent c.begin_page.ensures.others c.new.ensures c.page-page.ensures

use Rattle.dg_nor.proofs.DeviceLemmas.{OnErr_from}
use Rattle.dg_mote.proofs.ServeLemmas.{if_ok3, on_err}
use Rattle.dg_mote.proofs.AskLemmas.{PageErased, ask_stops_first, ask_begun, ask_stops_then}
use Rattle.dg_mote.proofs.opening.begin_page.Goals as goal

pub returns-in_err-slot-clause-stopped : goal.returns-in_err-slot-clause-stopped
returns-in_err-slot-clause-stopped g c = OnErr_from c.from_residual.result (λ s m may.
    ask_stops_first s c.args.image c.args.entry (g.N.Nor.device c.args.nor.now) (g.N.Nor.device c.open.new.nor) (c.in_err-slot.ensures.stopped s m may))

pub returns-clause-begun : goal.returns-clause-begun
returns-clause-begun g c = if_ok3 c.begin_page.result c.begin_page.ensures.begun c.begin_page.ensures.same c.begin_page.ensures.ran (λ job begun same ran s m may.
    let a = g.N.Nor.device c.args.nor.now in
    let b = g.N.Nor.device c.open.new.nor in
    let d = g.N.Nor.device c.begin_page.new.nor in
    let o = c.in_ok-slot.slot in
    let opened = c.in_ok-slot.ensures.opened s m may in
    let erased : PageErased b.image d.image o = record { touches = c.begin_page.ensures.touches; kept = λ h x. c.begin_page.ensures.kept h x } in
    ask_begun c.what_is_after_the_commits_does_not_count.ensures.same s c.args.image c.args.entry a b d c.open.new.volume o job may opened.0 opened.1 erased ran same.0 begun)

pub returns-clause-stopped : goal.returns-clause-stopped
returns-clause-stopped g c = on_err c.begin_page.result c.begin_page.ensures.stopped (λ halts s m may.
    let a = g.N.Nor.device c.args.nor.now in
    let b = g.N.Nor.device c.open.new.nor in
    let d = g.N.Nor.device c.begin_page.new.nor in
    let o = c.in_ok-slot.slot in
    let opened = c.in_ok-slot.ensures.opened s m may in
    let erased : PageErased b.image d.image o = record { touches = c.begin_page.ensures.touches; kept = λ h x. c.begin_page.ensures.kept h x } in
    ask_stops_then c.what_is_after_the_commits_does_not_count.ensures.same c.a_lent_slot_is_filled.ensures.filling_stopped s c.args.image c.args.entry a b d c.open.new.volume o may opened.0 opened.1 erased halts)

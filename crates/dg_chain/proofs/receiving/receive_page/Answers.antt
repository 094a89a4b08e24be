use Rattle.std.proofs.Common.{◌≡◌, ◌≤◌, sym, ap, subst, ◌∙◌, arith}
use Rattle.dg_nor.proofs.DeviceLemmas.{OnErr_from, Ran_then}
use Rattle.dg_slot.specs.Layout.{packets}
use Rattle.dg_slot.specs.Jobs.{IsOpen, IsJob, Packets, packets_of, page_from, outline_of_slot, done_of_slot, slot_of, SlotStops}
use Rattle.dg_slot.specs.Kept.{Held}
use Rattle.dg_slot.specs.declared.states.OpenSlot.{OpenSlot}
use Rattle.dg_slot.proofs.JobLemmas.{packets_make}
use Rattle.dg_chain.specs.Answers.{chained_trail, SealsChained}
use Rattle.dg_chain.specs.Receiving.{receive_page_trail, ReceivesDataPage}
use Rattle.dg_chain.specs.declared.sealing.ChainSealing.{ChainSealing}
use Rattle.dg_chain.proofs.ReceiveLemmas.{halted_within, erase_halts, filling_stops, sealing_stops, received, if_ok_then, on_err_then}
use Rattle.dg_chain.proofs.receiving.receive_page.Goals as goal

pub returns-in_err-job-clause-stopped : goal.returns-in_err-job-clause-stopped
returns-in_err-job-clause-stopped g c = OnErr_from c.from_residual.result (λ h opened.
    filling_stops c.args.expected.now (outline_of_slot c.args.slot).image h c.args.page.now (g.N.Nor.device c.args.nor.now) (g.N.Nor.device c.begin_page.new.nor) (c.begin_page.ensures.kept h opened).keeps
    (erase_halts _ _ c.in_err-job.ensures.stopped))

pub returns-in_err-put_all-clause-stopped : goal.returns-in_err-put_all-clause-stopped
returns-in_err-put_all-clause-stopped g c = OnErr_from c.from_residual-in_err-put_all.result (λ h opened.
    let same = c.in_ok-job.ensures.same.0 in
    let mid = subst (λ (o : OpenSlot). IsOpen (g.N.Nor.device c.begin_page.new.nor).image o h) (sym same) (c.begin_page.ensures.kept h opened) in
    let now = subst (λ (o : OpenSlot). IsOpen (g.N.Nor.device c.put_all.new.nor).image o h) same (c.put_all.ensures.kept h mid) in
    filling_stops c.args.expected.now (outline_of_slot c.args.slot).image h c.args.page.now (g.N.Nor.device c.args.nor.now) (g.N.Nor.device c.put_all.new.nor) now.keeps
    (halted_within 1 packets 49 (g.N.Nor.device c.args.nor.now) (g.N.Nor.device c.begin_page.new.nor) (g.N.Nor.device c.put_all.new.nor) (omega arith) c.in_ok-job.ensures.ran c.in_err-put_all.ensures.stopped))

pub seal_chained-requires-clause-data_page : goal.seal_chained-requires-clause-data_page
seal_chained-requires-clause-data_page g c =
    let same = c.put_all.ensures.same_slot ∙ c.in_ok-job.ensures.same.0 in
    let done : 1 ≤ done_of_slot c.args.slot = omega (arith, c.requires.fits.1.opens.done, c.requires.fits.3) in
    subst (λ (o : OpenSlot). 1 ≤ done_of_slot o) (sym same) done

pub returns-clause-received : goal.returns-clause-received
returns-clause-received g c =
    let i = (outline_of_slot c.args.slot).image in
    let page = c.args.page.now in
    let made = page_from (packets_of page) in
    let a = g.N.Nor.device c.args.nor.now in
    let b = g.N.Nor.device c.put_all.new.nor in
    let d = g.N.Nor.device c.seal_chained.new.nor in
    let j = (outline_of_slot (slot_of c.put_all.new.self)).image in
    let same : slot_of c.put_all.new.self ≡ c.args.slot = c.put_all.ensures.same_slot ∙ c.in_ok-job.ensures.same.0 in
    let there : j ≡ i = ap (λ (o : OpenSlot). (outline_of_slot o).image) same in
    let ran = Ran_then c.in_ok-job.ensures.ran c.in_ok-put_all.ensures.ran in
    if_ok_then
    (λ (answer : ChainSealing). (h : Held) (ps : Packets) → IsJob b.image c.put_all.new.self h ps → SealsChained c.args.expected.now j h (page_from ps) b d answer)
    (λ (answer : ChainSealing). (h : Held) → IsOpen a.image c.args.slot h → ReceivesDataPage c.args.expected.now i h page a d answer)
    c.seal_chained.result
    (λ answer sealed h opened.
    received c.args.expected.now i j h page made a b d answer there (packets_make page c.told-page) ran (sealed h (packets_of page) (c.in_ok-put_all.ensures.put h (c.in_ok-job.ensures.begun h opened))))
    c.seal_chained.ensures.sealed

pub returns-clause-stopped : goal.returns-clause-stopped
returns-clause-stopped g c =
    let i = (outline_of_slot c.args.slot).image in
    let page = c.args.page.now in
    let made = page_from (packets_of page) in
    let a = g.N.Nor.device c.args.nor.now in
    let b = g.N.Nor.device c.put_all.new.nor in
    let d = g.N.Nor.device c.seal_chained.new.nor in
    let j = (outline_of_slot (slot_of c.put_all.new.self)).image in
    let same : slot_of c.put_all.new.self ≡ c.args.slot = c.put_all.ensures.same_slot ∙ c.in_ok-job.ensures.same.0 in
    let there : j ≡ i = ap (λ (o : OpenSlot). (outline_of_slot o).image) same in
    let ran = Ran_then c.in_ok-job.ensures.ran c.in_ok-put_all.ensures.ran in
    on_err_then
    ((h : Held) (ps : Packets) → IsJob b.image c.put_all.new.self h ps → SlotStops j (chained_trail c.args.expected.now j h (page_from ps)) b d)
    ((h : Held) → IsOpen a.image c.args.slot h → SlotStops i (receive_page_trail c.args.expected.now i h page) a d)
    c.seal_chained.result
    (λ stopped h opened.
    sealing_stops c.args.expected.now i j h page made a b d there (packets_make page c.told-page) ran (stopped h (packets_of page) (c.in_ok-put_all.ensures.put h (c.in_ok-job.ensures.begun h opened))))
    c.seal_chained.ensures.stopped

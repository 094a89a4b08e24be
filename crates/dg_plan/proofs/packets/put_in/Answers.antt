use Rattle.std.proofs.Common.{◌+◌, sym, ap, subst, ◌∙◌}
use Rattle.std.specs.FinSet as set
use Rattle.dg_bits.specs.Sets.{Numbers, least}
use Rattle.dg_nor.specs.Chip.{Touches}
use Rattle.dg_nor.proofs.ChipLemmas.{Touches_then}
use Rattle.dg_nor.proofs.DeviceLemmas.{OnErr_from, Ran_then, Halts_first, Halts_second}
use Rattle.dg_slot.specs.Layout.{page_sector}
use Rattle.dg_slot.specs.Jobs.{outline_of_slot, done_of_slot, sector_of, IsOpen, put_packet, ArePut}
use Rattle.dg_slot.specs.declared.states.OpenSlot.{OpenSlot}
use Rattle.dg_plan.specs.Packets.{erases}
use Rattle.dg_plan.proofs.packets.put_in.Goals as goal

pub returns-in_err-job-clause-stopped : goal.returns-in_err-job-clause-stopped
returns-in_err-job-clause-stopped g c = OnErr_from c.from_residual.result (record { done = 0; halts = Halts_first 1 c.in_err-job.ensures.stopped; leaves = tt })

pub put-requires-clause-missing : goal.put-requires-clause-missing
put-requires-clause-missing g c = ap (λ (s : Numbers). set.contains s c.args.packet) c.in_ok-job.ensures.same.1 ∙ c.requires.missing

pub returns-in_err-put-clause-same_reference : goal.returns-in_err-put-clause-same_reference
returns-in_err-put-clause-same_reference g c = c.put.ensures.same_reference ∙ c.job_of.ensures.same_reference

pub returns-in_err-put-clause-touches : goal.returns-in_err-put-clause-touches
returns-in_err-put-clause-touches g c =
    let mid = (g.N.Nor.device c.job_of.new.nor).image in
    let new = (g.N.Nor.device c.put.new.nor).image in
    let At : OpenSlot → Type 0 = λ o. Touches (page_sector (outline_of_slot o).image (done_of_slot o)) (page_sector (outline_of_slot o).image (done_of_slot o) + 1) mid new in
    Touches_then c.job_of.ensures.touches (subst At c.in_ok-job.ensures.same.0 c.put.ensures.touches)

pub returns-in_err-put-clause-kept : goal.returns-in_err-put-clause-kept
returns-in_err-put-clause-kept g c = λ h opened.
    let mid = (g.N.Nor.device c.job_of.new.nor).image in
    let new = (g.N.Nor.device c.put.new.nor).image in
    let same = c.in_ok-job.ensures.same.0 in
    subst (λ (o : OpenSlot). IsOpen new o h) same (c.put.ensures.kept h (subst (λ (o : OpenSlot). IsOpen mid o h) (sym same) (c.job_of.ensures.kept h opened)))

pub returns-in_err-put-clause-stopped : goal.returns-in_err-put-clause-stopped
returns-in_err-put-clause-stopped g c =
    OnErr_from c.from_residual-in_err-put.result (record { done = erases (least c.args.got) + 0; halts = Halts_second c.in_ok-job.ensures.ran c.in_err-put.ensures.stopped; leaves = tt })

pub returns-clause-put : goal.returns-clause-put
returns-clause-put g c = λ h ps opened had.
    let new = (g.N.Nor.device c.put.new.nor).image in
    let j = c.put.new.self in
    let q = c.args.packet in
    let next = put_packet ps q c.args.bytes.now in
    let filled = c.in_ok-put.ensures.put h ps (c.in_ok-job.ensures.job h ps opened had) in
    let slots = c.put.ensures.same_slot ∙ c.in_ok-job.ensures.same.0 in
    let gots = c.in_ok-put.ensures.got ∙ ap (λ (s : Numbers). set.insert s q) c.in_ok-job.ensures.same.1 in
    subst (λ (o : OpenSlot). ArePut new (page_sector (outline_of_slot o).image (done_of_slot o)) (set.insert c.args.got q) next) slots
    (subst (λ (s : Numbers). ArePut new (sector_of j) s next) gots (c.packets_stand_in_their_sector.ensures.job new j h next filled))

pub returns-clause-ran : goal.returns-clause-ran
returns-clause-ran g c = Ran_then c.in_ok-job.ensures.ran c.in_ok-put.ensures.ran

pub returns-clause-same_reference : goal.returns-clause-same_reference
returns-clause-same_reference g c = c.put.ensures.same_reference ∙ c.job_of.ensures.same_reference

pub returns-clause-touches : goal.returns-clause-touches
returns-clause-touches g c =
    let mid = (g.N.Nor.device c.job_of.new.nor).image in
    let new = (g.N.Nor.device c.put.new.nor).image in
    let At : OpenSlot → Type 0 = λ o. Touches (page_sector (outline_of_slot o).image (done_of_slot o)) (page_sector (outline_of_slot o).image (done_of_slot o) + 1) mid new in
    Touches_then c.job_of.ensures.touches (subst At c.in_ok-job.ensures.same.0 c.put.ensures.touches)

pub returns-clause-kept : goal.returns-clause-kept
returns-clause-kept g c = λ h opened.
    let mid = (g.N.Nor.device c.job_of.new.nor).image in
    let new = (g.N.Nor.device c.put.new.nor).image in
    let same = c.in_ok-job.ensures.same.0 in
    subst (λ (o : OpenSlot). IsOpen new o h) same (c.put.ensures.kept h (subst (λ (o : OpenSlot). IsOpen mid o h) (sym same) (c.job_of.ensures.kept h opened)))

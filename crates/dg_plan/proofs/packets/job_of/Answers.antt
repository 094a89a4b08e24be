use Rattle.std.proofs.Common.{◌≡◌, ℕ, true, Option, refl, sym, ap, subst, ◌∙◌}
use Rattle.std.proofs.lemmas.Bool.{both_ways}
use Rattle.std.specs.FinSet as set
use Rattle.dg_bits.specs.Sets.{Numbers}
use Rattle.dg_bits.proofs.SetLaws.{contains-none}
use Rattle.dg_nor.specs.Device.{Ran, Halts}
use Rattle.dg_nor.proofs.ChipLemmas.{Touches-same}
use Rattle.dg_nor.proofs.DeviceLemmas.{OnErr_from, Ran-none}
use Rattle.dg_slot.specs.Layout.{page_sector}
use Rattle.dg_slot.specs.Jobs.{outline_of_slot, done_of_slot, IsJob, Packets, ArePut}
use Rattle.dg_slot.specs.declared.states.OpenSlot.{OpenSlot}
use Rattle.dg_plan.specs.Packets.{erases}
use Rattle.dg_plan.proofs.packets.job_of.Goals as goal

not_empty : (got : Numbers) (n : ℕ) → set.contains got n ≡ true → got ≡ set.empty → ⊥
not_empty got n member none = both_ways (set.contains got n) (ap (λ (s : Numbers). set.contains s n) none ∙ contains-none n) member

pub returns-in_err-begin_page-in-None-clause-stopped : goal.returns-in_err-begin_page-in-None-clause-stopped
returns-in_err-begin_page-in-None-clause-stopped g c =
    OnErr_from c.from_residual.result (subst (λ (o : Option ℕ). Halts (erases o) 0 (g.N.Nor.device c.args.nor.now) (g.N.Nor.device c.begin_page.new.nor)) c.in-None.ensures.value c.in_err-begin_page-in-None.ensures.stopped)

pub returns-in_ok-begin_page-in-None-clause-job : goal.returns-in_ok-begin_page-in-None-clause-job
returns-in_ok-begin_page-in-None-clause-job g c = λ h ps opened had.
    subst (λ (x : Packets). IsJob (g.N.Nor.device c.begin_page.new.nor).image c.in_ok-begin_page-in-None.field-0 h x) (sym (had.none c.in-None.ensures.cases)) (c.in_ok-begin_page-in-None.ensures.begun h opened)

pub returns-in_ok-begin_page-in-None-clause-same : goal.returns-in_ok-begin_page-in-None-clause-same
returns-in_ok-begin_page-in-None-clause-same g c = (c.in_ok-begin_page-in-None.ensures.same.0, c.in_ok-begin_page-in-None.ensures.same.1 ∙ sym c.in-None.ensures.cases)

pub returns-in_ok-begin_page-in-None-clause-ran : goal.returns-in_ok-begin_page-in-None-clause-ran
returns-in_ok-begin_page-in-None-clause-ran g c =
    subst (λ (o : Option ℕ). Ran (erases o) (g.N.Nor.device c.args.nor.now) (g.N.Nor.device c.begin_page.new.nor)) c.in-None.ensures.value c.in_ok-begin_page-in-None.ensures.ran

pub returns-in-Some-clause-job : goal.returns-in-Some-clause-job
returns-in-Some-clause-job g c = λ h ps opened had.
    let image = (g.N.Nor.device c.args.nor.now).image in
    let put = had.some (not_empty c.args.got c.in-Some.field-0 c.in-Some.ensures.cases.member) in
    c.resume_page.ensures.resumed image h ps opened
    (subst (λ (o : OpenSlot). ArePut image (page_sector (outline_of_slot o).image (done_of_slot o)) c.args.got ps) (sym c.resume_page.ensures.same) put)

pub returns-in-Some-clause-ran : goal.returns-in-Some-clause-ran
returns-in-Some-clause-ran g c =
    let d = g.N.Nor.device c.args.nor.now in
    subst (λ (o : Option ℕ). Ran (erases o) d d) c.in-Some.ensures.value (Ran-none d)

pub returns-in-Some-clause-touches : goal.returns-in-Some-clause-touches
returns-in-Some-clause-touches g c = Touches-same _ _ _ _ refl

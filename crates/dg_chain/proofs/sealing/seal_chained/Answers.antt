use Rattle.std.proofs.Common.{◌≡◌, ℕ, Ok, ◌∙◌, sym, ap, subst, arith}
use Rattle.sha2.specs.Sha256.{sha256}
use Rattle.dg_nor.proofs.DeviceLemmas.{OnErr_from}
use Rattle.dg_slot.specs.Layout.{page_sector}
use Rattle.dg_slot.specs.Pages.{page_in}
use Rattle.dg_slot.specs.Jobs.{IsOpen, page_from, slot_of, outline_of_slot, Seals, sector_of}
use Rattle.dg_slot.specs.declared.states.OpenSlot.{OpenSlot}
use Rattle.dg_slot.specs.declared.states.Sealing.{Sealing}
use Rattle.dg_slot.proofs.HeaderLemmas.{other_bytes}
use Rattle.dg_slot.proofs.SlotLemmas.{open_same}
use Rattle.dg_slot.proofs.JobLemmas.{job_page}
use Rattle.dg_chain.specs.Checking.{is_same, field_of}
use Rattle.dg_chain.proofs.WalkLemmas.{same_true}
use Rattle.dg_chain.proofs.StepLemmas.{not_false}
use Rattle.dg_chain.proofs.SealLemmas.{chained_unread, chained_stops, job_same, chained_sealed, chained_bad}
use Rattle.dg_chain.proofs.sealing.seal_chained.Goals as goal

pub returns-in_err-read_page-clause-stopped : goal.returns-in_err-read_page-clause-stopped
returns-in_err-read_page-clause-stopped g c = OnErr_from c.from_residual.result (λ h ps job.
    chained_unread c.args.expected.now (outline_of_slot (slot_of c.args.job)).image h (page_from ps) (g.N.Nor.device c.args.nor.now) _ job.slot.keeps c.in_err-read_page.ensures.ends)

pub returns-then-ne-clause-sealed : goal.returns-then-ne-clause-sealed
returns-then-ne-clause-sealed g c h ps job =
    let j = c.args.job in
    let old = (g.N.Nor.device c.args.nor.now).image in
    let page = job_page old j h ps (g.met.N.Nor.is_chip c.args.nor.now).cells (omega arith) (omega arith) c.requires.all job in
    let place : page_sector c.image.result c.page.result ≡ sector_of j = ap (λ (i : ℕ). page_sector i c.page.result) c.image.ensures ∙ ap (λ (p : ℕ). page_sector (outline_of_slot (slot_of j)).image p) c.page.ensures in
    let found = c.digest-found.ensures ∙ ap sha256 (c.as_slice.ensures ∙ c.in_ok-read_page.ensures.bytes ∙ ap (page_in old) place ∙ sym page) in
    let looked = c.in_ok-read_page.ensures.ends in (
      found,
      (λ e. other_bytes c.digest-found.result c.args.expected.now e (sym c.if-ne.true ∙ c.ne.ensures)),
      subst (λ (o : OpenSlot). IsOpen (g.N.Nor.device c.read_page.new.nor).image o h) (sym c.drop_job-slot.ensures) (open_same old _ (slot_of j) h looked.same_image job.slot),
      looked,
    )

pub returns-in_err-slot-clause-stopped : goal.returns-in_err-slot-clause-stopped
returns-in_err-slot-clause-stopped g c = OnErr_from c.from_residual-in_err-slot.result (λ h ps job.
    let j = c.args.job in
    let old = (g.N.Nor.device c.args.nor.now).image in
    let mid = (g.N.Nor.device c.read_page.new.nor).image in
    let page = job_page old j h ps (g.met.N.Nor.is_chip c.args.nor.now).cells (omega arith) (omega arith) c.requires.all job in
    let place : page_sector c.image.result c.page.result ≡ sector_of j = ap (λ (i : ℕ). page_sector i c.page.result) c.image.ensures ∙ ap (λ (p : ℕ). page_sector (outline_of_slot (slot_of j)).image p) c.page.ensures in
    let found = c.digest-found.ensures ∙ ap sha256 (c.as_slice.ensures ∙ c.in_ok-read_page.ensures.bytes ∙ ap (page_in old) place ∙ sym page) in
    let same = same_true c.digest-found.result c.args.expected.now (not_false (is_same c.digest-found.result c.args.expected.now) (sym c.ne.ensures ∙ c.if-ne.false)) in
    let looked = c.in_ok-read_page.ensures.ends in
    chained_stops c.args.expected.now (outline_of_slot (slot_of j)).image h (page_from ps) (g.N.Nor.device c.args.nor.now) (g.N.Nor.device c.read_page.new.nor) _ (sym found ∙ same) looked
    (c.in_err-slot.ensures.stopped h ps (job_same old mid j h ps looked.same_image job)))

pub unreachable-requires : goal.unreachable-requires
unreachable-requires g c =
    let none = c.in_ok-slot.ensures.unfit c.in-Unfit.slot (ap Ok c.in-Unfit.is) in
    omega (arith, none, c.requires.data_page)

pub returns-in-Sealed-clause-sealed : goal.returns-in-Sealed-clause-sealed
returns-in-Sealed-clause-sealed g c h ps job =
    let j = c.args.job in
    let old = (g.N.Nor.device c.args.nor.now).image in
    let mid = (g.N.Nor.device c.read_page.new.nor).image in
    let page = job_page old j h ps (g.met.N.Nor.is_chip c.args.nor.now).cells (omega arith) (omega arith) c.requires.all job in
    let place : page_sector c.image.result c.page.result ≡ sector_of j = ap (λ (i : ℕ). page_sector i c.page.result) c.image.ensures ∙ ap (λ (p : ℕ). page_sector (outline_of_slot (slot_of j)).image p) c.page.ensures in
    let read = c.in_ok-read_page.ensures.bytes ∙ ap (page_in old) place ∙ sym page in
    let found = c.digest-found.ensures ∙ ap sha256 (c.as_slice.ensures ∙ read) in
    let same = same_true c.digest-found.result c.args.expected.now (not_false (is_same c.digest-found.result c.args.expected.now) (sym c.ne.ensures ∙ c.if-ne.false)) in
    let looked = c.in_ok-read_page.ensures.ends in
    let seals = c.in_ok-slot.ensures.sealed h ps (job_same old mid j h ps looked.same_image job) in
    let here = subst (λ (s : Sealing). Seals (outline_of_slot (slot_of j)).image h (page_from ps) (g.N.Nor.device c.read_page.new.nor) (g.N.Nor.device c.seal.new.nor) s) c.in-Sealed.is seals in
    chained_sealed c.args.expected.now (outline_of_slot (slot_of j)).image h (page_from ps) c.field_of-next.result c.in-Sealed.slot (g.N.Nor.device c.args.nor.now) (g.N.Nor.device c.read_page.new.nor) (g.N.Nor.device c.seal.new.nor)
    (sym found ∙ same) (c.field_of-next.ensures ∙ ap field_of read) looked here

pub returns-in-Bad-clause-sealed : goal.returns-in-Bad-clause-sealed
returns-in-Bad-clause-sealed g c h ps job =
    let j = c.args.job in
    let old = (g.N.Nor.device c.args.nor.now).image in
    let mid = (g.N.Nor.device c.read_page.new.nor).image in
    let page = job_page old j h ps (g.met.N.Nor.is_chip c.args.nor.now).cells (omega arith) (omega arith) c.requires.all job in
    let place : page_sector c.image.result c.page.result ≡ sector_of j = ap (λ (i : ℕ). page_sector i c.page.result) c.image.ensures ∙ ap (λ (p : ℕ). page_sector (outline_of_slot (slot_of j)).image p) c.page.ensures in
    let found = c.digest-found.ensures ∙ ap sha256 (c.as_slice.ensures ∙ c.in_ok-read_page.ensures.bytes ∙ ap (page_in old) place ∙ sym page) in
    let same = same_true c.digest-found.result c.args.expected.now (not_false (is_same c.digest-found.result c.args.expected.now) (sym c.ne.ensures ∙ c.if-ne.false)) in
    let looked = c.in_ok-read_page.ensures.ends in
    let seals = c.in_ok-slot.ensures.sealed h ps (job_same old mid j h ps looked.same_image job) in
    let here = subst (λ (s : Sealing). Seals (outline_of_slot (slot_of j)).image h (page_from ps) (g.N.Nor.device c.read_page.new.nor) (g.N.Nor.device c.seal.new.nor) s) c.in-Bad.is seals in
    chained_bad c.args.expected.now (outline_of_slot (slot_of j)).image h (page_from ps) c.in-Bad.kept c.in-Bad.found c.in-Bad.slot (g.N.Nor.device c.args.nor.now) (g.N.Nor.device c.read_page.new.nor) (g.N.Nor.device c.seal.new.nor)
    (sym found ∙ same) looked here

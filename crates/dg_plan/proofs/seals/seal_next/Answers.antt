-- The slot is lent, and its next page is sealed as it is there.
use Rattle.std.proofs.Common.{◌≡◌, ℕ, ◌+◌, ◌<◌, List, refl, sym, ap, subst, ◌∙◌, true, false, arith}
use Rattle.dg_nor.specs.Chip.{Touches}
use Rattle.dg_nor.specs.Device.{Ran}
use Rattle.dg_nor.proofs.ReadLemmas.{Looked-none}
use Rattle.dg_object.specs.Object.{Outline}
use Rattle.dg_slot.specs.Layout.{most_pages, header_sector}
use Rattle.dg_slot.specs.Fits.{may_seal}
use Rattle.dg_slot.specs.Jobs.{outline_of_slot, done_of_slot, slot_of, SlotStops, seal_trail}
use Rattle.dg_volume.specs.Stands.{Stands}
use Rattle.dg_plan.specs.Packets.{its_page}
use Rattle.dg_plan.proofs.PacketLemmas.{is_next, is_elsewhere}
use Rattle.dg_plan.proofs.SealLemmas.{held_told, not_told, not_golden, sealing_operations, sealing_last, keeps_more, ready}
use Rattle.dg_plan.proofs.seals.seal_next.Goals as goal

pub returns-in-None-clause-not_kept : goal.returns-in-None-clause-not_kept
returns-in-None-clause-not_kept g c = λ r s h m here.
    let i = c.args.name.image in
    absurd (not_told (g.N.Nor.device c.args.nor.now).image c.args.volume s i h c.requires.known_image m here (c.in-None.ensures.none.0 refl) (c.requires.free i))

pub returns-in-None-clause-looked : goal.returns-in-None-clause-looked
returns-in-None-clause-looked g c = λ e r ne. Looked-none _

pub returns-then-profile-name-clause-not_kept : goal.returns-then-profile-name-clause-not_kept
returns-then-profile-name-clause-not_kept g c = λ r s h m here same.
    let opened = c.in-Some.ensures.lends.1 (g.N.Nor.device c.args.nor.now).image s h m here in
    let version = ap (λ (p : Outline). p.version) c.profile.ensures in
    c.if-profile-name.true (version ∙ opened.opens.version ∙ same)

pub returns-then-profile-name-clause-looked : goal.returns-then-profile-name-clause-looked
returns-then-profile-name-clause-looked g c = λ e r ne. Looked-none _

pub returns-then-next-name-clause-not_next : goal.returns-then-next-name-clause-not_next
returns-then-next-name-clause-not_next g c = λ next r s h m here.
    let old = (g.N.Nor.device c.args.nor.now).image in
    let o = c.in-Some.slot in
    let opened = c.in-Some.ensures.lends.1 old s h m here in
    let version = ap (λ (p : Outline). p.version) c.profile.ensures in
    let n : c.done-next.result ≡ next = cc in
    is_elsewhere old o h c.args.name next (sym opened.opens.version ∙ sym version ∙ c.if-profile-name.false) opened (sym c.done-next.ensures ∙ n) (λ e. absurd (c.if-next-name.true (n ∙ e)))

pub returns-then-next-name-clause-looked : goal.returns-then-next-name-clause-looked
returns-then-next-name-clause-looked g c = λ e r ne. Looked-none _

pub returns-then-next-profile-clause-not_next : goal.returns-then-next-profile-clause-not_next
returns-then-next-profile-clause-not_next g c = λ next r s h m here.
    let old = (g.N.Nor.device c.args.nor.now).image in
    let o = c.in-Some.slot in
    let opened = c.in-Some.ensures.lends.1 old s h m here in
    let version = ap (λ (p : Outline). p.version) c.profile.ensures in
    let pages = ap (λ (p : Outline). p.pages) c.profile-2.ensures in
    let n : c.done-next.result ≡ next = cc in
    is_elsewhere old o h c.args.name next (sym opened.opens.version ∙ sym version ∙ c.if-profile-name.false) opened (sym c.done-next.ensures ∙ n) (λ e. sym n ∙ c.if-next-profile.true ∙ pages)

pub returns-then-next-profile-clause-looked : goal.returns-then-next-profile-clause-looked
returns-then-next-profile-clause-looked g c = λ e r ne. Looked-none _

pub resume_page-job-requires : goal.resume_page-job-requires
resume_page-job-requires g c =
    let pages = ap (λ (p : Outline). p.pages) c.profile-2.ensures in
    omega (arith, pages, c.done-next.ensures, c.if-next-profile.false, c.in-Some.slot.within)

pub seal-requires : goal.seal-requires
seal-requires g c = Rattle.dg_plan.proofs.SealLemmas.all_in _ (c.resume_page-job.ensures.got ∙ c.all.ensures)

pub returns-in-Ok-Sealed-clause-sealed : goal.returns-in-Ok-Sealed-clause-sealed
returns-in-Ok-Sealed-clause-sealed g c = λ s m.
    let old = (g.N.Nor.device c.args.nor.now).image in
    let new = (g.N.Nor.device c.seal.new.nor).image in
    let name = c.args.name in
    let i = name.image in
    let v = c.args.volume in
    let o = c.in-Some.slot in
    let j = c.resume_page-job.result in
    let pages = ap (λ (p : Outline). p.pages) c.profile-2.ensures in
    let version = ap (λ (p : Outline). p.version) c.profile.ensures in
    let page = sym c.done-next.ensures ∙ c.if-next-name.false in
    let more : done_of_slot o < (outline_of_slot o).pages = omega (arith, pages, c.done-next.ensures, c.if-next-profile.false, o.within) in
    let few : name.page < most_pages = omega (arith, more, page, o.profile.few_pages) in
    let p = its_page old name in
    let x = held_told old v s i _ c.requires.known_image m c.in-Some.ensures.told in
    let h = x.kept in
    let here = x.here in
    let opened = c.in-Some.ensures.lends.1 old s h m here in
    let next = is_next old o h name (sym opened.opens.version ∙ sym version ∙ c.if-profile-name.false) opened page more in
    let low = not_golden old s i h m.stands here next.more in
    let ready = ready c.packets_stand_in_their_sector.ensures.all c.packets_stand_in_their_sector.ensures.page old o j c.all.result name h (g.met.N.Nor.is_chip c.args.nor.now).cells c.requires.known_image few c.resume_page-job.ensures.same c.all.ensures c.resume_page-job.ensures.resumed c.in-Some.ensures.lends.0 page opened in
    let answer = rw c.in-Ok-Sealed.field-0-is at (c.in-Ok-Sealed.ensures.sealed h ready.packets_there ready.is_job) in
    let fits : may_seal i h p ≡ true = subst (λ (n : ℕ). may_seal n h p ≡ true) ready.image (subst (λ (q : List ℕ). may_seal (outline_of_slot (slot_of j)).image h q ≡ true) ready.page answer.0) in
    let touches = c.a_slot_holds_its_sectors.ensures.header old new i (subst (λ (n : ℕ). Touches (header_sector n) (header_sector n + 1) old new) ready.image c.seal.ensures.touches) in
    let but = c.a_lent_slot_is_filled.ensures.lent old v s i m in
    let same = rw c.in-Ok-Sealed.field-0-is at c.in-Ok-Sealed.ensures.same in
    let keeps = keeps_more new _ i h _ p (ap (λ (q : Outline). q.image) same ∙ ready.image) ready.page answer.1 in
    let end = c.a_lent_slot_is_filled.ensures.sealed old new v s i h p low c.requires.known_image here touches keeps but in (
      h,
      record { here = here; next = next; fits = fits },
      subst (λ (n : ℕ). Ran n (g.N.Nor.device c.args.nor.now) (g.N.Nor.device c.seal.new.nor)) (sym (sealing_operations s i h p fits)) answer.2,
      subst (Stands new) (sym (sealing_last s i h p fits)) end.stands,
    )

pub returns-in-Ok-Bad-clause-bad : goal.returns-in-Ok-Bad-clause-bad
returns-in-Ok-Bad-clause-bad g c = λ kept found r s h m here.
    let old = (g.N.Nor.device c.args.nor.now).image in
    let new = (g.N.Nor.device c.seal.new.nor).image in
    let name = c.args.name in
    let i = name.image in
    let v = c.args.volume in
    let o = c.in-Some.slot in
    let j = c.resume_page-job.result in
    let pages = ap (λ (p : Outline). p.pages) c.profile-2.ensures in
    let version = ap (λ (p : Outline). p.version) c.profile.ensures in
    let page = sym c.done-next.ensures ∙ c.if-next-name.false in
    let more : done_of_slot o < (outline_of_slot o).pages = omega (arith, pages, c.done-next.ensures, c.if-next-profile.false, o.within) in
    let few : name.page < most_pages = omega (arith, more, page, o.profile.few_pages) in
    let p = its_page old name in
    let opened = c.in-Some.ensures.lends.1 old s h m here in
    let next = is_next old o h name (sym opened.opens.version ∙ sym version ∙ c.if-profile-name.false) opened page more in
    let low = not_golden old s i h m.stands here next.more in
    let ready = ready c.packets_stand_in_their_sector.ensures.all c.packets_stand_in_their_sector.ensures.page old o j c.all.result name h (g.met.N.Nor.is_chip c.args.nor.now).cells c.requires.known_image few c.resume_page-job.ensures.same c.all.ensures c.resume_page-job.ensures.resumed c.in-Some.ensures.lends.0 page opened in
    let answer = rw c.in-Ok-Bad.field-0-is at (c.in-Ok-Bad.ensures.sealed h ready.packets_there ready.is_job) in
    let k : c.in-Ok-Bad.kept ≡ kept = cc in
    let f : c.in-Ok-Bad.found ≡ found = cc in
    (sym k ∙ answer.0, sym f ∙ answer.1 ∙ ap Rattle.dg_base.specs.Crc.crc_of ready.page, λ same. answer.2 (f ∙ same ∙ sym k))

pub returns-in-Ok-Unfit-clause-unfit : goal.returns-in-Ok-Unfit-clause-unfit
returns-in-Ok-Unfit-clause-unfit g c = λ r s h m here.
    let old = (g.N.Nor.device c.args.nor.now).image in
    let new = (g.N.Nor.device c.seal.new.nor).image in
    let name = c.args.name in
    let i = name.image in
    let v = c.args.volume in
    let o = c.in-Some.slot in
    let j = c.resume_page-job.result in
    let pages = ap (λ (p : Outline). p.pages) c.profile-2.ensures in
    let version = ap (λ (p : Outline). p.version) c.profile.ensures in
    let page = sym c.done-next.ensures ∙ c.if-next-name.false in
    let more : done_of_slot o < (outline_of_slot o).pages = omega (arith, pages, c.done-next.ensures, c.if-next-profile.false, o.within) in
    let few : name.page < most_pages = omega (arith, more, page, o.profile.few_pages) in
    let p = its_page old name in
    let opened = c.in-Some.ensures.lends.1 old s h m here in
    let next = is_next old o h name (sym opened.opens.version ∙ sym version ∙ c.if-profile-name.false) opened page more in
    let low = not_golden old s i h m.stands here next.more in
    let ready = ready c.packets_stand_in_their_sector.ensures.all c.packets_stand_in_their_sector.ensures.page old o j c.all.result name h (g.met.N.Nor.is_chip c.args.nor.now).cells c.requires.known_image few c.resume_page-job.ensures.same c.all.ensures c.resume_page-job.ensures.resumed c.in-Some.ensures.lends.0 page opened in
    let answer = rw c.in-Ok-Unfit.field-0-is at (c.in-Ok-Unfit.ensures.sealed h ready.packets_there ready.is_job) in
    let fits = subst (λ (n : ℕ). may_seal n h p ≡ false) ready.image (subst (λ (q : List ℕ). may_seal (outline_of_slot (slot_of j)).image h q ≡ false) ready.page answer.1) in
    let none = c.in-Ok-Unfit.ensures.unfit _ (ap Rattle.std.specs.Prelude.Ok c.in-Ok-Unfit.field-0-is) in
    (sym page ∙ ap done_of_slot (sym c.resume_page-job.ensures.same) ∙ none, fits)

pub returns-in-Err-clause-stopped : goal.returns-in-Err-clause-stopped
returns-in-Err-clause-stopped g c = λ r s h m here.
    let old = (g.N.Nor.device c.args.nor.now).image in
    let new = (g.N.Nor.device c.seal.new.nor).image in
    let name = c.args.name in
    let i = name.image in
    let v = c.args.volume in
    let o = c.in-Some.slot in
    let j = c.resume_page-job.result in
    let pages = ap (λ (p : Outline). p.pages) c.profile-2.ensures in
    let version = ap (λ (p : Outline). p.version) c.profile.ensures in
    let page = sym c.done-next.ensures ∙ c.if-next-name.false in
    let more : done_of_slot o < (outline_of_slot o).pages = omega (arith, pages, c.done-next.ensures, c.if-next-profile.false, o.within) in
    let few : name.page < most_pages = omega (arith, more, page, o.profile.few_pages) in
    let p = its_page old name in
    let opened = c.in-Some.ensures.lends.1 old s h m here in
    let next = is_next old o h name (sym opened.opens.version ∙ sym version ∙ c.if-profile-name.false) opened page more in
    let low = not_golden old s i h m.stands here next.more in
    let ready = ready c.packets_stand_in_their_sector.ensures.all c.packets_stand_in_their_sector.ensures.page old o j c.all.result name h (g.met.N.Nor.is_chip c.args.nor.now).cells c.requires.known_image few c.resume_page-job.ensures.same c.all.ensures c.resume_page-job.ensures.resumed c.in-Some.ensures.lends.0 page opened in
    let touches = c.a_slot_holds_its_sectors.ensures.header old new i (subst (λ (n : ℕ). Touches (header_sector n) (header_sector n + 1) old new) ready.image c.seal.ensures.touches) in
    let but = c.a_lent_slot_is_filled.ensures.lent old v s i m in
    let stops = c.in-Err.ensures.stopped h ready.packets_there ready.is_job in
    let at : SlotStops i (seal_trail i h p) (g.N.Nor.device c.args.nor.now) (g.N.Nor.device c.seal.new.nor) =
    subst (λ (n : ℕ). SlotStops n (seal_trail n h p) (g.N.Nor.device c.args.nor.now) (g.N.Nor.device c.seal.new.nor)) ready.image
    (subst (λ (q : List ℕ). SlotStops (outline_of_slot (slot_of j)).image (seal_trail (outline_of_slot (slot_of j)).image h q) (g.N.Nor.device c.args.nor.now) (g.N.Nor.device c.seal.new.nor)) ready.page stops) in
    c.a_lent_slot_is_filled.ensures.seal_stopped (g.N.Nor.device c.args.nor.now) (g.N.Nor.device c.seal.new.nor) v s i h p low c.requires.known_image here touches but at

pub returns-in-Err-clause-looked : goal.returns-in-Err-clause-looked
returns-in-Err-clause-looked g c = λ e r ne. absurd (ne cc)

pub returns-in-Ok-Bad-clause-looked : goal.returns-in-Ok-Bad-clause-looked
returns-in-Ok-Bad-clause-looked g c = λ e r ne.
    let s = c.requires.mounted.0 in
    let m = c.requires.mounted.1 in
    let old = (g.N.Nor.device c.args.nor.now).image in
    let new = (g.N.Nor.device c.seal.new.nor).image in
    let name = c.args.name in
    let i = name.image in
    let v = c.args.volume in
    let o = c.in-Some.slot in
    let j = c.resume_page-job.result in
    let pages = ap (λ (p : Outline). p.pages) c.profile-2.ensures in
    let version = ap (λ (p : Outline). p.version) c.profile.ensures in
    let page = sym c.done-next.ensures ∙ c.if-next-name.false in
    let more : done_of_slot o < (outline_of_slot o).pages = omega (arith, pages, c.done-next.ensures, c.if-next-profile.false, o.within) in
    let few : name.page < most_pages = omega (arith, more, page, o.profile.few_pages) in
    let p = its_page old name in
    let x = held_told old v s i _ c.requires.known_image m c.in-Some.ensures.told in
    let h = x.kept in
    let here = x.here in
    let opened = c.in-Some.ensures.lends.1 old s h m here in
    let next = is_next old o h name (sym opened.opens.version ∙ sym version ∙ c.if-profile-name.false) opened page more in
    let low = not_golden old s i h m.stands here next.more in
    let ready = ready c.packets_stand_in_their_sector.ensures.all c.packets_stand_in_their_sector.ensures.page old o j c.all.result name h (g.met.N.Nor.is_chip c.args.nor.now).cells c.requires.known_image few c.resume_page-job.ensures.same c.all.ensures c.resume_page-job.ensures.resumed c.in-Some.ensures.lends.0 page opened in
    let answer = rw c.in-Ok-Bad.field-0-is at (c.in-Ok-Bad.ensures.sealed h ready.packets_there ready.is_job) in
    answer.4

pub returns-in-Ok-Unfit-clause-looked : goal.returns-in-Ok-Unfit-clause-looked
returns-in-Ok-Unfit-clause-looked g c = λ e r ne.
    let s = c.requires.mounted.0 in
    let m = c.requires.mounted.1 in
    let old = (g.N.Nor.device c.args.nor.now).image in
    let new = (g.N.Nor.device c.seal.new.nor).image in
    let name = c.args.name in
    let i = name.image in
    let v = c.args.volume in
    let o = c.in-Some.slot in
    let j = c.resume_page-job.result in
    let pages = ap (λ (p : Outline). p.pages) c.profile-2.ensures in
    let version = ap (λ (p : Outline). p.version) c.profile.ensures in
    let page = sym c.done-next.ensures ∙ c.if-next-name.false in
    let more : done_of_slot o < (outline_of_slot o).pages = omega (arith, pages, c.done-next.ensures, c.if-next-profile.false, o.within) in
    let few : name.page < most_pages = omega (arith, more, page, o.profile.few_pages) in
    let p = its_page old name in
    let x = held_told old v s i _ c.requires.known_image m c.in-Some.ensures.told in
    let h = x.kept in
    let here = x.here in
    let opened = c.in-Some.ensures.lends.1 old s h m here in
    let next = is_next old o h name (sym opened.opens.version ∙ sym version ∙ c.if-profile-name.false) opened page more in
    let low = not_golden old s i h m.stands here next.more in
    let ready = ready c.packets_stand_in_their_sector.ensures.all c.packets_stand_in_their_sector.ensures.page old o j c.all.result name h (g.met.N.Nor.is_chip c.args.nor.now).cells c.requires.known_image few c.resume_page-job.ensures.same c.all.ensures c.resume_page-job.ensures.resumed c.in-Some.ensures.lends.0 page opened in
    let answer = rw c.in-Ok-Unfit.field-0-is at (c.in-Ok-Unfit.ensures.sealed h ready.packets_there ready.is_job) in
    answer.3

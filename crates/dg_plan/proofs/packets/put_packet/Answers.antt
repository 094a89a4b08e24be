-- The header is read, and then the slot is written.
use Rattle.std.proofs.Common.{◌≡◌, ℕ, ◌+◌, ◌<◌, List, is_some, sym, ap, subst, ◌∙◌, arith}
use Rattle.std.specs.FinSet as set
use Rattle.dg_bits.specs.Sets.{least}
use Rattle.dg_nor.specs.Chip.{Touches}
use Rattle.dg_object.specs.Object.{Outline}
use Rattle.dg_slot.specs.Layout.{most_pages, header_sector, slot_end}
use Rattle.dg_slot.specs.Jobs.{outline_of_slot, done_of_slot, IsOpen, put_packet, ArePut}
use Rattle.dg_volume.specs.Stands.{Stands}
use Rattle.dg_plan.specs.Packets.{erases, sector_named}
use Rattle.dg_plan.proofs.PlanLemmas.{looked_ran, looked_halted, read_halted}
use Rattle.dg_plan.proofs.PacketLemmas.{kept_found, none_kept, is_next, is_elsewhere, stands_written, same_sector, had_put}
use Rattle.dg_plan.proofs.packets.put_packet.Goals as goal

pub returns-in-Ok-None-clause-stands : goal.returns-in-Ok-None-clause-stands
returns-in-Ok-None-clause-stands g c = λ s st.
    let looked = c.in-Ok-None.ensures.ends in
    subst (λ (x : List ℕ). Stands x s) (sym looked.same_image) st

pub returns-in-Ok-None-clause-same_reference : goal.returns-in-Ok-None-clause-same_reference
returns-in-Ok-None-clause-same_reference g c = let looked = c.in-Ok-None.ensures.ends in looked.ran.references

pub returns-in-Ok-None-clause-only : goal.returns-in-Ok-None-clause-only
returns-in-Ok-None-clause-only g c = λ e r. ((λ w. cc), (λ w. cc))

pub returns-in-Ok-None-clause-not_kept : goal.returns-in-Ok-None-clause-not_kept
returns-in-Ok-None-clause-not_kept g c = λ r s h st here.
    let name = c.args.name in
    none_kept (g.N.Nor.device c.args.nor.now).image s name.image name.version h c.requires.known_image (c.in-Ok-None.ensures.none (ap is_some c.in-Ok-None.field-0-is)) st here

pub returns-in-Ok-None-clause-looked : goal.returns-in-Ok-None-clause-looked
returns-in-Ok-None-clause-looked g c = λ e r ne. c.in-Ok-None.ensures.ends

pub returns-in-Err-clause-stands : goal.returns-in-Err-clause-stands
returns-in-Err-clause-stands g c = λ s st.
    let looked = c.in-Err.ensures.ends in
    subst (λ (x : List ℕ). Stands x s) (sym looked.same_image) st

pub returns-in-Err-clause-same_reference : goal.returns-in-Err-clause-same_reference
returns-in-Err-clause-same_reference g c = let looked = c.in-Err.ensures.ends in looked.halts.references

pub returns-in-Err-clause-only : goal.returns-in-Err-clause-only
returns-in-Err-clause-only g c = λ e r. ((λ w. cc), (λ w. cc))

pub returns-in-Err-clause-looked : goal.returns-in-Err-clause-looked
returns-in-Err-clause-looked g c = λ e r ne. absurd (ne cc)

pub returns-in-Err-clause-stopped : goal.returns-in-Err-clause-stopped
returns-in-Err-clause-stopped g c = λ r. read_halted (erases (least c.args.got) + 1) c.in-Err.ensures.ends

pub returns-then-next-name-clause-stands : goal.returns-then-next-name-clause-stands
returns-then-next-name-clause-stands g c = λ s st.
    let looked = c.in-Ok-Some.ensures.ends in
    subst (λ (x : List ℕ). Stands x s) (sym looked.same_image) st

pub returns-then-next-name-clause-same_reference : goal.returns-then-next-name-clause-same_reference
returns-then-next-name-clause-same_reference g c = let looked = c.in-Ok-Some.ensures.ends in looked.ran.references

pub returns-then-next-name-clause-only : goal.returns-then-next-name-clause-only
returns-then-next-name-clause-only g c = λ e r. ((λ w. cc), (λ w. cc))

pub returns-then-next-name-clause-not_next : goal.returns-then-next-name-clause-not_next
returns-then-next-name-clause-not_next g c = λ next r s h st here.
    let old = (g.N.Nor.device c.args.nor.now).image in
    let name = c.args.name in
    let o = c.in-Ok-Some.slot in
    let found = rw c.in-Ok-Some.field-0-is at c.in-Ok-Some.ensures.open in
    let k = kept_found c.a_slot_is_written_alone.ensures.version old s name.image name.version o h c.requires.known_image found st here in
    let n : c.done-next.result ≡ next = cc in
    is_elsewhere old o h name next k.0 k.1 (sym c.done-next.ensures ∙ n) (λ e. absurd (c.if-next-name.true (n ∙ e)))

pub returns-then-next-name-clause-looked : goal.returns-then-next-name-clause-looked
returns-then-next-name-clause-looked g c = λ e r ne. c.in-Ok-Some.ensures.ends

pub returns-then-next-profile-clause-stands : goal.returns-then-next-profile-clause-stands
returns-then-next-profile-clause-stands g c = λ s st.
    let looked = c.in-Ok-Some.ensures.ends in
    subst (λ (x : List ℕ). Stands x s) (sym looked.same_image) st

pub returns-then-next-profile-clause-same_reference : goal.returns-then-next-profile-clause-same_reference
returns-then-next-profile-clause-same_reference g c = let looked = c.in-Ok-Some.ensures.ends in looked.ran.references

pub returns-then-next-profile-clause-only : goal.returns-then-next-profile-clause-only
returns-then-next-profile-clause-only g c = λ e r. ((λ w. cc), (λ w. cc))

pub returns-then-next-profile-clause-not_next : goal.returns-then-next-profile-clause-not_next
returns-then-next-profile-clause-not_next g c = λ next r s h st here.
    let old = (g.N.Nor.device c.args.nor.now).image in
    let name = c.args.name in
    let o = c.in-Ok-Some.slot in
    let found = rw c.in-Ok-Some.field-0-is at c.in-Ok-Some.ensures.open in
    let k = kept_found c.a_slot_is_written_alone.ensures.version old s name.image name.version o h c.requires.known_image found st here in
    let n : c.done-next.result ≡ next = cc in
    let pages = ap (λ (p : Outline). p.pages) c.profile.ensures in
    is_elsewhere old o h name next k.0 k.1 (sym c.done-next.ensures ∙ n) (λ e. sym n ∙ c.if-next-profile.true ∙ pages)

pub returns-then-next-profile-clause-looked : goal.returns-then-next-profile-clause-looked
returns-then-next-profile-clause-looked g c = λ e r ne. c.in-Ok-Some.ensures.ends

pub put_in-requires-clause-more : goal.put_in-requires-clause-more
put_in-requires-clause-more g c =
    let pages = ap (λ (p : Outline). p.pages) c.profile.ensures in
    omega (arith, pages, c.done-next.ensures, c.if-next-profile.false, c.in-Ok-Some.slot.within)

pub returns-in-Ok-clause-ran : goal.returns-in-Ok-clause-ran
returns-in-Ok-clause-ran g c = looked_ran c.in-Ok-Some.ensures.ends c.in-Ok.ensures.ran

pub returns-in-Ok-clause-put : goal.returns-in-Ok-clause-put
returns-in-Ok-clause-put g c = λ s h ps st here had.
    let old = (g.N.Nor.device c.args.nor.now).image in
    let name = c.args.name in
    let o = c.in-Ok-Some.slot in
    let found = rw c.in-Ok-Some.field-0-is at c.in-Ok-Some.ensures.open in
    let k = kept_found c.a_slot_is_written_alone.ensures.version old s name.image name.version o h c.requires.known_image found st here in
    let mid = (g.N.Nor.device c.find.new.nor).image in
    let new = (g.N.Nor.device c.put_in.new.nor).image in
    let looked = c.in-Ok-Some.ensures.ends in
    let told = rw c.in-Ok-Some.field-0-is at c.in-Ok-Some.ensures.told in
    let sector = same_sector o name told.0 (sym c.done-next.ensures ∙ c.if-next-name.false) in
    let put = c.in-Ok.ensures.put h ps (subst (λ (x : List ℕ). IsOpen x o h) (sym looked.same_image) k.1) (had_put old mid _ (sector_named name) c.args.got ps looked.same_image sector had) in
    subst (λ (n : ℕ). ArePut new n (set.insert c.args.got c.args.packet) (put_packet ps c.args.packet c.args.bytes.now)) sector put

pub returns-in-Ok-clause-next : goal.returns-in-Ok-clause-next
returns-in-Ok-clause-next g c = λ s h st here.
    let old = (g.N.Nor.device c.args.nor.now).image in
    let name = c.args.name in
    let o = c.in-Ok-Some.slot in
    let found = rw c.in-Ok-Some.field-0-is at c.in-Ok-Some.ensures.open in
    let k = kept_found c.a_slot_is_written_alone.ensures.version old s name.image name.version o h c.requires.known_image found st here in
    let pages = ap (λ (p : Outline). p.pages) c.profile.ensures in
    let more : done_of_slot o < (outline_of_slot o).pages = omega (arith, pages, c.done-next.ensures, c.if-next-profile.false, o.within) in
    is_next old o h name k.0 k.1 (sym c.done-next.ensures ∙ c.if-next-name.false) more

pub returns-in-Ok-clause-same_reference : goal.returns-in-Ok-clause-same_reference
returns-in-Ok-clause-same_reference g c = let looked = c.in-Ok-Some.ensures.ends in c.put_in.ensures.same_reference ∙ looked.ran.references

pub returns-in-Err-put_in-clause-same_reference : goal.returns-in-Err-put_in-clause-same_reference
returns-in-Err-put_in-clause-same_reference g c = let looked = c.in-Ok-Some.ensures.ends in c.put_in.ensures.same_reference ∙ looked.ran.references

pub returns-in-Err-put_in-clause-only : goal.returns-in-Err-put_in-clause-only
returns-in-Err-put_in-clause-only g c = λ e r. ((λ w. cc), (λ w. cc))

pub returns-in-Err-put_in-clause-looked : goal.returns-in-Err-put_in-clause-looked
returns-in-Err-put_in-clause-looked g c = λ e r ne. absurd (ne cc)

pub returns-in-Err-put_in-clause-stopped : goal.returns-in-Err-put_in-clause-stopped
returns-in-Err-put_in-clause-stopped g c = λ r. looked_halted c.in-Ok-Some.ensures.ends c.in-Err-put_in.ensures.stopped

pub returns-in-Ok-clause-stands : goal.returns-in-Ok-clause-stands
returns-in-Ok-clause-stands g c = λ s st.
    let old = (g.N.Nor.device c.args.nor.now).image in
    let mid = (g.N.Nor.device c.find.new.nor).image in
    let new = (g.N.Nor.device c.put_in.new.nor).image in
    let name = c.args.name in
    let o = c.in-Ok-Some.slot in
    let looked = c.in-Ok-Some.ensures.ends in
    let found = rw c.in-Ok-Some.field-0-is at c.in-Ok-Some.ensures.open in
    let told = rw c.in-Ok-Some.field-0-is at c.in-Ok-Some.ensures.told in
    let image = told.0 in
    let pages = ap (λ (p : Outline). p.pages) c.profile.ensures in
    let few : done_of_slot o < most_pages = omega (arith, pages, c.done-next.ensures, c.if-next-profile.false, o.within, o.profile.few_pages) in
    let touches = subst (λ (n : ℕ). Touches (header_sector n) (slot_end n) mid new) image (c.a_slot_holds_its_sectors.ensures.page mid new (outline_of_slot o).image (done_of_slot o) few c.put_in.ensures.touches) in
    stands_written c.a_slot_is_written_alone.ensures.same c.a_slot_is_written_alone.ensures.version old mid new s name.image name.version o c.requires.known_image looked.same_image image touches found c.put_in.ensures.kept st

pub returns-in-Err-put_in-clause-stands : goal.returns-in-Err-put_in-clause-stands
returns-in-Err-put_in-clause-stands g c = λ s st.
    let old = (g.N.Nor.device c.args.nor.now).image in
    let mid = (g.N.Nor.device c.find.new.nor).image in
    let new = (g.N.Nor.device c.put_in.new.nor).image in
    let name = c.args.name in
    let o = c.in-Ok-Some.slot in
    let looked = c.in-Ok-Some.ensures.ends in
    let found = rw c.in-Ok-Some.field-0-is at c.in-Ok-Some.ensures.open in
    let told = rw c.in-Ok-Some.field-0-is at c.in-Ok-Some.ensures.told in
    let image = told.0 in
    let pages = ap (λ (p : Outline). p.pages) c.profile.ensures in
    let few : done_of_slot o < most_pages = omega (arith, pages, c.done-next.ensures, c.if-next-profile.false, o.within, o.profile.few_pages) in
    let touches = subst (λ (n : ℕ). Touches (header_sector n) (slot_end n) mid new) image (c.a_slot_holds_its_sectors.ensures.page mid new (outline_of_slot o).image (done_of_slot o) few c.put_in.ensures.touches) in
    stands_written c.a_slot_is_written_alone.ensures.same c.a_slot_is_written_alone.ensures.version old mid new s name.image name.version o c.requires.known_image looked.same_image image touches found c.put_in.ensures.kept st

use Rattle.std.proofs.Common.{◌≡◌, ℕ, true, List, sym, ap, subst, ◌∙◌, arith}
use Rattle.dg_nor.proofs.DeviceLemmas.{OnErr_from, Ran_then}
use Rattle.dg_slot.specs.Layout.{packets, page_operations}
use Rattle.dg_slot.specs.Kept.{Held, KeepsImage, with_page}
use Rattle.dg_slot.specs.Fits.{may_seal}
use Rattle.dg_slot.specs.Jobs.{IsOpen, outline_of_slot, slot_in}
use Rattle.dg_slot.specs.declared.states.OpenSlot.{OpenSlot}
use Rattle.dg_volume.proofs.HaltLemmas.{halted_within}
use Rattle.dg_volume.proofs.PageLemmas.{one_open, erase_stops, packet_stops, gate_stops, halted_page, sealed_to}
use Rattle.dg_volume.proofs.slot_filling.fill_next.Goals as goal

pub returns-in_err-job-clause-stops : goal.returns-in_err-job-clause-stops
returns-in_err-job-clause-stops g c = OnErr_from c.from_residual.result (λ h opened.
    erase_stops (outline_of_slot c.args.slot).image h c.args.page.now _ _ (c.begin_page.ensures.kept h opened).keeps c.in_err-job.ensures.stopped)

-- what the slot keeps is unchanged while packets are put
put_kept : (o p : OpenSlot) (a b : List ℕ) (h : Held) → p ≡ o → (IsOpen a p h → IsOpen b p h) → IsOpen a o h → KeepsImage b (outline_of_slot o).image h
put_kept o p a b h same kept opened = (subst (λ (x : OpenSlot). IsOpen a x h → IsOpen b x h) same kept opened).keeps

pub returns-in_err-put_all-clause-stops : goal.returns-in_err-put_all-clause-stops
returns-in_err-put_all-clause-stops g c = OnErr_from c.from_residual-in_err-put_all.result (λ h opened.
    packet_stops (outline_of_slot c.args.slot).image h c.args.page.now _ _ _ (put_kept c.args.slot _ _ _ h c.in_ok-job.ensures.same.0 (c.put_all.ensures.kept h) (c.begin_page.ensures.kept h opened)) c.in_ok-job.ensures.ran c.in_err-put_all.ensures.stopped)

pub returns-in_err-put_all-clause-stopped : goal.returns-in_err-put_all-clause-stopped
returns-in_err-put_all-clause-stopped g c = OnErr_from c.from_residual-in_err-put_all.result (
    halted_within 1 packets page_operations _ _ _ (omega arith) c.in_ok-job.ensures.ran c.in_err-put_all.ensures.stopped)

pub returns-in_err-sealing-clause-stops : goal.returns-in_err-sealing-clause-stops
returns-in_err-sealing-clause-stops g c = OnErr_from c.from_residual-in_err-sealing.result (λ h opened.
    let may : may_seal (outline_of_slot c.args.slot).image h c.args.page.now ≡ true = subst (λ (k : Held). may_seal (outline_of_slot c.args.slot).image k c.args.page.now ≡ true) (one_open _ c.args.slot c.requires.fits.0 h c.requires.fits.1 opened) c.requires.fits.3 in
    gate_stops c.args.slot _ h c.args.page.now _ _ _ (c.put_all.ensures.same_slot ∙ c.in_ok-job.ensures.same.0) (omega arith) may (Ran_then c.in_ok-job.ensures.ran c.in_ok-put_all.ensures.ran) (c.in_err-sealing.ensures.stopped h _ (c.in_ok-put_all.ensures.put h (c.in_ok-job.ensures.begun h opened))))

pub returns-in_err-sealing-clause-stopped : goal.returns-in_err-sealing-clause-stopped
returns-in_err-sealing-clause-stopped g c = OnErr_from c.from_residual-in_err-sealing.result (
    let h = c.requires.fits.0 in
    let opened = c.requires.fits.1 in
    let may = c.requires.fits.3 in
    halted_page (outline_of_slot c.args.slot).image h c.args.page.now _ _ (gate_stops c.args.slot _ h c.args.page.now _ _ _ (c.put_all.ensures.same_slot ∙ c.in_ok-job.ensures.same.0) (omega arith) may (Ran_then c.in_ok-job.ensures.ran c.in_ok-put_all.ensures.ran) (c.in_err-sealing.ensures.stopped h _ (c.in_ok-put_all.ensures.put h (c.in_ok-job.ensures.begun h opened)))))

pub returns-clause-sealed : goal.returns-clause-sealed
returns-clause-sealed g c h opened =
    let may : may_seal (outline_of_slot c.args.slot).image h c.args.page.now ≡ true = subst (λ (k : Held). may_seal (outline_of_slot c.args.slot).image k c.args.page.now ≡ true) (one_open _ c.args.slot c.requires.fits.0 h c.requires.fits.1 opened) c.requires.fits.3 in
    let told = sealed_to c.args.slot _ h c.args.page.now _ _ _ (c.put_all.ensures.same_slot ∙ c.in_ok-job.ensures.same.0) (omega arith) may (c.in_ok-sealing.ensures.sealed h _ (c.in_ok-put_all.ensures.put h (c.in_ok-job.ensures.begun h opened))) in
    let e : told.slot ≡ c.slot.result = sym (c.slot.ensures ∙ ap slot_in told.is) in
    subst (λ (o : OpenSlot). IsOpen (g.N.Nor.device c.seal.new.nor).image o (with_page h c.args.page.now)) e told.opened

pub returns-clause-ran : goal.returns-clause-ran
returns-clause-ran g c =
    let h = c.requires.fits.0 in
    let opened = c.requires.fits.1 in
    let may = c.requires.fits.3 in
    let told = sealed_to c.args.slot _ h c.args.page.now _ _ _ (c.put_all.ensures.same_slot ∙ c.in_ok-job.ensures.same.0) (omega arith) may (c.in_ok-sealing.ensures.sealed h _ (c.in_ok-put_all.ensures.put h (c.in_ok-job.ensures.begun h opened))) in
    Ran_then (Ran_then c.in_ok-job.ensures.ran c.in_ok-put_all.ensures.ran) told.ran

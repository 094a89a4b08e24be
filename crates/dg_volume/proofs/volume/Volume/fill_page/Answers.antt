use Rattle.std.proofs.Common.{◌≡◌, ℕ, true, sym, ap, subst, ◌∙◌, ⊎_elim}
use Rattle.std.proofs.lemmas.Bool.{cases_eq}
use Rattle.dg_nor.specs.Chip.{Touches}
use Rattle.dg_nor.proofs.DeviceLemmas.{OnErr_from}
use Rattle.dg_object.specs.Object.{Outline}
use Rattle.dg_slot.specs.Layout.{header_sector, slot_end, page_operations}
use Rattle.dg_slot.specs.Fits.{may_seal}
use Rattle.dg_slot.specs.Jobs.{SlotStops}
use Rattle.dg_volume.specs.Changes.{paged}
use Rattle.dg_volume.specs.Filling.{page_trail}
use Rattle.dg_volume.specs.Stands.{is_lent}
use Rattle.dg_volume.proofs.BehindLemmas.{told_but}
use Rattle.dg_volume.proofs.PagedLemmas.{is_held, some_kept, page_mounted, page_acted, page_stops}
use Rattle.dg_volume.proofs.volume.Volume.fill_page.Goals as goal

pub fill_next-requires : goal.fill_next-requires
fill_next-requires g c =
    let s = c.requires.fits.0 in
    let fits = c.requires.fits.2 in
    let lends = rw c.unwrap-slot.ensures at c.slot.ensures.lends in
    record { fits = (fits.kept, lends.1 _ s fits.kept c.requires.fits.1 fits.held_here, fits.more, subst (λ (n : ℕ). may_seal n fits.kept c.args.page.now ≡ true) (sym lends.0) fits.fits) }

pub returns-in_err-filled-clause-stopped : goal.returns-in_err-filled-clause-stopped
returns-in_err-filled-clause-stopped g c = OnErr_from c.from_residual.result (λ s mounted.
    let i = c.args.image in
    let a = g.N.Nor.device c.args.nor.now in
    let b = g.N.Nor.device c.fill_next.new.nor in
    let x = c.requires.fits in
    let lends = rw c.unwrap-slot.ensures at c.slot.ensures.lends in
    let kept = is_held c.args.self.now s i c.requires.known_image mounted.tells (some_kept c.args.self.now x.0 i x.2.kept c.requires.known_image x.1.tells x.2.held_here) in
    let h = kept.kept in
    let touches = subst (λ (n : ℕ). Touches (header_sector n) (slot_end n) a.image b.image) lends.0 c.fill_next.ensures.touches in
    let stops = subst (λ (n : ℕ). SlotStops n (page_trail h c.args.page.now) a b) lends.0 (c.in_err-filled.ensures.stops h (lends.1 a.image s h mounted kept.here)) in
    page_stops page_operations a b c.args.self.now s i h c.args.page.now c.requires.not_golden c.requires.known_image kept.here touches (told_but a.image c.args.self.now s i mounted) stops)

pub returns-clause-acted : goal.returns-clause-acted
returns-clause-acted g c s mounted =
    let i = c.args.image in
    let a = g.N.Nor.device c.args.nor.now in
    let b = g.N.Nor.device c.fill_next.new.nor in
    let page = c.args.page.now in
    let x = c.requires.fits in
    let lends = rw c.unwrap-slot.ensures at c.slot.ensures.lends in
    let filled = c.in_ok-filled.filled in
    let kept = is_held c.args.self.now s i c.requires.known_image mounted.tells (some_kept c.args.self.now x.0 i x.2.kept c.requires.known_image x.1.tells x.2.held_here) in
    let h = kept.kept in
    let touches = subst (λ (n : ℕ). Touches (header_sector n) (slot_end n) a.image b.image) lends.0 c.fill_next.ensures.touches in
    let image = ap (λ (p : Outline). p.image) c.in_ok-filled.ensures.same ∙ lends.0 in
    page_acted a b c.put_back.new.self s (paged i page s) c.in_ok-filled.ensures.ran
    (page_mounted a.image b.image c.slot.new.self c.put_back.new.self s i h page filled c.requires.not_golden c.requires.known_image image kept.here touches
    (c.in_ok-filled.ensures.sealed h (lends.1 a.image s h mounted kept.here)) (c.slot.ensures.mounted a.image s mounted) (λ t k but here opens. c.put_back.ensures.mounted b.image t k but here opens))

pub returns-clause-lent : goal.returns-clause-lent
returns-clause-lent g c i =
    let lends = rw c.unwrap-slot.ensures at c.slot.ensures.lends in
    let image = ap (λ (p : Outline). p.image) c.in_ok-filled.ensures.same ∙ lends.0 in
    ⊎_elim
    (λ e. ap (is_lent c.put_back.new.self) (e ∙ sym image) ∙ c.put_back.ensures.back ∙ sym c.requires.not_lent ∙ ap (is_lent c.args.self.now) (sym e))
    (λ other. c.put_back.ensures.others i (λ e. other (e ∙ image)) ∙ c.slot.ensures.others i other)
    (cases_eq i c.args.image)

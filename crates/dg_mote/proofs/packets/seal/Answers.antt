use Rattle.std.proofs.Common.{◌≡◌, ℕ, ◌+◌, Some, subst, ◌∙◌, arith}
use Rattle.dg_nor.specs.Chip.{Touches}
use Rattle.dg_nor.proofs.ChipLemmas.{Touches_wider}
use Rattle.dg_nor.proofs.DeviceLemmas.{OnErr_from}
use Rattle.dg_slot.specs.Kept.{Held}
use Rattle.dg_slot.specs.Layout.{header_sector, slot_end}
use Rattle.dg_slot.specs.Jobs.{Opens, Seals, outline_of_slot, slot_of, SlotStops, seal_trail, page_from}
use Rattle.dg_slot.specs.declared.states.OpenSlot.{OpenSlot}
use Rattle.dg_volume.specs.Store.{Store, held}
use Rattle.dg_volume.specs.Stands.{MountedBut, Mounted}
use Rattle.dg_mote.proofs.FillLemmas.{slot_known, sealed_ends}
use Rattle.dg_mote.proofs.packets.seal.Goals as goal

pub returns-in_err-seal-clause-stopped : goal.returns-in_err-seal-clause-stopped
returns-in_err-seal-clause-stopped g c = OnErr_from c.from_residual.result (λ s i h ps m fills.
    let a = g.N.Nor.device c.args.nor.now in
    let b = g.N.Nor.device c.seal.new.nor in
    let k = (outline_of_slot (slot_of c.args.job)).image in
    let wide : Touches (header_sector k) (slot_end k) a.image b.image = Touches_wider (header_sector k) (header_sector k + 1) (header_sector k) (slot_end k) c.seal.ensures.touches (omega arith) (omega arith) in
    let touches = subst (λ (n : ℕ). Touches (header_sector n) (slot_end n) a.image b.image) fills.of_image wide in
    let stops = subst (λ (n : ℕ). SlotStops n (seal_trail n h (page_from ps)) a b) fills.of_image (c.in_err-seal.ensures.stopped h ps fills.stands) in
    c.a_lent_slot_is_filled.ensures.seal_stopped a b c.args.volume.now s i h (page_from ps) fills.not_golden (omega (arith, slot_known c.args.job, fills.of_image)) fills.held_here touches (c.a_lent_slot_is_filled.ensures.lent a.image c.args.volume.now s i m) stops)

pub returns-clause-sealed : goal.returns-clause-sealed
returns-clause-sealed g c s i h ps m fills =
    let a = g.N.Nor.device c.args.nor.now in
    let b = g.N.Nor.device c.seal.new.nor in
    let laws = c.a_lent_slot_is_filled.ensures in
    let answer = c.in_ok-seal.field-0 in
    let k = (outline_of_slot (slot_of c.args.job)).image in
    let wide : Touches (header_sector k) (slot_end k) a.image b.image = Touches_wider (header_sector k) (header_sector k + 1) (header_sector k) (slot_end k) c.seal.ensures.touches (omega arith) (omega arith) in
    let touches = subst (λ (n : ℕ). Touches (header_sector n) (slot_end n) a.image b.image) fills.of_image wide in
    let back = subst (λ (o : OpenSlot). (t : Store) (g : Held) → MountedBut (λ j. j ≡ (outline_of_slot o).image) b.image c.args.volume.now t → held t (outline_of_slot o).image ≡ Some g → Opens o g → Mounted b.image c.put_back.new.self t)
    c.opened-fits.ensures.slot (λ t x but here opens. c.put_back.ensures.mounted b.image t x but here opens) in
    let sealed = sealed_ends laws.filling laws.sealed laws.held answer a b c.args.volume.now c.put_back.new.self s i c.args.job h ps m fills touches c.in_ok-seal.ensures.same
    (subst (λ (n : ℕ). Seals n h (page_from ps) a b answer) fills.of_image (c.in_ok-seal.ensures.sealed h ps fills.stands)) back in
    (c.opened-fits.ensures.fits ∙ sealed.fits_is, sealed.acted)

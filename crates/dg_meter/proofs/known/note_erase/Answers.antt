use Rattle.std.proofs.Common.{◌*◌, slice_set, refl, arith}
use Rattle.std.proofs.lemmas.List.{get_or-set_same, get_or-set_other}
use Rattle.dg_meter.proofs.PageLemmas.{erased_pages}
use Rattle.dg_meter.proofs.known.note_erase.Goals as goal

pub returns-then-slot-lt-SLOTS : goal.returns-then-slot-lt-SLOTS
returns-then-slot-lt-SLOTS c = λ image size pages.
    let slot = c.slot_at-slot.result in
    erased_pages c.args.known.now (slice_set c.args.known.now slot 255) image slot c.args.sector (c.args.sector * 2048) (omega arith) (omega (arith, c.requires.in_chip, size)) pages c.slot_at-slot.ensures
    (λ lt. get_or-set_same c.args.known.now slot 255 0 (omega (arith, c.requires.length, lt))) (λ s other. get_or-set_other c.args.known.now slot s 255 0 other)

pub returns-else-slot-lt-SLOTS : goal.returns-else-slot-lt-SLOTS
returns-else-slot-lt-SLOTS c = λ image size pages.
    erased_pages c.args.known.now c.args.known.now image c.slot_at-slot.result c.args.sector (c.args.sector * 2048) (omega arith) (omega (arith, c.requires.in_chip, size)) pages c.slot_at-slot.ensures
    (λ lt. absurd (omega (arith, lt, c.if-slot-lt-SLOTS.false))) (λ s other. refl)

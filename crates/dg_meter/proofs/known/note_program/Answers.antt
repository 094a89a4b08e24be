use Rattle.std.proofs.Common.{◌∙◌, ◌-◌, ℕ, length, slice_set, refl, ap, arith}
use Rattle.std.specs.Prelude.{bit_and, slice_index}
use Rattle.std.proofs.lemmas.List.{get_or-set_same, get_or-set_other}
use Rattle.dg_meter.proofs.PageLemmas.{in_chip, programmed_pages}
use Rattle.dg_meter.proofs.known.note_program.Goals as goal

pub returns-then-slot-lt-SLOTS : goal.returns-then-slot-lt-SLOTS
returns-then-slot-lt-SLOTS c = λ image size pages.
    let known = c.args.known.now in
    let bytes = c.args.bytes.now in
    let slot = c.slot_at-slot.result in
    let byte : ℕ = bit_and (slice_index known slot) (slice_index bytes (c.pages_cell.result - c.args.at)) in
    programmed_pages known (slice_set known slot byte) image slot c.args.at bytes
    (in_chip c.args.at (length bytes) (length image) c.requires.in_chip c.requires.in_sector size) pages c.slot_at-slot.ensures
    (λ lt. get_or-set_same known slot byte 0 (omega (arith, c.requires.length, lt)) ∙ ap (λ (k : ℕ). bit_and (slice_index known slot) (slice_index bytes (k - c.args.at))) c.pages_cell.ensures)
    (λ s other. get_or-set_other known slot s byte 0 other)

pub returns-else-slot-lt-SLOTS : goal.returns-else-slot-lt-SLOTS
returns-else-slot-lt-SLOTS c = λ image size pages.
    programmed_pages c.args.known.now c.args.known.now image c.slot_at-slot.result c.args.at c.args.bytes.now
    (in_chip c.args.at (length c.args.bytes.now) (length image) c.requires.in_chip c.requires.in_sector size) pages c.slot_at-slot.ensures
    (λ lt. absurd (omega (arith, lt, c.if-slot-lt-SLOTS.false))) (λ s other. refl)

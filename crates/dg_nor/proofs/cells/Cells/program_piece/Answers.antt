use Rattle.std.proofs.Common.{◌≡◌, ◌+◌, ◌*◌, get_or, length, drop, refl, sym, ap, ◌∙◌, subst, arith}
use Rattle.std.proofs.lemmas.List.{take_at}
use Rattle.dg_nor.specs.Chip.{IsChip, programmed}
use Rattle.dg_nor.specs.Sparse.{board_piece, sparse, IsSparse, IsBlankIn}
use Rattle.dg_nor.proofs.SparseLemmas.{IsSparse-same, IsChip-sparse, sparse-programmed}
use Rattle.dg_nor.proofs.BlankLemmas.{IsBlankIn-programmed}
use Rattle.dg_nor.proofs.cells.Cells.program_piece.Goals as goal

pub invariant_of-self-clause-placed : goal.invariant_of-self-clause-placed
invariant_of-self-clause-placed c =
    let places = c.store-first.new.self.places in
    let cells = c.store-first.new.self.stored in
    let new = c.program_stored.new.cells in
    let n : length new ≡ cells.len = omega arith in
    subst (IsSparse places) (sym (take_at new (drop (length new) cells.items) cells.len n)) (IsSparse-same places cells.items new c.store-first.new.self.placed (omega arith))

pub invariant_of-self-clause-chip : goal.invariant_of-self-clause-chip
invariant_of-self-clause-chip c =
    let places = c.store-first.new.self.places in
    let cells = c.store-first.new.self.stored in
    let new = c.program_stored.new.cells in
    let n : length new ≡ cells.len = omega arith in
    subst (λ xs. IsChip (sparse places xs)) (sym (take_at new (drop (length new) cells.items) cells.len n)) (IsChip-sparse places new c.program_stored.ensures.bytes)

pub invariant_of-self-clause-unused : goal.invariant_of-self-clause-unused
invariant_of-self-clause-unused c =
    let old = c.store-first.new.self in
    let cells = old.stored in
    let new = c.program_stored.new.cells in
    let at = c.store-first.result + c.args.offset in
    let bytes = c.args.bytes.now in
    let m = c.blank_behind-self.result in
    let n : length new ≡ cells.len = omega arith in
    let same : new ≡ programmed cells.items at bytes
    = c.program_stored.ensures.cells ∙ ap (λ xs. programmed xs at bytes) c.deref_mut.ensures.value in
    subst (λ xs. IsBlankIn xs m old.blank_to) (sym (take_at new (drop (length new) cells.items) cells.len n ∙ same))
    (IsBlankIn-programmed cells.items old.blank_from old.blank_to at m bytes old.unused (omega arith) c.blank_behind-self.ensures.within c.blank_behind-self.ensures.behind)

pub returns : goal.returns
returns c =
    let places = c.store-first.new.self.places in
    let cells = c.store-first.new.self.stored in
    let new = c.program_stored.new.cells in
    let at = c.args.offset in
    let bytes = c.args.bytes.now in
    let p = get_or places c.args.piece 0 in
    let n : length new ≡ cells.len = omega arith in
    ap (sparse places) (take_at new (drop (length new) cells.items) cells.len n) ∙ ap (sparse places) c.program_stored.ensures.cells
    ∙ ap (λ xs. sparse places (programmed xs (c.store-first.result + at) bytes)) c.deref_mut.ensures.value
    ∙ ap (λ k. sparse places (programmed cells.items (k + at) bytes)) c.store-first.ensures.first
    ∙ sparse-programmed places cells.items c.args.piece p at bytes c.store-first.new.self.placed refl c.store-first.ensures.place c.requires.in_chip c.requires.in_piece
    ∙ ap (λ i. programmed i (board_piece * c.args.piece + at) bytes) c.store-first.ensures.same

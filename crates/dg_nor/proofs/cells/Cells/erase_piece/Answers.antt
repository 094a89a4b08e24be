use Rattle.std.proofs.Common.{◌≡◌, ◌+◌, ◌-◌, ◌*◌, ◌<◌, get_or, length, drop, refl, sym, ap, ◌∙◌, subst, arith}
use Rattle.std.proofs.lemmas.List.{take_at}
use Rattle.dg_words.specs.Cells.{overwritten}
use Rattle.dg_nor.specs.Chip.{IsChip, blank}
use Rattle.dg_nor.specs.Sparse.{board_piece, sparse, IsSparse, IsBlankIn}
use Rattle.dg_nor.proofs.SparseLemmas.{IsSparse-same, IsChip-sparse, erased_piece, erased_piece_blank}
use Rattle.dg_nor.proofs.BlankLemmas.{IsBlankIn-erased}
use Rattle.dg_nor.proofs.cells.Cells.erase_piece.Goals as goal

pub invariant_of-self-clause-placed : goal.invariant_of-self-clause-placed
invariant_of-self-clause-placed c =
    let cells = c.args.self.now.stored in
    let new = c.erase_cells.new.cells in
    let n : length new ≡ cells.len = omega arith in
    subst (IsSparse c.args.self.now.places) (sym (take_at new (drop (length new) cells.items) cells.len n)) (IsSparse-same c.args.self.now.places cells.items new c.args.self.now.placed (omega arith))

pub invariant_of-self-clause-chip : goal.invariant_of-self-clause-chip
invariant_of-self-clause-chip c =
    let cells = c.args.self.now.stored in
    let new = c.erase_cells.new.cells in
    let n : length new ≡ cells.len = omega arith in
    subst (λ xs. IsChip (sparse c.args.self.now.places xs)) (sym (take_at new (drop (length new) cells.items) cells.len n)) (IsChip-sparse c.args.self.now.places new c.erase_cells.ensures.bytes)

pub invariant_of-self-clause-unused : goal.invariant_of-self-clause-unused
invariant_of-self-clause-unused c =
    let old = c.args.self.now in
    let cells = old.stored in
    let new = c.erase_cells.new.cells in
    let p = get_or old.places c.args.piece 0 in
    let from = board_piece * (p - 1) in
    let m = c.blank_with-self.result in
    let n : length new ≡ cells.len = omega arith in
    let placed = old.placed in
    let w = placed.within c.args.piece in
    let count = placed.count in
    let same : new ≡ overwritten cells.items from (blank board_piece)
    = c.erase_cells.ensures.cells ∙ ap (λ xs. overwritten xs from (blank (from + board_piece - from))) c.deref_mut.ensures.value
    ∙ ap (λ k. overwritten cells.items from (blank k)) (omega arith) in
    subst (λ xs. IsBlankIn xs m (from + board_piece)) (sym (take_at new (drop (length new) cells.items) cells.len n ∙ same))
    (IsBlankIn-erased cells.items old.blank_from old.blank_to from m board_piece old.unused (omega arith) c.blank_with-self.ensures)

pub returns-then-place-ne0 : goal.returns-then-place-ne0
returns-then-place-ne0 c =
    let places = c.args.self.now.places in
    let cells = c.args.self.now.stored in
    let new = c.erase_cells.new.cells in
    let p = get_or places c.args.piece 0 in
    let from = board_piece * (p - 1) in
    let some : 0 < p = omega arith in
    let n : length new ≡ cells.len = omega arith in
    ap (sparse places) (take_at new (drop (length new) cells.items) cells.len n) ∙ ap (sparse places) c.erase_cells.ensures.cells
    ∙ ap (λ xs. sparse places (overwritten xs from (blank (from + board_piece - from)))) c.deref_mut.ensures.value
    ∙ ap (λ k. sparse places (overwritten cells.items from (blank k))) (omega arith)
    ∙ erased_piece places cells.items c.args.piece p c.args.self.now.placed refl some c.requires

pub returns-else-place-ne0 : goal.returns-else-place-ne0
returns-else-place-ne0 c =
    let none : get_or c.args.self.now.places c.args.piece 0 ≡ 0 = omega arith in
    erased_piece_blank c.args.self.now.places c.args.self.now.stored.items c.args.piece none c.requires

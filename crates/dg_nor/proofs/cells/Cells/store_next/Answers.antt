use Rattle.std.proofs.Common.{◌+◌, ◌/◌, set, sym, ap, ◌∙◌, subst, arith}
use Rattle.dg_nor.specs.Sparse.{board_piece, sparse, IsSparse, IsBlankIn}
use Rattle.dg_nor.proofs.SparseLemmas.{stored_pieces-lt, IsSparse-more, IsChip-sparse, sparse-more}
use Rattle.dg_nor.proofs.BlankLemmas.{IsBlankIn-more}
use Rattle.dg_nor.proofs.cells.Cells.store_next.Goals as goal

pub append_blank-requires : goal.append_blank-requires
append_blank-requires c =
    let placed = c.args.self.now.placed in
    let l = stored_pieces-lt c.args.self.now.places c.args.piece (omega arith) c.requires.blank in
    omega (arith, placed.count)

pub overflow_cast-self : goal.overflow_cast-self
overflow_cast-self c =
    let placed = c.args.self.now.placed in
    let l = stored_pieces-lt c.args.self.now.places c.args.piece (omega arith) c.requires.blank in
    omega (arith, placed.count)

pub invariant_of-self-clause-placed : goal.invariant_of-self-clause-placed
invariant_of-self-clause-placed c =
    let places = c.args.self.now.places in
    let cells = c.args.self.now.stored in
    let p = c.len.result / board_piece in
    let placed = c.args.self.now.placed in
    subst (IsSparse (set places c.args.piece p)) (sym c.append_blank.ensures.cells)
    (IsSparse-more places cells.items c.args.piece p placed (omega arith) c.requires.blank (omega (arith, placed.count)))

pub invariant_of-self-clause-chip : goal.invariant_of-self-clause-chip
invariant_of-self-clause-chip c = IsChip-sparse _ c.append_blank.new.cells.items c.append_blank.ensures.bytes

pub invariant_of-self-clause-unused : goal.invariant_of-self-clause-unused
invariant_of-self-clause-unused c =
    let old = c.args.self.now in
    let at = c.len-at.result in
    subst (λ xs. IsBlankIn xs c.blank_with-self.result (at + board_piece)) (sym c.append_blank.ensures.cells)
    (IsBlankIn-more old.stored.items old.blank_from old.blank_to at c.blank_with-self.result board_piece old.unused (omega arith) c.blank_with-self.ensures)

pub returns-clause-same : goal.returns-clause-same
returns-clause-same c =
    let places = c.args.self.now.places in
    let cells = c.args.self.now.stored in
    let p = c.len.result / board_piece in
    let placed = c.args.self.now.placed in
    ap (sparse (set places c.args.piece p)) c.append_blank.ensures.cells
    ∙ sparse-more places cells.items c.args.piece p placed (omega arith) c.requires.blank (omega (arith, placed.count))

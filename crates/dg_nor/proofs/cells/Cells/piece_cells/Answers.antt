use Rattle.std.proofs.Common.{◌≡◌, ◌+◌, ◌-◌, ◌*◌, ◌<◌, get_or, refl, sym, ap, ◌∙◌, arith}
use Rattle.dg_words.specs.Cells.{part}
use Rattle.dg_words.proofs.CellLemmas.{between-part}
use Rattle.dg_nor.specs.Sparse.{board_piece}
use Rattle.dg_nor.specs.Chip.{blank}
use Rattle.dg_nor.proofs.ChipLemmas.{part-blank}
use Rattle.dg_nor.proofs.SparseLemmas.{part-sparse, part-sparse_blank}
use Rattle.dg_nor.proofs.cells.Cells.piece_cells.Goals as goal

pub returns-then-place-eq0 : goal.returns-then-place-eq0
unfolding blank part
returns-then-place-eq0 c =
    let places = c.args.self.now.places in
    let none : get_or places c.args.piece 0 ≡ 0 = omega arith in
    part-blank board_piece 0 c.args.count (omega arith)
    ∙ sym (part-sparse_blank places c.args.self.now.stored.items c.args.piece c.args.offset c.args.count none c.requires.in_chip c.requires.in_piece)

pub returns-else-place-eq0 : goal.returns-else-place-eq0
returns-else-place-eq0 c =
    let places = c.args.self.now.places in
    let stored = c.args.self.now.stored.items in
    let s = c.args.piece in
    let p = get_or places s 0 in
    let n = c.args.count in
    let from = board_piece * (p - 1) + c.args.offset in
    let some : 0 < p = omega arith in
    between-part c.deref.result.now from (from + n) n (omega arith) ∙ ap (λ xs. part xs from n) c.deref.ensures.value
    ∙ sym (part-sparse places stored s p c.args.offset n c.args.self.now.placed refl some c.requires.in_chip c.requires.in_piece)

use Rattle.std.proofs.Common.{◌≡◌, ◌+◌, ℕ, List, length, ap, ◌∙◌, arith}
use Rattle.dg_words.specs.Cells.{part}
use Rattle.dg_words.proofs.CellLemmas.{between-part}
use Rattle.dg_nor.specs.Sizes.{chip_size}
use Rattle.dg_inspect.proofs.chip.StillChipNor.read.Goals as goal

pub returns-clause-bytes : goal.returns-clause-bytes
returns-clause-bytes c =
    let cells : List ℕ = c.deref.result.now in
    let at = c.args.at in
    let n = length c.args.into.now in
    let whole : length cells ≡ chip_size = ap length c.deref.ensures.value ∙ c.args.self.now.chip.cells in
    c.copy_from_slice.ensures.after ∙ between-part cells at (at + n) n (omega arith) ∙ ap (λ (x : List ℕ). part x at n) c.deref.ensures.value

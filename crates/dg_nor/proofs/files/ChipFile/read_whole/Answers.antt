use Rattle.std.proofs.Common.{ap, ◌∙◌}
use Rattle.dg_words.specs.Cells.{overwritten}
use Rattle.dg_nor.proofs.FileLemmas.{overwritten_none}
use Rattle.dg_nor.proofs.files.ChipFile.read_whole.Goals as goal

pub returns-clause-bytes : goal.returns-clause-bytes
returns-clause-bytes c =
    let read = c.read_exact_at.new.buf in
    c.with-given.ensures ∙ ap (λ xs. overwritten xs 0 read) c.nothing.ensures ∙ overwritten_none read

use Rattle.std.proofs.Common.{ap, ◌∙◌}
use Rattle.dg_words.specs.Cells.{overwritten}
use Rattle.dg_nor.proofs.FileLemmas.{overwritten_none}
use Rattle.dg_nor.proofs.files.fill.Goals as goal

pub returns : goal.returns
returns c =
    let all = c.args.all.now in
    c.in_ok-write.ensures ∙ ap (λ xs. overwritten xs 0 all) c.in_ok-file.ensures ∙ overwritten_none all

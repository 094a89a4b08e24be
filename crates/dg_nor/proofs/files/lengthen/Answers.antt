use Rattle.std.proofs.Common.{◌∙◌}
use Rattle.std.proofs.lemmas.Result.{on_ok_weaker}
use Rattle.dg_nor.specs.Backing.{file_bytes}
use Rattle.dg_nor.proofs.FileLemmas.{overwritten_end}
use Rattle.dg_nor.proofs.files.lengthen.Goals as goal

pub returns : goal.returns
returns c = on_ok_weaker c.write.result (λ e. e ∙ overwritten_end (file_bytes c.args.file.now) c.args.at c.args.behind.now c.requires.at_end) c.write.ensures

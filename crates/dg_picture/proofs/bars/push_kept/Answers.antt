use Rattle.std.proofs.Common.{◌≡◌, Option, OnOk, ◌++◌, sym, subst}
use Rattle.dg_picture.specs.Picture.{kept_text}
use Rattle.dg_story.specs.declared.reports.Pages.{Pages}
use Rattle.dg_picture.proofs.bars.push_kept.Goals as goal

pub returns-in-Some : goal.returns-in-Some
returns-in-Some c =
    subst (λ (kept : Option Pages). OnOk c.push_line.result (c.push_line.new.out.items ≡ c.args.out.now.items ++ kept_text c.args.base c.args.image kept))
    (sym c.in-Some.is) c.push_line.ensures

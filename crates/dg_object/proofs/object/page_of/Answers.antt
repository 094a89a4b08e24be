use Rattle.std.proofs.Common.{sym, ◌∙◌, arith}
use Rattle.dg_object.specs.Object.{row_of}
use Rattle.dg_object.proofs.PageLemmas.{page_of_row-first, page_of_row-data}
use Rattle.dg_object.proofs.object.page_of.Goals as goal

pub returns-then-p-eq0 : goal.returns-then-p-eq0
returns-then-p-eq0 c =
    c.write_descriptor.ensures ∙ sym (page_of_row-first (row_of c.args.image c.args.version c.args.name.now c.args.bytes.now) c.args.p (omega arith))

pub returns-else-p-eq0 : goal.returns-else-p-eq0
returns-else-p-eq0 c =
    c.write_data_page.ensures ∙ sym (page_of_row-data (row_of c.args.image c.args.version c.args.name.now c.args.bytes.now) c.args.p (omega arith))

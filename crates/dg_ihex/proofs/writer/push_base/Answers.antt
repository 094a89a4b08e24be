use Rattle.dg_ihex.proofs.WriterLemmas.{no_base, inside_segment, first_piece, new_base, on_ok}
use Rattle.dg_ihex.proofs.writer.push_base.Goals as goal

pub returns-then-address-ne0 : goal.returns-then-address-ne0
returns-then-address-ne0 c = no_base c.args.piece c.args.text.now.items (inside_segment c.args.piece c.if-address-ne0.true)

pub returns-then-piece-eq0 : goal.returns-then-piece-eq0
returns-then-piece-eq0 c = no_base c.args.piece c.args.text.now.items (first_piece c.args.piece c.if-piece-eq0.true)

pub returns : goal.returns
returns c = on_ok c.push_line.result _ _ (new_base c.args.piece c.args.text.now.items c.push_line.new.text.items c.if-address-ne0.false c.if-piece-eq0.false) c.push_line.ensures

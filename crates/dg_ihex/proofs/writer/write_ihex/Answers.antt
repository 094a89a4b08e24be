use Rattle.std.proofs.Common.{arith}
use Rattle.dg_ihex.proofs.WriterLemmas.{pieces_more, file_done}
use Rattle.dg_ihex.proofs.writer.write_ihex.Goals as goal

pub loop-piece-preserved : goal.loop-piece-preserved
loop-piece-preserved c = pieces_more c.loop-piece.text.items c.push_piece.new.text.items c.args.bytes.now c.loop-piece.piece c.loop-piece.invariant c.in_ok-push_piece.ensures

pub returns : goal.returns
returns c = file_done c.loop-piece.text.items c.push_line.new.text.items c.args.bytes.now c.loop-piece.piece (omega arith) c.loop-piece.invariant c.in_ok-push_line.ensures

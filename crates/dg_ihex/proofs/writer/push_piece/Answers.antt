use Rattle.std.proofs.Common.{◌*◌, ◌%◌, refl}
use Rattle.std.specs.Prelude.{slice_range}
use Rattle.dg_ihex.specs.Sizes.{segment, piece_bytes}
use Rattle.dg_ihex.proofs.WriterLemmas.{piece_is, piece_pushed, on_ok}
use Rattle.dg_ihex.proofs.writer.push_piece.Goals as goal

pub returns : goal.returns
returns c =
    let bytes = c.args.bytes.now in
    let k = c.args.piece in
    let address = k * piece_bytes in
    let piece = piece_is bytes k address c.min-end.result refl c.min-end.ensures c.requires.within in
    on_ok c.push_line.result _ _
    (λ h. piece_pushed c.args.text.now.items c.push_base.new.text.items c.push_line.new.text.items bytes (slice_range bytes address c.min-end.result) k (address % segment) (c.in_ok-push_base.ensures) h refl piece)
    c.push_line.ensures

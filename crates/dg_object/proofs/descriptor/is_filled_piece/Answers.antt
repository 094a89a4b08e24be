use Rattle.dg_object.specs.Sizes.{descriptor_piece_size}
use Rattle.dg_object.proofs.RestLemmas.{piece_is_filling}
use Rattle.dg_object.proofs.descriptor.is_filled_piece.Goals as goal

pub returns : goal.returns
returns c = piece_is_filling descriptor_piece_size c.args.piece.now c.eq.result c.requires c.eq.ensures

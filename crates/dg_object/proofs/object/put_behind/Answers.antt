use Rattle.std.proofs.Common.{arith}
use Rattle.dg_object.specs.Sizes.{page_size}
use Rattle.dg_object.proofs.PageLemmas.{put_piece}
use Rattle.dg_object.proofs.object.put_behind.Goals as goal

pub returns : goal.returns
returns c = λ front e was. put_piece page_size 255 c.args.at _ c.args.page.now front c.args.piece.now _ e (omega arith) was c.copy_from_slice.ensures.after

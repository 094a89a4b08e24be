use Rattle.std.proofs.Common.{[], length, replicate, refl, sym}
use Rattle.dg_words.proofs.ListLemmas.{padded_none}
use Rattle.dg_object.proofs.PageLemmas.{put_piece}
use Rattle.dg_object.proofs.object.name_field.Goals as goal

pub returns : goal.returns
returns c = put_piece 16 0 0 (length c.args.name.now) (replicate 16 0) [] c.args.name.now _ refl refl (sym (padded_none 16 0)) c.copy_from_slice.ensures.after

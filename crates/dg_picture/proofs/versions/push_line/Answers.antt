use Rattle.dg_picture.proofs.versions.push_line.Goals as goal

pub returns : goal.returns
returns c = c.push_pieces.ensures

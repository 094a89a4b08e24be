use Rattle.std.proofs.Common.{◌≡◌, ◌++◌, take}
use Rattle.dg_picture.specs.Texts.{pieces_text}
use Rattle.dg_picture.proofs.pieces.push_pieces.Given as goal

-- the pieces so far are appended
abbrev pub invariant-loop-piece : goal.invariant-loop-piece
invariant-loop-piece l = l.out.items ≡ l.initial.out.items ++ pieces_text (take l.piece-index l.pieces)

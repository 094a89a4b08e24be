use Rattle.std.proofs.Common.{◌≡◌, ◌++◌}
use Rattle.std.proofs.lemmas.Result.{IfOk-from_err}
use Rattle.dg_base.proofs.OutsideLemmas.{Takes-join}
use Rattle.dg_picture.proofs.FollowLemmas.{some_then}
use Rattle.dg_picture.proofs.following.follow_pieces.Goals as goal

-- the bytes before this piece, and those that came with the failure
pub returns-in_err-follow_piece-clause-taken : goal.returns-in_err-follow_piece-clause-taken
returns-in_err-follow_piece-clause-taken g c =
    let left = g.S.Source.left in
    let shown = g.W.Screen.shown in
    let before = c.loop-alloc.bytes.items in
    let piece = c.follow_piece.ensures.taken in (
      before ++ piece.0,
      (
        Takes-join (left c.args.source.now) (left c.loop-alloc.source) (left c.follow_piece.new.source) before piece.0 c.loop-alloc.invariant.follows.0 piece.1,
        some_then before piece.0 (shown c.args.screen.now) (shown c.loop-alloc.screen) (shown c.follow_piece.new.screen) c.loop-alloc.invariant.follows.1 piece.3,
      ),
      IfOk-from_err c.from_residual-in_err-follow_piece.result (λ v. v.items ≡ before ++ piece.0) c.from_residual-in_err-follow_piece.ensures.0,
    )

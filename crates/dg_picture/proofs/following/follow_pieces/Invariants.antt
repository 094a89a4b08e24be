use Rattle.std.proofs.Common.{◌≡◌, ◌+◌, ◌-◌, ◌<◌, ◌≤◌, length, vec_len}
use Rattle.dg_script.specs.Sizes.{most_used_bytes}
use Rattle.dg_picture.specs.Followed.{Follows}
use Rattle.dg_picture.proofs.following.follow_pieces.Given as goal

-- The bytes were taken from the source, and what is shown is the picture of a prefix of them, or what was shown before.
abbrev pub invariant-loop-alloc : goal.invariant-loop-alloc
invariant-loop-alloc g l = record {
  follows : Follows (g.S.Source.left l.fn.source) (g.S.Source.left l.source) (g.W.Screen.shown l.fn.screen) (g.W.Screen.shown l.screen) l.bytes.items;
  reads : g.S.Source.faults l.source ≡ g.S.Source.faults l.fn.source;
  shows : g.W.Screen.faults l.screen ≡ g.W.Screen.faults l.fn.screen;
  some : 0 < length l.piece;
  few : vec_len l.bytes ≤ most_used_bytes + 1;
}

abbrev pub decreases-loop-alloc : goal.decreases-loop-alloc
decreases-loop-alloc g l = most_used_bytes + 1 - vec_len l.bytes

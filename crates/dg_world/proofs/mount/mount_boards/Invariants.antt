use Rattle.std.proofs.Common.{◌≤◌, map}
use Rattle.dg_world.proofs.MountLemmas.{AreMounted}
use Rattle.dg_world.proofs.mount.mount_boards.Given as goal

abbrev pub invariant-loop-board : goal.invariant-loop-board
invariant-loop-board g l = record {
  to : AreMounted l.board (map g.N.Nor.device l.initial.boards) (map g.N.Nor.device l.boards);
  within : l.board ≤ l.motes;
}

use Rattle.std.proofs.Common.{◌≤◌, map}
use Rattle.dg_volume.specs.Store.{fresh}
use Rattle.dg_world.proofs.FormatLemmas.{FormattedTo}
use Rattle.dg_world.proofs.format.format_boards.Given as goal

abbrev pub invariant-loop-board : goal.invariant-loop-board
invariant-loop-board g l = record {
  to : FormattedTo l.board (fresh l.name l.golden l.used) (map g.N.Nor.device l.initial.boards) (map g.N.Nor.device l.boards);
  within : l.board ≤ l.motes;
}

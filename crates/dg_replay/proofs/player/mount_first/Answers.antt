use Rattle.std.proofs.Common.{map, arith}
use Rattle.std.proofs.lemmas.List.{length-map}
use Rattle.dg_replay.proofs.SilentLemmas.{shaped_stores}
use Rattle.dg_replay.proofs.player.mount_first.Goals as goal

pub returns : goal.returns
returns g c =
    let e = c.mount_boards.ensures in
    let count = length-map c.args.boards.now g.N.Nor.device in
    record {
      stands = shaped_stores c.a_chip_stands_for_a_shaped_store.ensures c.mount_boards.result c.args.motes (map g.N.Nor.device c.mount_boards.new.boards) (omega (arith, c.requires.counted.2, count, e.read.count)) e.stands;
      calm = e.calm;
      awake = e.awake;
      read = e.read;
      others = e.others;
      stopped = e.stopped;
      no_volume = λ board is. (e.no_volume board is, e.calm_no_volume board is);
    }

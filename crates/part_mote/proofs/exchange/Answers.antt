use Rattle.std.proofs.Common.{◌+◌, ◌*◌, arith}
use Rattle.dg_nor.specs.Board.{board_device}
use Rattle.part_mote.proofs.NodeLemmas.{timely_later}
use Rattle.part_mote.proofs.exchange.Goals as goal

pub loop-number-preserved : goal.loop-number-preserved
loop-number-preserved c =
    let later = c.a_mote_stays_timely.ensures.later in
    let n = c.loop-number.number in
    record {
      first = timely_later later (board_device c.turn.new.chip).image c.turn.new.node (16 * n) (16 * (n + 1)) (omega arith) c.in_ok-sent.ensures;
      second = timely_later later (board_device c.turn-in-loop-number.new.chip).image c.turn-in-loop-number.new.node (16 * n) (16 * (n + 1)) (omega arith) c.in_ok-answered.ensures;
    }

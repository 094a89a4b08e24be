use Rattle.dg_replay.proofs.player.format_first.Goals as goal

pub returns : goal.returns
returns g c =
    record {
      formatted = rw (← c.as_slice-name.ensures, ← c.as_slice-content.ensures) c.format_boards.ensures.formatted;
      calm = c.format_boards.ensures.calm;
      awake = c.format_boards.ensures.awake;
      others = c.format_boards.ensures.others;
      stopped = rw (← c.as_slice-name.ensures, ← c.as_slice-content.ensures) c.format_boards.ensures.stopped;
    }

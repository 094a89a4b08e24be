use Rattle.dg_replay.proofs.TextLemmas.{not_read, memory_or}
use Rattle.dg_replay.proofs.lines.next_words.Goals as goal

pub returns-in-Err : goal.returns-in-Err
returns-in-Err c = not_read c.args.place.now c.args.text.now c.args.number c.stop_at.result c.in-Err.fault (memory_or c.in-Err.fault) c.stop_at.ensures c.in-Err.ensures.read

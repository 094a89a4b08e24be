use Rattle.dg_mote.specs.Motes.{sent_in}
use Rattle.dg_serial.specs.Line.{stuffed_line}
use Rattle.dg_serial_base.specs.inner.Standing.{base_event_left, one_if}
use Rattle.dg_serial_base.proofs.LineLemmas.{pass_halts}
use Rattle.dg_serial_base.proofs.PlayLemmas.{pass_goes, send_counts, send_reads, write_calm, read_calm}
use Rattle.dg_serial_base.proofs.ResultLemmas.{on_ok}
use Rattle.dg_serial_base.proofs.playing.Player.pass.Goals as goal

pub returns-in-Ok-clause-ends : goal.returns-in-Ok-clause-ends
returns-in-Ok-clause-ends g c = λ a done went.
    pass_goes c.send.result a done _ (g.K.Sink.written c.send.new.out) (base_event_left c.tick.new.self (g.N.Nor.device c.tick.new.nor) (sent_in c.tick.new.outbox)) went c.send.ensures.fits
    (c.in-Ok.ensures.ends a.base a.store done went.there went.stood) c.send.ensures.sends

pub returns-in-Ok-clause-stood : goal.returns-in-Ok-clause-stood
returns-in-Ok-clause-stood g c = on_ok c.send.result c.in-Ok.ensures.stood

pub returns-in-Ok-clause-counts : goal.returns-in-Ok-clause-counts
returns-in-Ok-clause-counts g c =
    send_counts c.send.result (stuffed_line (one_if (sent_in c.tick.new.outbox))) (g.K.Sink.written c.args.out.now) (g.K.Sink.written c.send.new.out) _ _ c.in-Ok.ensures.counts c.send.ensures.sends

pub returns-in-Err-clause-ends : goal.returns-in-Err-clause-ends
returns-in-Err-clause-ends g c = λ a done went.
    pass_halts c.in-Err.end a done _ _ went (c.in-Err.ensures.ends a.base a.store done went.there went.stood)

pub returns-in-Err-clause-writes : goal.returns-in-Err-clause-writes
returns-in-Err-clause-writes g c = let r = c.requires.stood in write_calm c.in-Err.end r.0 r.1 r.2 _ r.3 _ _ (c.in-Err.ensures.ends r.0 r.1 r.2 r.3 r.4)

pub returns-in-Ok-clause-reads : goal.returns-in-Ok-clause-reads
returns-in-Ok-clause-reads g c = λ n.
    send_reads c.send.result (stuffed_line (one_if (sent_in c.tick.new.outbox))) (g.K.Sink.written c.args.out.now) (g.K.Sink.written c.send.new.out) n c.send.ensures.sends

pub returns-in-Err-clause-reads : goal.returns-in-Err-clause-reads
returns-in-Err-clause-reads g c = λ n. let r = c.requires.stood in read_calm c.in-Err.end r.0 r.1 r.2 _ r.3 _ n (c.in-Err.ensures.ends r.0 r.1 r.2 r.3 r.4)

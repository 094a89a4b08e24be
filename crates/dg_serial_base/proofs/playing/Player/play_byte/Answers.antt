use Rattle.dg_serial_base.specs.BaseEvents.{base_events_of}
use Rattle.dg_serial_base.specs.inner.Standing.{code_on_line}
use Rattle.dg_serial_base.proofs.PlayLemmas.{byte_goes}
use Rattle.dg_serial_base.proofs.playing.Player.play_byte.Goals as goal

pub returns-clause-ends : goal.returns-clause-ends
returns-clause-ends g c = λ a stream played.
    byte_goes c.play.result a stream c.args.byte (code_on_line (g.K.Sink.written c.play.new.out) c.play.new.self.running c.play.new.self.line (g.N.Nor.device c.play.new.nor)) c.feed-fed.new.self c.feed-fed.result
    (c.feed-fed.ensures.items stream played.line) c.play.ensures.line (c.play.ensures.ends a (base_events_of stream) played.went)

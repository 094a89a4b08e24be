use Rattle.dg_events.specs.Told.{nothing_told}
use Rattle.dg_events.proofs.CountLemmas.{all_here, all_other}
use Rattle.dg_events.proofs.event_counter.note_quiet_at.Goals as goal

pub returns-then-mote-motes : goal.returns-then-mote-motes
returns-then-mote-motes c past p h all =
    all_here c.args.motes.now c.args.mote _ c.note_quiet.new.self past c.args.event.now nothing_told p h c.requires.mote c.if-mote-motes.true c.note_quiet.ensures all

pub returns-else-mote-motes : goal.returns-else-mote-motes
returns-else-mote-motes c past p h all =
    all_other c.args.motes.now c.args.mote past c.args.event.now nothing_told p h c.requires.mote c.if-mote-motes.false all

use Rattle.std.proofs.Common.{[]}
use Rattle.dg_events.proofs.CountLemmas.{all_here, all_other}
use Rattle.dg_events.specs.declared.event_counts.EventCounts.{EventCounts}
use Rattle.dg_events.proofs.event_counter.note_at.Goals as goal

pub returns-then-mote-motes : goal.returns-then-mote-motes
returns-then-mote-motes c past p h all =
    let none : EventCounts = record { events = []; refused = []; cuts = 0; by_power = 0; by_order = 0; cut_by_power = 0; of_image = [] } in
    all_here c.args.motes.now c.args.mote none c.note.new.self past c.args.event.now c.args.told p h c.requires.mote c.if-mote-motes.true c.note.ensures all

pub returns-else-mote-motes : goal.returns-else-mote-motes
returns-else-mote-motes c past p h all =
    all_other c.args.motes.now c.args.mote past c.args.event.now c.args.told p h c.requires.mote c.if-mote-motes.false all

use Rattle.std.proofs.Common.{List, [], length, map, arith, refl, ◌∙◌}
use Rattle.dg_base.specs.Outside.{AtEnd}
use Rattle.dg_object.specs.Object.{Row}
use Rattle.dg_words.specs.Counts.{Rose}
use Rattle.dg_replay.specs.Ending.{script_of}
use Rattle.dg_world.proofs.EndureLemmas.{rose_later, rose_first}
use Rattle.dg_replay.proofs.RunLemmas.{replay_done, memory_unread, unread_seen, end_replayed, halt_failed, halt_over, halt_stopped}
use Rattle.dg_replay.specs.Items.{beginning_of}
use Rattle.dg_replay.specs.Shown.{stores_in, events_played}
use Rattle.dg_replay.proofs.SeenLemmas.{reached_unseen, script_seen}
use Rattle.dg_replay.proofs.WayLemmas.{replay_ended, replay_seen, stopped_unfailed}
use Rattle.dg_replay.proofs.call.replay.Goals as goal

pub end_script-requires : goal.end_script-requires
end_script-requires g c =
    let r = (c.in-Ok-play_lines.ensures.answer.2 []).3 in
    record { seats = r.stood.seats; links = r.stood.links; cut_fits = r.stood.cut_fits; world = r.last; kept = r.stood.world }

pub returns-in-Ok-play_lines-clause-done : goal.returns-in-Ok-play_lines-clause-done
returns-in-Ok-play_lines-clause-done g c = λ rest.
    let left = g.S.Source.left in
    let reads = g.S.Source.faults in
    let put = g.K.Sink.written in
    let writes = g.K.Sink.faults in
    let old = map g.N.Nor.device c.args.boards.now.items in
    let mid = map g.N.Nor.device c.play_lines.new.boards.items in
    let new = map g.N.Nor.device c.end_script.new.boards.items in
    let a = c.in-Ok-play_lines.ensures.answer in
    let read = Rose (reads c.args.input.now) (reads c.play_lines.new.input) in
    let failed = Rose (writes c.args.out.now) (writes c.end_script.new.out) in
    replay_ended {F = g.W.Watcher.saw c.args.watcher.now old old} {G = g.W.Watcher.saw c.play_lines.new.watcher old new} _ _ _ c.replays_keep_the_rules.ensures a.0 a.1
    (λ (table : List Row).
    let x = a.2 table in (
      omega (arith, x.1),
      end_replayed c.end_script.result a.0 (AtEnd (left c.play_lines.new.input)) old (map g.N.Nor.device c.end_script.new.boards.items) (put c.args.out.now) (put c.end_script.new.out) read failed x.0 x.1
          (script_seen _ _ _ _ _ _ _ _ _ (stores_in (beginning_of x.3.ground x.3.done).world) (events_played x.3.played) (λ f. g.W.Watcher.rests c.play_lines.new.watcher old mid new (stores_in (beginning_of x.3.ground x.3.done).world) (events_played x.3.played) (c.end_script.ensures.rested (length (stores_in (beginning_of x.3.ground x.3.done).world))) (x.3.seen f))
          (c.end_script.ensures.ends table (script_of a.0) a.0 old (put c.args.out.now) (writes c.args.out.now) c.in-Ok-play_lines.ensures.counts x.2 (reached_unseen x.3))),
    ))
    (λ other. c.in-Ok-play_lines.ensures.unread (λ e. cc)) (λ other. c.end_script.ensures.unfailed other ∙ c.in-Ok-play_lines.ensures.unfailed (λ e. cc))

pub returns-in-Ok-play_lines-clause-seen : goal.returns-in-Ok-play_lines-clause-seen
returns-in-Ok-play_lines-clause-seen g c = λ rest.
    let left = g.S.Source.left in
    let reads = g.S.Source.faults in
    let put = g.K.Sink.written in
    let writes = g.K.Sink.faults in
    let old = map g.N.Nor.device c.args.boards.now.items in
    let mid = map g.N.Nor.device c.play_lines.new.boards.items in
    let new = map g.N.Nor.device c.end_script.new.boards.items in
    let a = c.in-Ok-play_lines.ensures.answer in
    let read = Rose (reads c.args.input.now) (reads c.play_lines.new.input) in
    let failed = Rose (writes c.args.out.now) (writes c.end_script.new.out) in
    replay_seen {F = g.W.Watcher.saw c.args.watcher.now old old} {G = g.W.Watcher.saw c.play_lines.new.watcher old new} _ _ _ a.0 a.1
    (λ (table : List Row).
    let x = a.2 table in (
      omega (arith, x.1),
      end_replayed c.end_script.result a.0 (AtEnd (left c.play_lines.new.input)) old (map g.N.Nor.device c.end_script.new.boards.items) (put c.args.out.now) (put c.end_script.new.out) read failed x.0 x.1
          (script_seen _ _ _ _ _ _ _ _ _ (stores_in (beginning_of x.3.ground x.3.done).world) (events_played x.3.played) (λ f. g.W.Watcher.rests c.play_lines.new.watcher old mid new (stores_in (beginning_of x.3.ground x.3.done).world) (events_played x.3.played) (c.end_script.ensures.rested (length (stores_in (beginning_of x.3.ground x.3.done).world))) (x.3.seen f))
          (c.end_script.ensures.ends table (script_of a.0) a.0 old (put c.args.out.now) (writes c.args.out.now) c.in-Ok-play_lines.ensures.counts x.2 (reached_unseen x.3))),
    ))
    (λ other. c.in-Ok-play_lines.ensures.unread (λ e. cc)) (λ other. c.end_script.ensures.unfailed other ∙ c.in-Ok-play_lines.ensures.unfailed (λ e. cc))

pub returns-in-Err-ReadFault-clause-done : goal.returns-in-Err-ReadFault-clause-done
returns-in-Err-ReadFault-clause-done g c = λ rest.
    let left = g.S.Source.left in
    let reads = g.S.Source.faults in
    let put = g.K.Sink.written in
    let writes = g.K.Sink.faults in
    let old = map g.N.Nor.device c.args.boards.now.items in
    let e = c.in-Err-ReadFault in
    let failed = Rose (writes c.args.out.now) (writes c.play_lines.new.out) in
    let is = e.field-0-is in
    replay_ended _ _ _ c.replays_keep_the_rules.ensures e.ensures.answer.0 e.ensures.answer.1
    (λ (table : List Row). halt_failed e.field-0 e.ensures.answer.0 (AtEnd (left c.play_lines.new.input)) (Rose (reads c.args.input.now) (reads c.play_lines.new.input)) old (map g.N.Nor.device c.play_lines.new.boards.items)
    (put c.args.out.now) (put c.play_lines.new.out) failed failed is (e.ensures.answer.2 table))
    (λ other. absurd (other refl)) (λ other. e.ensures.unfailed (λ same. cc))

pub returns-in-Err-ReadFault-clause-seen : goal.returns-in-Err-ReadFault-clause-seen
returns-in-Err-ReadFault-clause-seen g c = λ rest.
    let left = g.S.Source.left in
    let reads = g.S.Source.faults in
    let put = g.K.Sink.written in
    let writes = g.K.Sink.faults in
    let old = map g.N.Nor.device c.args.boards.now.items in
    let e = c.in-Err-ReadFault in
    let failed = Rose (writes c.args.out.now) (writes c.play_lines.new.out) in
    let is = e.field-0-is in
    replay_seen _ _ _ e.ensures.answer.0 e.ensures.answer.1
    (λ (table : List Row). halt_failed e.field-0 e.ensures.answer.0 (AtEnd (left c.play_lines.new.input)) (Rose (reads c.args.input.now) (reads c.play_lines.new.input)) old (map g.N.Nor.device c.play_lines.new.boards.items)
    (put c.args.out.now) (put c.play_lines.new.out) failed failed is (e.ensures.answer.2 table))
    (λ other. absurd (other refl)) (λ other. e.ensures.unfailed (λ same. cc))

pub returns-in-Err-TooLong-clause-done : goal.returns-in-Err-TooLong-clause-done
returns-in-Err-TooLong-clause-done g c = λ rest.
    let left = g.S.Source.left in
    let reads = g.S.Source.faults in
    let put = g.K.Sink.written in
    let writes = g.K.Sink.faults in
    let old = map g.N.Nor.device c.args.boards.now.items in
    let e = c.in-Err-TooLong in
    let before = put c.args.out.now in
    let mid = put c.play_lines.new.out in
    let is = e.field-0-is in
    replay_ended _ _ _ c.replays_keep_the_rules.ensures e.ensures.answer.0 e.ensures.answer.1
    (λ (table : List Row). halt_over e.field-0 c.end_with.result e.ensures.answer.0 (AtEnd (left c.play_lines.new.input)) (Rose (reads c.args.input.now) (reads c.play_lines.new.input)) old (map g.N.Nor.device c.play_lines.new.boards.items)
    before mid (put c.end_with.new.out) (Rose (writes c.args.out.now) (writes c.play_lines.new.out)) (Rose (writes c.play_lines.new.out) (writes c.end_with.new.out)) (Rose (writes c.args.out.now) (writes c.end_with.new.out))
    is (rose_later _ _ _ e.ensures.counts) (e.ensures.answer.2 table) c.end_with.ensures.ends)
    (λ other. e.ensures.unread (λ same. cc)) (λ other. c.end_with.ensures.unfailed other ∙ e.ensures.unfailed (λ same. cc))

pub returns-in-Err-TooLong-clause-seen : goal.returns-in-Err-TooLong-clause-seen
returns-in-Err-TooLong-clause-seen g c = λ rest.
    let left = g.S.Source.left in
    let reads = g.S.Source.faults in
    let put = g.K.Sink.written in
    let writes = g.K.Sink.faults in
    let old = map g.N.Nor.device c.args.boards.now.items in
    let e = c.in-Err-TooLong in
    let before = put c.args.out.now in
    let mid = put c.play_lines.new.out in
    let is = e.field-0-is in
    replay_seen _ _ _ e.ensures.answer.0 e.ensures.answer.1
    (λ (table : List Row). halt_over e.field-0 c.end_with.result e.ensures.answer.0 (AtEnd (left c.play_lines.new.input)) (Rose (reads c.args.input.now) (reads c.play_lines.new.input)) old (map g.N.Nor.device c.play_lines.new.boards.items)
    before mid (put c.end_with.new.out) (Rose (writes c.args.out.now) (writes c.play_lines.new.out)) (Rose (writes c.play_lines.new.out) (writes c.end_with.new.out)) (Rose (writes c.args.out.now) (writes c.end_with.new.out))
    is (rose_later _ _ _ e.ensures.counts) (e.ensures.answer.2 table) c.end_with.ensures.ends)
    (λ other. e.ensures.unread (λ same. cc)) (λ other. c.end_with.ensures.unfailed other ∙ e.ensures.unfailed (λ same. cc))

pub returns-clause-done : goal.returns-clause-done
returns-clause-done g c = λ rest.
    let left = g.S.Source.left in
    let reads = g.S.Source.faults in
    let put = g.K.Sink.written in
    let writes = g.K.Sink.faults in
    let old = map g.N.Nor.device c.args.boards.now.items in
    let e = c.in-Err-Stopped in
    let before = put c.args.out.now in
    let mid = put c.play_lines.new.out in
    let is = e.field-0-is in
    let ends = c.end_at_stop.ensures.ends in
    replay_ended _ _ _ c.replays_keep_the_rules.ensures e.ensures.answer.0 e.ensures.answer.1
    (λ (table : List Row). halt_stopped e.field-0 e.stop c.end_at_stop.result e.ensures.answer.0 (AtEnd (left c.play_lines.new.input)) (Rose (reads c.args.input.now) (reads c.play_lines.new.input)) old (map g.N.Nor.device c.play_lines.new.boards.items)
    before mid (put c.end_at_stop.new.out) (Rose (writes c.args.out.now) (writes c.play_lines.new.out)) (Rose (writes c.play_lines.new.out) (writes c.end_at_stop.new.out)) (Rose (writes c.args.out.now) (writes c.end_at_stop.new.out))
    is (rose_first _ _ _ c.end_at_stop.ensures.counts) (rose_later _ _ _ e.ensures.counts) (e.ensures.answer.2 table) ends)
    (λ other. e.ensures.unread (λ same. cc)) (λ other. c.end_at_stop.ensures.unfailed other ∙ e.ensures.unfailed (stopped_unfailed e.field-0 e.stop c.end_at_stop.result _ _ _ is ends other))

pub returns-clause-seen : goal.returns-clause-seen
returns-clause-seen g c = λ rest.
    let left = g.S.Source.left in
    let reads = g.S.Source.faults in
    let put = g.K.Sink.written in
    let writes = g.K.Sink.faults in
    let old = map g.N.Nor.device c.args.boards.now.items in
    let e = c.in-Err-Stopped in
    let before = put c.args.out.now in
    let mid = put c.play_lines.new.out in
    let is = e.field-0-is in
    let ends = c.end_at_stop.ensures.ends in
    replay_seen _ _ _ e.ensures.answer.0 e.ensures.answer.1
    (λ (table : List Row). halt_stopped e.field-0 e.stop c.end_at_stop.result e.ensures.answer.0 (AtEnd (left c.play_lines.new.input)) (Rose (reads c.args.input.now) (reads c.play_lines.new.input)) old (map g.N.Nor.device c.play_lines.new.boards.items)
    before mid (put c.end_at_stop.new.out) (Rose (writes c.args.out.now) (writes c.play_lines.new.out)) (Rose (writes c.play_lines.new.out) (writes c.end_at_stop.new.out)) (Rose (writes c.args.out.now) (writes c.end_at_stop.new.out))
    is (rose_first _ _ _ c.end_at_stop.ensures.counts) (rose_later _ _ _ e.ensures.counts) (e.ensures.answer.2 table) ends)
    (λ other. e.ensures.unread (λ same. cc)) (λ other. c.end_at_stop.ensures.unfailed other ∙ e.ensures.unfailed (stopped_unfailed e.field-0 e.stop c.end_at_stop.result _ _ _ is ends other))

pub returns-in_default-clause-done : goal.returns-in_default-clause-done
returns-in_default-clause-done g c = λ rest.
    replay_done _ _ _ c.replays_keep_the_rules.ensures (λ table. memory_unread _)

pub returns-in_default-clause-seen : goal.returns-in_default-clause-seen
returns-in_default-clause-seen g c = λ rest table f.
    (memory_unread _, unread_seen table (g.W.Watcher.saw c.args.watcher.now (map g.N.Nor.device c.args.boards.now.items) (map g.N.Nor.device c.args.boards.now.items)) (script_of []) f)

pub returns-in-Ok-play_lines-clause-buffers : goal.returns-in-Ok-play_lines-clause-buffers
returns-in-Ok-play_lines-clause-buffers g c = let b = c.a_mote_buffers_little.ensures in (b.alive, b.values)

pub returns-in-Err-ReadFault-clause-buffers : goal.returns-in-Err-ReadFault-clause-buffers
returns-in-Err-ReadFault-clause-buffers g c = let b = c.a_mote_buffers_little.ensures in (b.alive, b.values)

pub returns-in-Err-TooLong-clause-buffers : goal.returns-in-Err-TooLong-clause-buffers
returns-in-Err-TooLong-clause-buffers g c = let b = c.a_mote_buffers_little.ensures in (b.alive, b.values)

pub returns-clause-buffers : goal.returns-clause-buffers
returns-clause-buffers g c = let b = c.a_mote_buffers_little.ensures in (b.alive, b.values)

pub returns-in_default-clause-buffers : goal.returns-in_default-clause-buffers
returns-in_default-clause-buffers g c = let b = c.a_mote_buffers_little.ensures in (b.alive, b.values)

use Rattle.dg_outside.specs.Outside.{output_of, with_input, with_output}
use Rattle.dg_serial_base.specs.BaseEvents.{Base}
use Rattle.dg_serial_base.proofs.EndLemmas.{line_causes, line_refused, fixed_at}
use Rattle.dg_serial_base.proofs.AgreeLemmas.{Laws, based_agrees}
use Rattle.dg_serial_base.proofs.ConsistentLemmas.{Laws as ConsistentLaws, based_consistent}
use Rattle.dg_serial_base.proofs.call.base.Goals as goal

pub returns : goal.returns
returns g c = record {
  does = λ rest.
      let b : Base = record { id = c.args.id; step = c.args.step; seed = c.args.seed } in
      let old = g.N.Nor.device c.args.nor.now in
      let new = g.N.Nor.device c.play_line-outcome.new.nor in
      let before = with_output (g.K.Sink, c.args.out.now) (with_input (g.S.Source, c.args.input.now) rest) in
      let after = with_output (g.K.Sink, c.finish.new.out) (with_input (g.S.Source, c.play_line-outcome.new.input) rest) in
      let between = output_of (g.K.Sink, c.play_line-outcome.new.out) in
      let r = c.play_line-outcome.result in
      let e = c.play_line-outcome.ensures in
      let w = c.a_mote_stays_well.ensures in
      let well : Laws = record { later = w.later; ticked = w.tick_effect; heard = w.frame_effect; reset = w.reset_effect; stopped = w.stopped } in
      record {
        based = λ s stands. record { outcome = r; between = between; line = e.ends s rest stands; told = c.finish.ensures.ends };
        refused = λ none. line_refused r c.finish.result old new before after between (e.refused none) c.finish.ensures.ends (fixed_at r c.finish.result c.finish.ensures.room);
        causes = line_causes r c.finish.result old new before after between e.counts e.writes e.reads c.finish.ensures.ends c.finish.ensures.counts;
        agrees = λ s table x. based_agrees well c.finish.result b s old new before after x table;
        consistent = λ s golden x row.
            let keep = c.trails_keep_consistency.ensures in
            let mote = c.a_mote_keeps_consistency.ensures in
            let laws : ConsistentLaws golden =
            record {
              boots = keep.boot golden;
              starts = keep.starts golden;
              ends = c.a_start_ends.ensures;
              row = c.a_whole_image_is_sound.ensures golden row;
              found = c.golden_can_be_started.ensures.sound;
              ticked = mote.ticked golden;
              heard = mote.heard golden;
              stopped = mote.stopped golden;
            } in
            based_consistent golden laws c.finish.result b s old new before after x;
      };
}

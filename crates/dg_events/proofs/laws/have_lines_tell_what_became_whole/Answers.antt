use Rattle.dg_rules.proofs.ChangesLemmas.{StepLaws}
use Rattle.dg_rules.specs.Events.{mote_of}
use Rattle.dg_events.proofs.PageStepLemmas.{declared_store, item_counts}
use Rattle.dg_events.proofs.WholeLemmas.{event_turns, whole_told, told_new, untold_same, told_once, told_count}
use Rattle.dg_events.proofs.laws.have_lines_tell_what_became_whole.Goals as goal

pub returns : goal.returns
returns c =
    let changes = c.what_a_mote_may_change.ensures in
    let packets = c.packets_come_in_frames.ensures in
    let laws : StepLaws = record {
      restarts = record { exactly = c.a_restart_is_for_the_order.ensures.exactly; nothing = c.a_restart_is_for_the_order.ensures.nothing };
      changes = record {
        ticks = changes.ticked;
        adverts = changes.advert;
        requests = changes.request;
        packets = changes.packet;
        refusals = c.a_frame_is_heard_in_silence.ensures.unchanged;
        comes_not = packets.ticked;
        comes = packets.heard;
      };
      ends = c.a_start_ends.ensures;
      rows = c.a_whole_image_is_sound.ensures;
    } in
    record {
      pages = λ w v item reports did. item_counts laws w item v reports did;
      declared = λ w v row reports did. declared_store w row v reports did;
      others = λ e lines p is. (event_turns laws e lines p is).others;
      told = λ e lines p is. whole_told p (mote_of e) (event_turns laws e lines p is);
      new = λ e lines p is. told_new p (mote_of e) (event_turns laws e lines p is);
      untold = λ e lines p is. untold_same p (mote_of e) (event_turns laws e lines p is);
      once = λ e lines p is. told_once p (mote_of e) (event_turns laws e lines p is);
      counted = λ e lines p is m image version there known. told_count p (mote_of e) (event_turns laws e lines p is) image version known m there;
    }

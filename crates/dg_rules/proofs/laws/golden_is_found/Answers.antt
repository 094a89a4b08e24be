use Rattle.dg_rules.proofs.ChangesLemmas.{StepLaws}
use Rattle.dg_rules.proofs.GoldenLemmas.{step_keeps_golden, finds_image, goes_on_finding}
use Rattle.dg_rules.proofs.laws.golden_is_found.Goals as goal

pub returns : goal.returns
returns c =
    let changes = c.what_a_mote_may_change.ensures in
    let packets = c.packets_come_in_frames.ensures in
    let laws : StepLaws = record {
      restarts = record { exactly = c.a_restart_is_for_the_order.ensures.exactly; nothing = c.a_restart_is_for_the_order.ensures.nothing };
      changes = record {
        ticks = changes.ticked;
        adverts = changes.advert;
        requests = changes.request;
        packets = changes.packet;
        refusals = c.a_frame_is_heard_in_silence.ensures.unchanged;
        comes_not = packets.ticked;
        comes = packets.heard;
      };
      ends = c.a_start_ends.ensures;
      rows = c.a_whole_image_is_sound.ensures;
    } in
    record {
      stepped = λ w v x reports golden fits did. step_keeps_golden laws w golden x v reports fits did;
      found = λ w e golden fits. finds_image laws w golden e fits;
      goes_on = λ w v x golden fits ends. goes_on_finding laws w golden x v fits ends;
    }

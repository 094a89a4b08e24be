use Rattle.dg_rules.proofs.ChangesLemmas.{StepLaws}
use Rattle.dg_rules.proofs.SoundLemmas.{RunLaws, run_legal, run_agrees, run_starts, run_keeps}
use Rattle.dg_rules.proofs.BeginLemmas.{from_fits, from_ends, from_halves}
use Rattle.dg_rules.proofs.laws.every_step_is_legal.Goals as goal

pub returns : goal.returns
returns c =
    let restart = c.a_restart_is_for_the_order.ensures in
    let changes = c.what_a_mote_may_change.ensures in
    let packets = c.packets_come_in_frames.ensures in
    let steps : StepLaws = record {
      restarts = record { exactly = restart.exactly; nothing = restart.nothing };
      changes = record {
        ticks = changes.ticked;
        adverts = changes.advert;
        requests = changes.request;
        packets = changes.packet;
        refusals = c.a_frame_is_heard_in_silence.ensures.unchanged;
        comes_not = packets.ticked;
        comes = packets.heard;
      };
      ends = c.a_start_ends.ensures;
      rows = c.a_whole_image_is_sound.ensures;
    } in
    let agreement = c.agreement_is_kept.ensures in
    let laws : RunLaws = record { steps = steps; stepped = agreement.stepped; declared = agreement.declared; starts = c.what_starts_is_a_row.ensures; keeps = c.versions_do_not_fall.ensures.versions } in
    record {
      legal = λ w v played from. run_legal laws w v played from.agrees from.off from.plays (from_fits w v played from);
      agrees = λ w v played from. let all = run_agrees laws w v played from.agrees from.off from.plays (from_fits w v played from) in (all, from_ends w v played from all);
      starts = λ w v played from. run_starts laws w v played from.agrees from.off from.plays (from_fits w v played from);
      keeps = λ w v played from. run_keeps laws w v played from.agrees from.off from.plays (from_fits w v played from);
      halves = λ w v played e from fits is_true.
          from_halves w v played from agreement.stopped (run_agrees laws w v played from.agrees from.off from.plays (from_fits w v played from)) e fits is_true;
    }

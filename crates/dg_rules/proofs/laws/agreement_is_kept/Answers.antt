use Rattle.dg_rules.proofs.EventLemmas.{RestartLaws}
use Rattle.dg_rules.proofs.AgreementLemmas.{VolumeLaws, MoteLaws, Laws}
use Rattle.dg_rules.proofs.AgreementSteps.{step_agrees, declare_agrees, stops_agree}
use Rattle.dg_rules.proofs.TimelyLemmas.{TimeLaws, step_timely}
use Rattle.dg_rules.proofs.laws.agreement_is_kept.Goals as goal

pub returns : goal.returns
returns c =
    let known = c.trails_keep_agreement.ensures in
    let well = c.a_mote_stays_well.ensures in
    let said = c.what_is_sent_is_read.ensures in
    let time = c.a_mote_stays_timely.ensures in
    let restarts : RestartLaws = record { exactly = c.a_restart_is_for_the_order.ensures.exactly; nothing = c.a_restart_is_for_the_order.ensures.nothing } in
    let volume : VolumeLaws = record { orders = known.order; injects = known.inject; boots = known.boot; ends = c.a_start_ends.ensures } in
    let mote : MoteLaws = record {
      restarts = restarts;
      begins = well.begins;
      later = well.later;
      reloads = well.reloaded;
      ticks = well.ticked;
      hears = well.heard;
      says = said.said;
      speaks_first = said.begins;
      speaks_ticked = said.ticked;
      speaks_heard = said.heard;
      bytes_fit = c.one_spelling.ensures.fits;
      wider = c.one_reading.ensures.wider;
    } in
    let laws : Laws = record { volume = volume; mote = mote } in
    let times : TimeLaws = record { begins = time.begins; later = time.later; reloads = time.reloaded; ticks = time.ticked; hears = time.heard } in
    record {
      stepped = λ w v x reports agrees fits honest did. step_agrees laws w x v reports agrees fits honest did;
      stopped = λ w e agrees fits honest. stops_agree laws w e agrees fits honest;
      declared = λ w v row reports agrees may did. declare_agrees w v row reports agrees may did;
      timely = λ w v x reports timely fits did. step_timely restarts times w timely x v reports fits did;
    }

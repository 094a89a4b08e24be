use Rattle.std.proofs.Common.{◌+◌, sym, subst, arith}
use Rattle.dg_quiet.specs.Times.{packet_window}
use Rattle.dg_quiet.specs.Noted.{Noted, with_packet}
use Rattle.dg_mote.specs.Model.{MoteStep}
use Rattle.dg_mote.specs.Rules.{AsksNotFor}
use Rattle.dg_mote.specs.declared.mote.Heard.{Heard}
use Rattle.dg_mote.proofs.QuietLemmas.{IsQuiet, IsNoted, got_noted, packet_shuts}
use Rattle.dg_mote.proofs.OverheardLemmas.{after_noted}
use Rattle.dg_mote.proofs.RulesLemmas.{packet_overheard}
use Rattle.dg_mote.proofs.rules.an_overheard_packet_keeps_a_mote_from_asking.Goals as goal

pub returns-clause-noted : goal.returns-clause-noted
returns-clause-noted c = packet_overheard

pub returns-clause-after : goal.returns-clause-after
returns-clause-after c m s timer now word bytes source image version page q content events e other is of_use between =
    let Noting : Noted → Type 0 = λ n. IsNoted n.packets image now in
    let x = record m { noted = with_packet m.noted now image } in
    let quiet : IsQuiet image now (now + packet_window) Noting (packet_shuts image now) x = record { noted = (now, got_noted m.noted.packets image now, omega arith); mode = subst (AsksNotFor image) (sym is) tt } in
    after_noted image now (now + packet_window) Noting (packet_shuts image now) m s now word bytes events
    (subst (λ (t : MoteStep Heard). IsQuiet image now (now + packet_window) Noting (packet_shuts image now) t.mote) (sym (packet_overheard m s timer now word bytes source image version page q content e other is of_use)) quiet) between

use Rattle.std.proofs.Common.{◌+◌, sym, subst, arith}
use Rattle.dg_quiet.specs.Times.{request_window}
use Rattle.dg_quiet.specs.Noted.{Noted, with_request}
use Rattle.dg_mote.specs.Model.{MoteStep}
use Rattle.dg_mote.specs.declared.mote.Heard.{Heard}
use Rattle.dg_mote.proofs.QuietLemmas.{IsQuiet, IsNoted, got_noted, request_shuts}
use Rattle.dg_mote.proofs.OverheardLemmas.{after_noted}
use Rattle.dg_mote.proofs.RulesLemmas.{request_overheard}
use Rattle.dg_mote.proofs.rules.an_overheard_request_keeps_a_mote_from_asking.Goals as goal

pub returns-clause-noted : goal.returns-clause-noted
returns-clause-noted c = request_overheard

pub returns-clause-after : goal.returns-clause-after
returns-clause-after c m s now word bytes source to image version page want events e other not_me of_use asks between =
    let Noting : Noted → Type 0 = λ n. IsNoted n.requests image now in
    let x = record m { noted = with_request m.noted now image } in
    let quiet : IsQuiet image now (now + request_window) Noting (request_shuts image now) x = record { noted = (now, got_noted m.noted.requests image now, omega arith); mode = asks } in
    after_noted image now (now + request_window) Noting (request_shuts image now) m s now word bytes events
    (subst (λ (t : MoteStep Heard). IsQuiet image now (now + request_window) Noting (request_shuts image now) t.mote) (sym (request_overheard m s now word bytes source to image version page want e other not_me of_use)) quiet) between

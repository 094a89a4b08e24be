use Rattle.std.proofs.Common.{map, length, refl, sym, ap, subst, ◌∙◌, inl, inr, arith}
use Rattle.std.specs.Prelude.{Some, Ok, Err}
use Rattle.std.proofs.lemmas.List.{length-map, with_items_is}
use Rattle.dg_base.specs.declared.answers.Status.TheVariants as status
use Rattle.dg_outside.specs.Outside.{Outside, output_of, link_state, outside}
use Rattle.dg_end.specs.Lines.{last_line, HasFixedLine}
use Rattle.dg_end.specs.declared.ends.End.TheVariants as ends
use Rattle.dg_serve.specs.Endings.{end_of_stop}
use Rattle.dg_serve.specs.Networks.{DoneBy, with_boards_for}
use Rattle.dg_serve.specs.Served.{Began}
use Rattle.dg_serve.specs.Services.{plan}
use Rattle.dg_serve.specs.Standings.{Standing, PartsGoOn, stretch, service_standing}
use Rattle.dg_serve.proofs.NetworkLemmas.{with_few, with_enough}
use Rattle.dg_serve.proofs.ServeLemmas.{outside_of, unread, began_done, began_stopped, linked_stopped, calm_stopped, ready_opened, parts_count, not_begun, told_end, not_told, told_link, link_told, hindered_linked, hindered_calm}
use Rattle.dg_serve.proofs.serving.serve.Goals as goal

pub open_service-requires : goal.open_service-requires
open_service-requires g c = record { allowed = c.requires.allowed }

pub run-requires-clause-allowed : goal.run-requires-clause-allowed
run-requires-clause-allowed g c = c.requires.allowed

pub run-requires-clause-few : goal.run-requires-clause-few
run-requires-clause-few g c = c.requires.turns

pub run-requires-clause-ready : goal.run-requires-clause-ready
run-requires-clause-ready g c = let boards = map g.N.Nor.device c.as_mut_slice.result.now in
    ready_opened c.args.profile.now c.args.seed _ _ _ (c.in-Ok.ensures.opens unread unread boards) (let n = length-map c.as_mut_slice.result.now g.N.Nor.device in let k = ap length c.as_mut_slice.ensures.value in omega (arith, n, k, c.args.boards.now.ok.0, c.if-have-from.false, c.from.ensures))

pub run-requires-clause-early : goal.run-requires-clause-early
run-requires-clause-early g c = (c.in-Ok.ensures.opens unread unread (map g.N.Nor.device c.as_mut_slice.result.now)).moment

pub returns-then-have-from-clause-served : goal.returns-then-have-from-clause-served
returns-then-have-from-clause-served g c = λ before after.
    let a : Outside = outside before (output_of (g.K.Sink, c.args.out.now)) (link_state (g.L.Link, c.args.link.now)) (g.C.Clock.told c.args.clock.now) (map g.N.Nor.device c.args.boards.now.items) in
    let b : Outside = outside after (output_of (g.K.Sink, c.fail.new.out)) (link_state (g.L.Link, c.args.link.now)) (g.C.Clock.told c.args.clock.now) (map g.N.Nor.device c.args.boards.now.items) in
    subst (λ k. DoneBy (with_boards_for k (Ok c.args.profile.now)) c.fail.result c.args.seed c.args.turns a b) (let n = length-map c.args.boards.now.items g.N.Nor.device in omega (arith, n, c.args.boards.now.ok.0))
    (with_few c.args.profile.now c.len-have.result c.fail.result c.args.seed c.args.turns a b (omega (arith, c.from.ensures, c.if-have-from.true)) (record { told = c.fail.ensures.ends; same = refl }))

pub returns-then-have-from-clause-link_fault : goal.returns-then-have-from-clause-link_fault
returns-then-have-from-clause-link_fault g c = λ is. absurd (not_told c.fail.result status.NoBoard status.LinkFault (last_line (ends.NoBoard c.args.profile.now.motes c.len-have.result)) (output_of (g.K.Sink, c.args.out.now)) (output_of (g.K.Sink, c.fail.new.out)) (λ e. cc) (λ e. cc) (λ e. cc) c.fail.ensures.ends is)

pub returns-in-Err-clause-served : goal.returns-in-Err-clause-served
returns-in-Err-clause-served g c = λ before after.
    let a : Outside = outside before (output_of (g.K.Sink, c.args.out.now)) (link_state (g.L.Link, c.args.link.now)) (g.C.Clock.told c.args.clock.now) (map g.N.Nor.device c.args.boards.now.items) in
    let m : Outside = outside after (output_of (g.K.Sink, c.open_service.new.out)) (link_state (g.L.Link, c.open_service.new.link)) (g.C.Clock.told c.open_service.new.clock) (map g.N.Nor.device c.args.boards.now.items) in
    with_enough c.args.profile.now (length (map g.N.Nor.device c.args.boards.now.items)) c.fail-in-Err.result c.args.seed c.args.turns a _ (let n = length-map c.args.boards.now.items g.N.Nor.device in omega (arith, n, c.args.boards.now.ok.0, c.if-have-from.false, c.from.ensures))
    (inl (not_begun c.in-Err.stop c.fail-in-Err.result c.args.profile.now a m (output_of (g.K.Sink, c.fail-in-Err.new.out)) refl (c.in-Err.ensures.opens before after (map g.N.Nor.device c.args.boards.now.items)) (told_end c.fail-in-Err.result c.from-in-Err.result (end_of_stop c.in-Err.stop) (output_of (g.K.Sink, c.open_service.new.out)) (output_of (g.K.Sink, c.fail-in-Err.new.out)) c.from-in-Err.ensures c.fail-in-Err.ensures.ends)))

pub returns-in-Err-clause-link_fault : goal.returns-in-Err-clause-link_fault
returns-in-Err-clause-link_fault g c = λ is.
    let a : Outside = outside unread (output_of (g.K.Sink, c.args.out.now)) (link_state (g.L.Link, c.args.link.now)) (g.C.Clock.told c.args.clock.now) (map g.N.Nor.device c.args.boards.now.items) in
    let m : Outside = outside unread (output_of (g.K.Sink, c.open_service.new.out)) (link_state (g.L.Link, c.open_service.new.link)) (g.C.Clock.told c.open_service.new.clock) (map g.N.Nor.device c.args.boards.now.items) in
    hindered_linked c.in-Err.stop c.args.profile.now a m (c.in-Err.ensures.opens unread unread (map g.N.Nor.device c.args.boards.now.items)).0 (told_link c.in-Err.stop c.fail-in-Err.result _ _ (told_end c.fail-in-Err.result c.from-in-Err.result (end_of_stop c.in-Err.stop) (output_of (g.K.Sink, c.open_service.new.out)) (output_of (g.K.Sink, c.fail-in-Err.new.out)) c.from-in-Err.ensures c.fail-in-Err.ensures.ends) is)

pub returns-in-Err-clause-unfailed : goal.returns-in-Err-clause-unfailed
returns-in-Err-clause-unfailed g c = λ other.
    let a : Outside = outside unread (output_of (g.K.Sink, c.args.out.now)) (link_state (g.L.Link, c.args.link.now)) (g.C.Clock.told c.args.clock.now) (map g.N.Nor.device c.args.boards.now.items) in
    let m : Outside = outside unread (output_of (g.K.Sink, c.open_service.new.out)) (link_state (g.L.Link, c.open_service.new.link)) (g.C.Clock.told c.open_service.new.clock) (map g.N.Nor.device c.args.boards.now.items) in
    hindered_calm c.in-Err.stop c.args.profile.now a m (c.in-Err.ensures.opens unread unread (map g.N.Nor.device c.args.boards.now.items)).0 (link_told c.in-Err.stop c.fail-in-Err.result _ _ (told_end c.fail-in-Err.result c.from-in-Err.result (end_of_stop c.in-Err.stop) (output_of (g.K.Sink, c.open_service.new.out)) (output_of (g.K.Sink, c.fail-in-Err.new.out)) c.from-in-Err.ensures c.fail-in-Err.ensures.ends) other)

pub returns-in-Err-clause-writes : goal.returns-in-Err-clause-writes
returns-in-Err-clause-writes g c = omega (arith, c.open_service.ensures.writes, c.fail-in-Err.ensures.counts)

pub returns-in-Ok-run-clause-served : goal.returns-in-Ok-run-clause-served
returns-in-Ok-run-clause-served g c = λ before after.
    let a : Outside = outside before (output_of (g.K.Sink, c.args.out.now)) (link_state (g.L.Link, c.args.link.now)) (g.C.Clock.told c.args.clock.now) (map g.N.Nor.device c.args.boards.now.items) in
    let p : Standing = service_standing (c.in-Ok.service, (map g.N.Nor.device c.args.boards.now.items)) (g.K.Sink, c.open_service.new.out) (g.L.Link, c.open_service.new.link) (g.C.Clock, c.open_service.new.clock) in
    let q : Standing = service_standing (c.run.new.self, map g.N.Nor.device c.run.new.boards) (g.K.Sink, c.run.new.out) (g.L.Link, c.run.new.link) (g.C.Clock, c.run.new.clock) in
    let goes = subst (λ bs. PartsGoOn (Ok tt) c.args.profile.now.motes c.args.profile.now.links (stretch 0 c.args.profile.now.motes (plan c.args.profile.now.motes c.args.turns)) (service_standing (c.in-Ok.service, map g.N.Nor.device bs) (g.K.Sink, c.open_service.new.out) (g.L.Link, c.open_service.new.link) (g.C.Clock, c.open_service.new.clock)) q) c.as_mut_slice.ensures.value c.in-Ok-run.ensures.goes in
    let back = with_items_is c.args.boards.now c.run.new.boards (sym (length-map c.run.new.boards g.N.Nor.device) ∙ parts_count (Ok tt) c.args.profile.now.motes c.args.profile.now.links (stretch 0 c.args.profile.now.motes (plan c.args.profile.now.motes c.args.turns)) p q goes ∙ length-map c.args.boards.now.items g.N.Nor.device ∙ sym c.args.boards.now.ok.0) in
    with_enough c.args.profile.now (length (map g.N.Nor.device c.args.boards.now.items)) status.Done c.args.seed c.args.turns a _ (let n = length-map c.args.boards.now.items g.N.Nor.device in omega (arith, n, c.args.boards.now.ok.0, c.if-have-from.false, c.from.ensures))
    (inr (subst (λ bs. Began status.Done c.args.profile.now c.args.seed c.args.turns a (record (outside_of after q) { boards = map g.N.Nor.device bs })) (sym back) (began_done c.args.profile.now c.args.seed c.args.turns a after p q (c.in-Ok.ensures.opens before after (map g.N.Nor.device c.args.boards.now.items)) goes)))

pub returns-in-Ok-run-clause-unfailed : goal.returns-in-Ok-run-clause-unfailed
returns-in-Ok-run-clause-unfailed g c = λ other.
    let p : Standing = service_standing (c.in-Ok.service, (map g.N.Nor.device c.args.boards.now.items)) (g.K.Sink, c.open_service.new.out) (g.L.Link, c.open_service.new.link) (g.C.Clock, c.open_service.new.clock) in
    let q : Standing = service_standing (c.run.new.self, map g.N.Nor.device c.run.new.boards) (g.K.Sink, c.run.new.out) (g.L.Link, c.run.new.link) (g.C.Clock, c.run.new.clock) in
    let goes = subst (λ bs. PartsGoOn (Ok tt) c.args.profile.now.motes c.args.profile.now.links (stretch 0 c.args.profile.now.motes (plan c.args.profile.now.motes c.args.turns)) (service_standing (c.in-Ok.service, map g.N.Nor.device bs) (g.K.Sink, c.open_service.new.out) (g.L.Link, c.open_service.new.link) (g.C.Clock, c.open_service.new.clock)) q) c.as_mut_slice.ensures.value c.in-Ok-run.ensures.goes in
    goes.failures ∙ (c.in-Ok.ensures.opens unread unread (map g.N.Nor.device c.args.boards.now.items)).failures

pub returns-in-Ok-run-clause-writes : goal.returns-in-Ok-run-clause-writes
returns-in-Ok-run-clause-writes g c = let p : Standing = service_standing (c.in-Ok.service, (map g.N.Nor.device c.args.boards.now.items)) (g.K.Sink, c.open_service.new.out) (g.L.Link, c.open_service.new.link) (g.C.Clock, c.open_service.new.clock) in
    let q : Standing = service_standing (c.run.new.self, map g.N.Nor.device c.run.new.boards) (g.K.Sink, c.run.new.out) (g.L.Link, c.run.new.link) (g.C.Clock, c.run.new.clock) in
    let goes = subst (λ bs. PartsGoOn (Ok tt) c.args.profile.now.motes c.args.profile.now.links (stretch 0 c.args.profile.now.motes (plan c.args.profile.now.motes c.args.turns)) (service_standing (c.in-Ok.service, map g.N.Nor.device bs) (g.K.Sink, c.open_service.new.out) (g.L.Link, c.open_service.new.link) (g.C.Clock, c.open_service.new.clock)) q) c.as_mut_slice.ensures.value c.in-Ok-run.ensures.goes in
    let n = goes.faults in omega (arith, n, c.open_service.ensures.writes)

pub returns-in-Ok-run-clause-sends : goal.returns-in-Ok-run-clause-sends
returns-in-Ok-run-clause-sends g c = let p : Standing = service_standing (c.in-Ok.service, (map g.N.Nor.device c.args.boards.now.items)) (g.K.Sink, c.open_service.new.out) (g.L.Link, c.open_service.new.link) (g.C.Clock, c.open_service.new.clock) in
    let q : Standing = service_standing (c.run.new.self, map g.N.Nor.device c.run.new.boards) (g.K.Sink, c.run.new.out) (g.L.Link, c.run.new.link) (g.C.Clock, c.run.new.clock) in
    let goes = subst (λ bs. PartsGoOn (Ok tt) c.args.profile.now.motes c.args.profile.now.links (stretch 0 c.args.profile.now.motes (plan c.args.profile.now.motes c.args.turns)) (service_standing (c.in-Ok.service, map g.N.Nor.device bs) (g.K.Sink, c.open_service.new.out) (g.L.Link, c.open_service.new.link) (g.C.Clock, c.open_service.new.clock)) q) c.as_mut_slice.ensures.value c.in-Ok-run.ensures.goes in
    let n = goes.failures in omega (arith, n, c.open_service.ensures.sends)

pub returns-clause-served : goal.returns-clause-served
returns-clause-served g c = λ before after.
    let a : Outside = outside before (output_of (g.K.Sink, c.args.out.now)) (link_state (g.L.Link, c.args.link.now)) (g.C.Clock.told c.args.clock.now) (map g.N.Nor.device c.args.boards.now.items) in
    let p : Standing = service_standing (c.in-Ok.service, (map g.N.Nor.device c.args.boards.now.items)) (g.K.Sink, c.open_service.new.out) (g.L.Link, c.open_service.new.link) (g.C.Clock, c.open_service.new.clock) in
    let q : Standing = service_standing (c.run.new.self, map g.N.Nor.device c.run.new.boards) (g.K.Sink, c.run.new.out) (g.L.Link, c.run.new.link) (g.C.Clock, c.run.new.clock) in
    let goes = subst (λ bs. PartsGoOn (Err c.in-Err-run.stop) c.args.profile.now.motes c.args.profile.now.links (stretch 0 c.args.profile.now.motes (plan c.args.profile.now.motes c.args.turns)) (service_standing (c.in-Ok.service, map g.N.Nor.device bs) (g.K.Sink, c.open_service.new.out) (g.L.Link, c.open_service.new.link) (g.C.Clock, c.open_service.new.clock)) q) c.as_mut_slice.ensures.value c.in-Err-run.ensures.goes in
    let back = with_items_is c.args.boards.now c.run.new.boards (sym (length-map c.run.new.boards g.N.Nor.device) ∙ parts_count (Err c.in-Err-run.stop) c.args.profile.now.motes c.args.profile.now.links (stretch 0 c.args.profile.now.motes (plan c.args.profile.now.motes c.args.turns)) p q goes ∙ length-map c.args.boards.now.items g.N.Nor.device ∙ sym c.args.boards.now.ok.0) in
    let told = output_of (g.K.Sink, c.fail-in-Err-run.new.out) in
    with_enough c.args.profile.now (length (map g.N.Nor.device c.args.boards.now.items)) c.fail-in-Err-run.result c.args.seed c.args.turns a _ (let n = length-map c.args.boards.now.items g.N.Nor.device in omega (arith, n, c.args.boards.now.ok.0, c.if-have-from.false, c.from.ensures))
    (inr (subst (λ bs. Began c.fail-in-Err-run.result c.args.profile.now c.args.seed c.args.turns a (record (outside_of after q) { output = told; boards = map g.N.Nor.device bs })) (sym back) (began_stopped c.args.profile.now c.args.seed c.args.turns a after p q (c.in-Ok.ensures.opens before after (map g.N.Nor.device c.args.boards.now.items)) c.in-Err-run.stop c.fail-in-Err-run.result told goes (told_end c.fail-in-Err-run.result c.from-in-Err-run.result (end_of_stop c.in-Err-run.stop) (output_of (g.K.Sink, c.run.new.out)) (output_of (g.K.Sink, c.fail-in-Err-run.new.out)) c.from-in-Err-run.ensures c.fail-in-Err-run.ensures.ends) (λ fixed. c.fail-in-Err-run.ensures.room (subst HasFixedLine (sym c.from-in-Err-run.ensures) fixed)))))

pub returns-clause-link_fault : goal.returns-clause-link_fault
returns-clause-link_fault g c = λ is.
    let a : Outside = outside unread (output_of (g.K.Sink, c.args.out.now)) (link_state (g.L.Link, c.args.link.now)) (g.C.Clock.told c.args.clock.now) (map g.N.Nor.device c.args.boards.now.items) in
    let p : Standing = service_standing (c.in-Ok.service, (map g.N.Nor.device c.args.boards.now.items)) (g.K.Sink, c.open_service.new.out) (g.L.Link, c.open_service.new.link) (g.C.Clock, c.open_service.new.clock) in
    let q : Standing = service_standing (c.run.new.self, map g.N.Nor.device c.run.new.boards) (g.K.Sink, c.run.new.out) (g.L.Link, c.run.new.link) (g.C.Clock, c.run.new.clock) in
    let goes = subst (λ bs. PartsGoOn (Err c.in-Err-run.stop) c.args.profile.now.motes c.args.profile.now.links (stretch 0 c.args.profile.now.motes (plan c.args.profile.now.motes c.args.turns)) (service_standing (c.in-Ok.service, map g.N.Nor.device bs) (g.K.Sink, c.open_service.new.out) (g.L.Link, c.open_service.new.link) (g.C.Clock, c.open_service.new.clock)) q) c.as_mut_slice.ensures.value c.in-Err-run.ensures.goes in
    linked_stopped c.args.profile.now c.args.seed c.args.turns a unread p q (c.in-Ok.ensures.opens unread unread (map g.N.Nor.device c.args.boards.now.items)) c.in-Err-run.stop goes (told_link c.in-Err-run.stop c.fail-in-Err-run.result _ _ (told_end c.fail-in-Err-run.result c.from-in-Err-run.result (end_of_stop c.in-Err-run.stop) (output_of (g.K.Sink, c.run.new.out)) (output_of (g.K.Sink, c.fail-in-Err-run.new.out)) c.from-in-Err-run.ensures c.fail-in-Err-run.ensures.ends) is)

pub returns-clause-unfailed : goal.returns-clause-unfailed
returns-clause-unfailed g c = λ other.
    let a : Outside = outside unread (output_of (g.K.Sink, c.args.out.now)) (link_state (g.L.Link, c.args.link.now)) (g.C.Clock.told c.args.clock.now) (map g.N.Nor.device c.args.boards.now.items) in
    let p : Standing = service_standing (c.in-Ok.service, (map g.N.Nor.device c.args.boards.now.items)) (g.K.Sink, c.open_service.new.out) (g.L.Link, c.open_service.new.link) (g.C.Clock, c.open_service.new.clock) in
    let q : Standing = service_standing (c.run.new.self, map g.N.Nor.device c.run.new.boards) (g.K.Sink, c.run.new.out) (g.L.Link, c.run.new.link) (g.C.Clock, c.run.new.clock) in
    let goes = subst (λ bs. PartsGoOn (Err c.in-Err-run.stop) c.args.profile.now.motes c.args.profile.now.links (stretch 0 c.args.profile.now.motes (plan c.args.profile.now.motes c.args.turns)) (service_standing (c.in-Ok.service, map g.N.Nor.device bs) (g.K.Sink, c.open_service.new.out) (g.L.Link, c.open_service.new.link) (g.C.Clock, c.open_service.new.clock)) q) c.as_mut_slice.ensures.value c.in-Err-run.ensures.goes in
    calm_stopped c.args.profile.now c.args.seed c.args.turns a unread p q (c.in-Ok.ensures.opens unread unread (map g.N.Nor.device c.args.boards.now.items)) c.in-Err-run.stop goes (link_told c.in-Err-run.stop c.fail-in-Err-run.result _ _ (told_end c.fail-in-Err-run.result c.from-in-Err-run.result (end_of_stop c.in-Err-run.stop) (output_of (g.K.Sink, c.run.new.out)) (output_of (g.K.Sink, c.fail-in-Err-run.new.out)) c.from-in-Err-run.ensures c.fail-in-Err-run.ensures.ends) other)

pub returns-clause-writes : goal.returns-clause-writes
returns-clause-writes g c = let p : Standing = service_standing (c.in-Ok.service, (map g.N.Nor.device c.args.boards.now.items)) (g.K.Sink, c.open_service.new.out) (g.L.Link, c.open_service.new.link) (g.C.Clock, c.open_service.new.clock) in
    let q : Standing = service_standing (c.run.new.self, map g.N.Nor.device c.run.new.boards) (g.K.Sink, c.run.new.out) (g.L.Link, c.run.new.link) (g.C.Clock, c.run.new.clock) in
    let goes = subst (λ bs. PartsGoOn (Err c.in-Err-run.stop) c.args.profile.now.motes c.args.profile.now.links (stretch 0 c.args.profile.now.motes (plan c.args.profile.now.motes c.args.turns)) (service_standing (c.in-Ok.service, map g.N.Nor.device bs) (g.K.Sink, c.open_service.new.out) (g.L.Link, c.open_service.new.link) (g.C.Clock, c.open_service.new.clock)) q) c.as_mut_slice.ensures.value c.in-Err-run.ensures.goes in
    let n = goes.counts.faults_rise in omega (arith, n, c.open_service.ensures.writes, c.fail-in-Err-run.ensures.counts)

pub returns-clause-sends : goal.returns-clause-sends
returns-clause-sends g c = let p : Standing = service_standing (c.in-Ok.service, (map g.N.Nor.device c.args.boards.now.items)) (g.K.Sink, c.open_service.new.out) (g.L.Link, c.open_service.new.link) (g.C.Clock, c.open_service.new.clock) in
    let q : Standing = service_standing (c.run.new.self, map g.N.Nor.device c.run.new.boards) (g.K.Sink, c.run.new.out) (g.L.Link, c.run.new.link) (g.C.Clock, c.run.new.clock) in
    let goes = subst (λ bs. PartsGoOn (Err c.in-Err-run.stop) c.args.profile.now.motes c.args.profile.now.links (stretch 0 c.args.profile.now.motes (plan c.args.profile.now.motes c.args.turns)) (service_standing (c.in-Ok.service, map g.N.Nor.device bs) (g.K.Sink, c.open_service.new.out) (g.L.Link, c.open_service.new.link) (g.C.Clock, c.open_service.new.clock)) q) c.as_mut_slice.ensures.value c.in-Err-run.ensures.goes in
    let n = goes.counts.failures_rise in omega (arith, n, c.open_service.ensures.sends)

pub returns-then-have-from-clause-buffers : goal.returns-then-have-from-clause-buffers
returns-then-have-from-clause-buffers g c = let b = c.a_mote_buffers_little.ensures in (b.alive, b.values)

pub returns-in-Err-clause-buffers : goal.returns-in-Err-clause-buffers
returns-in-Err-clause-buffers g c = let b = c.a_mote_buffers_little.ensures in (b.alive, b.values)

pub returns-in-Ok-run-clause-buffers : goal.returns-in-Ok-run-clause-buffers
returns-in-Ok-run-clause-buffers g c = let b = c.a_mote_buffers_little.ensures in (b.alive, b.values)

pub returns-clause-buffers : goal.returns-clause-buffers
returns-clause-buffers g c = let b = c.a_mote_buffers_little.ensures in (b.alive, b.values)

use Rattle.std.proofs.Common.{◌≡◌, ◌≢◌, ◌+◌, ◌<◌, ◌^◌, List, length, map, option_copied, Bool, true, ℕ, Ok, Err, sym, subst, inl, inr, ⊎_elim, refl, ap, ◌∙◌, arith}
use Rattle.std.specs.Prelude.{Some, false, slice_get, slice_set, slice_index_or}
use Rattle.std.specs.Vec.{with_item}
use Rattle.std.proofs.lemmas.List.{map-set, length-map}
use Rattle.dg_control.specs.Store.{IsOrderlyChip}
use Rattle.dg_rules.specs.World.{World as RuleWorld}
use Rattle.dg_rules.specs.Events.{mote_of, dt_of}
use Rattle.dg_mote.specs.Motes.{sent_in}
use Rattle.dg_script.specs.declared.report.Report.{Report}
use Rattle.dg_world.specs.Deployments.{deployed}
use Rattle.dg_world.specs.Known.{known_of, OrderTakes, InjectTakes}
use Rattle.dg_world.specs.inner.Sees.{KnownAfter}
use Rattle.dg_world.specs.Applying.{step_of}
use Rattle.dg_world.specs.inner.Outcomes.{halt_of}
use Rattle.dg_world.specs.Worlds.{IsWorld}
use Rattle.dg_world.specs.declared.world.World.{World}
use Rattle.dg_world.proofs.ApplyLemmas.{ApplyMade, full_done, lacking_done, made_done}
use Rattle.dg_world.proofs.DoneLemmas.{event_mote}
use Rattle.dg_world.proofs.PlaceLemmas.{reserved, got_or, sent_at, stands_at, runs_at, applied_at, halts_there, chip_at, knows_at, said_at}
use Rattle.dg_world.proofs.UnseenLemmas.{put_back, not_err}
use Rattle.dg_world.proofs.KnownLemmas.{known_then, on_control}
use Rattle.dg_world.proofs.world.World.apply_parts.Goals as goal

pub returns-then-self-ge-MOST_EVENTS : goal.returns-then-self-ge-MOST_EVENTS
returns-then-self-ge-MOST_EVENTS g c = full_done _ c.args.loud _ (omega (arith, c.if-self-ge-MOST_EVENTS.true))

pub returns-then-is_err : goal.returns-then-is_err
returns-then-is_err g c =
    lacking_done _ c.args.loud _ _ c.if-self-ge-MOST_EVENTS.false refl refl (λ w is. reserved c.args.self.now c.reserve.new.self _ w c.reserve.ensures.same is) (λ m. refl)

pub returns-then-is_err-2 : goal.returns-then-is_err-2
returns-then-is_err-2 g c =
    lacking_done _ c.args.loud _ _ c.if-self-ge-MOST_EVENTS.false refl c.reserve-2.ensures.items (λ w is. reserved c.args.self.now c.reserve.new.self _ w c.reserve.ensures.same is) (λ m. refl)

pub invariant_of-context : goal.invariant_of-context
invariant_of-context g c =
    let x = c.requires.world in
    let in_world = event_mote (length x.0.sites) c.args.event.now x.2.event in
    record {
      in_world = omega (arith, c.mote_at-mote.ensures, in_world, x.1.few_motes);
      early = omega (arith, x.1.moment, x.1.events, x.1.early, c.if-self-ge-MOST_EVENTS.false, c.from.ensures, c.dt_at.type_inv);
    }

pub step_at-requires-clause-fits : goal.step_at-requires-clause-fits
step_at-requires-clause-fits g c =
    let x = c.requires.world in
    (length x.0.sites, x.2, x.1.few_motes)

pub step_at-requires-clause-may : goal.step_at-requires-clause-may
step_at-requires-clause-may g c =
    let device = g.N.Nor.device in
    let x = c.requires.world in
    let boards = c.args.boards.now.items in
    let i = c.from-index.result in
    let in_world = event_mote (length x.0.sites) c.args.event.now x.2.event in
    let known : i < length x.0.sites = omega (arith, c.from-index.ensures ∙ c.mote_at-mote.ensures, in_world) in
    let wide : i < length boards = omega (arith, known, x.1.boards_enough, length-map boards device) in
    let here = got_or device boards i c.index_mut-board.result.now wide ∙ ap (λ (y : g.row.N.Denot). Some (device y)) (sym c.index_mut-board.ensures.value) in
    record {
      kind = c.kind_of-kind.ensures;
      here = c.mote_at-mote.ensures;
      mote = runs_at c.args.self.now (map device boards) x.0 i _ _ _ x.1 known here c.index_mut-runs.ensures.value (omega arith);
      known = λ is_known. chip_at c.args.self.now (map device boards) x.0 i c.mote_at-mote.result _ x.1 c.from-index.ensures known here (sym c.has-known.ensures.value ∙ is_known);
    }

pub send-requires-clause-known : goal.send-requires-clause-known
send-requires-clause-known g c =
    let x = c.requires.world in
    let in_world = event_mote (length x.0.sites) c.args.event.now x.2.event in
    omega (arith, c.mote_at-mote.ensures, in_world, x.1.few_motes)

pub has-known-requires : goal.has-known-requires
has-known-requires g c =
    let x = c.requires.world in
    let in_world = event_mote (length x.0.sites) c.args.event.now x.2.event in
    omega (arith, c.mote_at-mote.ensures, in_world, x.1.few_motes)

pub note-requires : goal.note-requires
note-requires g c =
    let x = c.requires.world in
    let in_world = event_mote (length x.0.sites) c.args.event.now x.2.event in
    omega (arith, c.mote_at-mote.ensures, in_world, x.1.few_motes)

pub returns-in-Ok : goal.returns-in-Ok
returns-in-Ok g c =
    let device = g.N.Nor.device in
    let event = c.args.event.now in
    let x = step_of event (option_copied c.args.cut) in
    let begun = c.args.self.now in
    let v : World = record begun { shared = record begun.shared { air = c.reserve.new.self } } in
    let boards = c.args.boards.now.items in
    let bs = map device boards in
    let i = c.from-index.result in
    let at = c.from-index.ensures ∙ c.mote_at-mote.ensures in
    let asked = c.requires.world in
    let is_roomy : IsWorld v bs asked.0 = reserved begun c.reserve.new.self bs asked.0 c.reserve.ensures.same asked.1 in
    let in_world = event_mote (length asked.0.sites) event asked.2.event in
    let a = device c.index_mut-board.result.now in
    let b = device c.step_at.new.board in
    let t = c.step_at.new.outcome in
    let within : (w : RuleWorld) → IsWorld v bs w → i < length w.sites = λ w is. omega (arith, at, in_world, is_roomy.motes, is.motes) in
    let wide : i < length boards = omega (arith, within asked.0 is_roomy, is_roomy.boards_enough, length-map boards device) in
    let here : slice_get bs i ≡ Some a = got_or device boards i c.index_mut-board.result.now wide ∙ ap (λ (y : g.row.N.Denot). Some (device y)) (sym c.index_mut-board.ensures.value) in
    let put = map-set device boards i c.step_at.new.board in
    let now : (w : RuleWorld) → IsWorld v bs w → v.moment + c.from.result ≡ w.moment + dt_of event = λ w is. omega (arith, is.moment, c.from.ensures, c.dt_at.ensures) in
    let stands = λ (w : RuleWorld) (is : IsWorld v bs w). stands_at v bs w i (mote_of event) _ c.index_mut-runs.result.now is at (within w is) here c.index_mut-runs.ensures.value in
    let is_known : (m : ℕ) → m ≡ mote_of event → known_of v m ≡ true → c.has-known.result ≡ true = λ m same known. c.has-known.ensures.value ∙ ap (λ (j : ℕ). known_of v j) (c.mote_at-mote.ensures ∙ sym same) ∙ known in
    let told = c.reserve-2.new.self.items in
    let few = c.if-self-ge-MOST_EVENTS.false in
    let law = c.consistency_is_kept.ensures in
    let first = deployed begun bs c.args.out.now.items in
    let last = deployed (record { moment = v.moment + c.from.result; events = v.events + 1; shared = record v.shared { air = c.send.new.self }; motes = with_item v.motes i c.step_at.new.runs; known = c.note.new.boards; outcome = record c.step_at.new.outcome { untold = c.self-1.given.0 } }) (map device (slice_set boards i c.step_at.new.board)) c.step_at.new.out.items in
    let Made : List Report → Type 0 = λ old. ApplyMade (Ok tt) x c.args.loud (deployed v bs old) last in
    let made : Made told = record {
      ends = λ w is fits.
          let short : dt_of event < 2 ^ 32 = omega (arith, c.dt_at.ensures, c.dt_at.type_inv) in
          let stepped = c.in-Ok.ensures.steps w fits (record { shared = is.shared; stands = stands w is; moment = now w is }) in
          let after = subst (λ (k : Bool). KnownAfter k t.orderly c.step_at.new.runs b.image c.known_after-orderly.result) c.is_watched.ensures (c.known_after-orderly.ensures b.image) in
          let was : (c.has-known.result ≡ true) → IsOrderlyChip a.image = λ known. (chip_at v bs w i c.mote_at-mote.result a is c.from-index.ensures (within w is) here (sym c.has-known.ensures.value ∙ known)).orderly in
          let iff = known_then w event c.has-known.result c.makes_known-makes.result c.known_after-orderly.result a b (c.makes_known-makes.ensures w is.shared (sym c.mote_at-mote.ensures)) was t.orderly c.step_at.new.runs
          (c.in-Ok.ensures.sees w (record { shared = is.shared; stands = stands w is; moment = now w is })) after (on_control b.image c.step_at.new.runs stepped.ends.here.store stepped.ends.here.runs stepped.ends.mote) in
          let others : (k : ℕ) → k ≢ i → slice_index_or c.note.new.boards k false ≡ known_of v k = λ k other. c.note.ensures.others k (λ e. other (e ∙ sym c.from-index.ensures)) in
          let noted = ap (λ (j : ℕ). slice_index_or c.note.new.boards j false) c.from-index.ensures ∙ c.note.ensures.here in
          applied_at v _ bs _ w x c.args.loud i _ c.step_at.new.runs (sent_in t.outbox) _ b told c.step_at.new.out.items put is at (within w is) few short
          (record { moment_then = now w is; events = refl; images = refl; links = refl; narrow = refl; sends = λ before carries. sent_at c.mote_at-mote.result i (sent_in t.outbox) before c.send.new.self c.from-index.ensures (c.send.ensures before carries); motes = refl })
          (record { others = others; here = λ known. (iff.0 (sym noted ∙ known)).0 }) here stepped
          (λ z reports step. c.agreement_is_kept.ensures.timely w z x reports is.timely fits step);
      known = λ w is fits.
          let stepped = c.in-Ok.ensures.steps w fits (record { shared = is.shared; stands = stands w is; moment = now w is }) in
          let after = subst (λ (k : Bool). KnownAfter k t.orderly c.step_at.new.runs b.image c.known_after-orderly.result) c.is_watched.ensures (c.known_after-orderly.ensures b.image) in
          let was : (c.has-known.result ≡ true) → IsOrderlyChip a.image = λ known. (chip_at v bs w i c.mote_at-mote.result a is c.from-index.ensures (within w is) here (sym c.has-known.ensures.value ∙ known)).orderly in
          let iff = known_then w event c.has-known.result c.makes_known-makes.result c.known_after-orderly.result a b (c.makes_known-makes.ensures w is.shared (sym c.mote_at-mote.ensures)) was t.orderly c.step_at.new.runs
          (c.in-Ok.ensures.sees w (record { shared = is.shared; stands = stands w is; moment = now w is })) after (on_control b.image c.step_at.new.runs stepped.ends.here.store stepped.ends.here.runs stepped.ends.mote) in
          let others : (k : ℕ) → k ≢ i → slice_index_or c.note.new.boards k false ≡ known_of v k = λ k other. c.note.ensures.others k (λ e. other (e ∙ sym c.from-index.ensures)) in
          let noted = ap (λ (j : ℕ). slice_index_or c.note.new.boards j false) c.from-index.ensures ∙ c.note.ensures.here in
          let told = c.has-known.ensures.value ∙ ap (λ (j : ℕ). known_of v j) (sym c.from-index.ensures) in
          knows_at v _ bs _ w event i b put is at (within w is) others (
            λ known. let y = iff.0 (sym noted ∙ known) in (y.0, ⊎_elim (λ h. inl (sym told ∙ h)) (λ h. inr h) y.1),
            λ y. noted ∙ iff.1 (y.0, ⊎_elim (λ h. inl (told ∙ h)) (λ h. inr h) y.1),
          );
      order_reads = λ w m p q is same known old new.
          said_at (λ d e. OrderTakes event d e) bs _ i m _ b p q put (omega (arith, wide, length-map boards device)) here (at ∙ sym same) old new (c.step_at.ensures.order_reads (is_known m same known));
      inject_reads = λ w m p q is same known old new.
          said_at (λ d e. InjectTakes w event d e) bs _ i m _ b p q put (omega (arith, wide, length-map boards device)) here (at ∙ sym same) old new
          (c.in-Ok.ensures.inject_reads (is_known m same known) w (record { shared = is.shared; stands = stands w is; moment = now w is }));
      unseen = λ w is fits unseen.
          let stays = c.step_at.ensures.unseen w (record { shared = is.shared; stands = stands w is; moment = now w is }) unseen in
          (put ∙ put_back bs i _ _ here stays.0, tt);
    } in
    made_done x c.args.loud first last c.reserve.new.self asked.0 asked.1 asked.2 few c.reserve.ensures.same (λ golden y z reports. law.stepped golden y z x reports) (λ golden y. law.stopped golden y x.event) (Ok tt)
    (subst Made c.reserve-2.ensures.items made)

pub returns-in-Err : goal.returns-in-Err
returns-in-Err g c =
    let device = g.N.Nor.device in
    let event = c.args.event.now in
    let x = step_of event (option_copied c.args.cut) in
    let begun = c.args.self.now in
    let v : World = record begun { shared = record begun.shared { air = c.reserve.new.self } } in
    let boards = c.args.boards.now.items in
    let bs = map device boards in
    let i = c.from-index.result in
    let at = c.from-index.ensures ∙ c.mote_at-mote.ensures in
    let asked = c.requires.world in
    let is_roomy : IsWorld v bs asked.0 = reserved begun c.reserve.new.self bs asked.0 c.reserve.ensures.same asked.1 in
    let in_world = event_mote (length asked.0.sites) event asked.2.event in
    let a = device c.index_mut-board.result.now in
    let b = device c.step_at.new.board in
    let t = c.step_at.new.outcome in
    let within : (w : RuleWorld) → IsWorld v bs w → i < length w.sites = λ w is. omega (arith, at, in_world, is_roomy.motes, is.motes) in
    let wide : i < length boards = omega (arith, within asked.0 is_roomy, is_roomy.boards_enough, length-map boards device) in
    let here : slice_get bs i ≡ Some a = got_or device boards i c.index_mut-board.result.now wide ∙ ap (λ (y : g.row.N.Denot). Some (device y)) (sym c.index_mut-board.ensures.value) in
    let put = map-set device boards i c.step_at.new.board in
    let now : (w : RuleWorld) → IsWorld v bs w → v.moment + c.from.result ≡ w.moment + dt_of event = λ w is. omega (arith, is.moment, c.from.ensures, c.dt_at.ensures) in
    let stands = λ (w : RuleWorld) (is : IsWorld v bs w). stands_at v bs w i (mote_of event) _ c.index_mut-runs.result.now is at (within w is) here c.index_mut-runs.ensures.value in
    let is_known : (m : ℕ) → m ≡ mote_of event → known_of v m ≡ true → c.has-known.result ≡ true = λ m same known. c.has-known.ensures.value ∙ ap (λ (j : ℕ). known_of v j) (c.mote_at-mote.ensures ∙ sym same) ∙ known in
    let told = c.reserve-2.new.self.items in
    let few = c.if-self-ge-MOST_EVENTS.false in
    let law = c.consistency_is_kept.ensures in
    let first = deployed begun bs c.args.out.now.items in
    let last = deployed (record v { motes = with_item v.motes i c.step_at.new.runs; outcome = c.step_at.new.outcome }) (map device (slice_set boards i c.step_at.new.board)) c.step_at.new.out.items in
    let Made : List Report → Type 0 = λ old. ApplyMade (Err c.fault_at.result) x c.args.loud (deployed v bs old) last in
    let made : Made told = record {
      ends = λ w is fits.
          let stepped = c.in-Err.ensures.steps w fits (record { shared = is.shared; stands = stands w is; moment = now w is }) in
          halts_there (halt_of c.in-Err.fault t.before) c.fault_at.result v _ bs _ w x c.args.loud _ _ i c.mote_at-mote.result _ b told c.step_at.new.out.items put (c.fault_at.ensures t.before) c.from-index.ensures is at (within w is) here stepped;
      known = tt;
      order_reads = λ w m p q is same known old new.
          said_at (λ d e. OrderTakes event d e) bs _ i m _ b p q put (omega (arith, wide, length-map boards device)) here (at ∙ sym same) old new (c.step_at.ensures.order_reads (is_known m same known));
      inject_reads = tt;
      unseen = λ w is fits unseen. not_err c.step_at.result _ c.in-Err.is (c.step_at.ensures.unseen w (record { shared = is.shared; stands = stands w is; moment = now w is }) unseen).1;
    } in
    made_done x c.args.loud first last c.reserve.new.self asked.0 asked.1 asked.2 few c.reserve.ensures.same (λ golden y z reports. law.stepped golden y z x reports) (λ golden y. law.stopped golden y x.event) (Err c.fault_at.result)
    (subst Made c.reserve-2.ensures.items made)

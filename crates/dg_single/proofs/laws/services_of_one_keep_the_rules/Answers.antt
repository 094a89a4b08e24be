use Rattle.std.proofs.Common.{subst, sym, [], refl, ◌∙◌}
use Rattle.std.specs.Prelude.{IsSome, option_map}
use Rattle.std.specs.List.{AllByRecursion}
use Rattle.dg_link.specs.Inboxes.{emptied}
use Rattle.dg_rules.specs.World.{World, first_world}
use Rattle.dg_rules.specs.Begins.{StoresAgree, PlaysBoards}
use Rattle.dg_serve.specs.inner.Stretches.{course}
use Rattle.dg_serve.specs.Endings.{begins}
use Rattle.dg_serve.specs.inner.Stretches.{remains}
use Rattle.dg_serve.specs.Promised.{RunOf, ServedFirst}
use Rattle.dg_serve.proofs.HonestLemmas.{HonestAlone, IsHonestSo, none_waits, parts_honest, next_honest, played_honest}
use Rattle.dg_script.specs.Ranges.{EventInRange}
use Rattle.dg_script.specs.Places.{none_narrow}
use Rattle.dg_single.proofs.LawOver.{done_fits, left_fits}
use Rattle.dg_serve.proofs.RunLemmas.{serves_run, plays_boards, first_boards, plays_none}
use Rattle.dg_serve.proofs.ScriptLemmas.{is_script, all_served}
use Rattle.dg_serve.proofs.AnyLemmas.{AnyLaws, GoldenLaws, stays_consistent, stays_golden, keeps_behind, next_finds, ends_found, replays_to, first_count}
use Rattle.dg_single.proofs.laws.services_of_one_keep_the_rules.Goals as goal

pub returns-clause-kept : goal.returns-clause-kept
returns-clause-kept c = λ answer profile mote seed turns a b allowed known x table stores fits others shaped.
    let came = (x.run.came table stores fits others).came in
    let run = serves_run profile.motes _ x.run.done x.run.events came.last (done_fits profile.motes mote x.run.ticks x.run.done x.run.left known x.run.parts) came.serves in
    let boards = plays_boards profile table stores x.run.events came.last.world allowed fits.count shaped run in
    let part : (f : ServedFirst (first_world table profile.links none_narrow stores) run.played) → PlaysBoards table stores profile.links none_narrow f.first f.last = λ f. first_boards table stores profile.links run.played came.last.world boards f in
    let rules = c.scripts_with_boards.ensures in
    let keep = c.consistency_is_kept.ensures in
    let any : AnyLaws = record { stepped = keep.stepped; stopped = keep.stopped; declared = keep.declared; starts = keep.starts } in
    let found = c.golden_is_found.ensures in
    let finds : GoldenLaws = record { stepped = found.stepped; found = found.found; goes_on = found.goes_on } in
    let first : World = first_world table profile.links none_narrow stores in
    let none : RunOf profile.motes first [] first = record { played = []; items = refl; plays = plays_none first first refl; ranges = tt } in
    let none_boards = plays_boards profile table stores [] first allowed fits.count shaped none in
    let begins_so : IsSome a.link.inboxes → StoresAgree table stores → IsHonestSo table profile.motes (begins table profile.links stores x.run.origin x.run.clock seed (option_map (emptied profile.motes) a.link.inboxes)) = λ told agree. record {
      agrees = (rules.plays table stores profile.links none_narrow [] first none_boards agree tt).agrees;
      same = refl;
      count = first_count table stores profile.links ∙ fits.count;
      waits = none_waits table profile.motes a.link.inboxes told;
    } in
    let so : IsSome a.link.inboxes → StoresAgree table stores → AllByRecursion (HonestAlone table) x.run.events × IsHonestSo table profile.motes came.last = λ told agree. parts_honest c.agreement_is_kept.ensures.stepped table profile.motes x.run.done _ came.last x.run.events (done_fits profile.motes mote x.run.ticks x.run.done x.run.left known x.run.parts) (begins_so told agree) came.serves in
    record {
      run = run;
      honest = λ told agree. record { agree = agree; hold = played_honest table x.run.events run.played first came.last.world run.items run.plays refl (so told agree).0 };
      next = λ told agree part dt word bytes after takes. next_honest c.agreement_is_kept.ensures.stepped table profile.motes part dt word bytes came.last after (so told agree).1 takes;
      honestly = λ f h. record {
        legal = rules.legal table stores profile.links none_narrow f.first f.last (part f) h.agree h.hold;
        keeps = rules.keeps table stores profile.links none_narrow f.first f.last (part f) h.agree h.hold;
        starts = rules.starts table stores profile.links none_narrow f.first f.last (part f) h.agree h.hold;
        agrees = rules.agrees table stores profile.links none_narrow f.first f.last (part f) h.agree h.hold;
        halves = λ e fits_range holds. rules.halves table stores profile.links none_narrow f.first f.last e (part f) h.agree h.hold (subst (λ n. EventInRange n e) (sym fits.count) fits_range) holds;
      };
      consistent = λ golden stands. stays_consistent any golden profile.motes table stores profile.links run.played came.last.world fits.count stands run.plays run.ranges;
      golden = λ stands. stays_golden finds profile.motes table stores profile.links run.played came.last.world fits.count stands run.plays run.ranges;
    }

pub returns-clause-script : goal.returns-clause-script
returns-clause-script c = λ answer profile mote seed turns a b allowed known x stores fits others.
    let came = (x.run.came [] stores fits others).came in
    is_script profile x.run.events allowed (all_served profile.motes _ x.run.done x.run.events came.last (done_fits profile.motes mote x.run.ticks x.run.done x.run.left known x.run.parts) came.serves)

pub returns-clause-replayed : goal.returns-clause-replayed
returns-clause-replayed c = λ answer profile mote seed turns a b allowed known x table stores fits others.
    let came = (x.run.came table stores fits others).came in
    let done = done_fits profile.motes mote x.run.ticks x.run.done x.run.left known x.run.parts in
    let script = is_script profile x.run.events allowed (all_served profile.motes _ x.run.done x.run.events came.last done came.serves) in
    replays_to profile x.run.events table stores came.last.world script (serves_run profile.motes _ x.run.done x.run.events came.last done came.serves)

pub returns-clause-golden : goal.returns-clause-golden
returns-clause-golden c = λ answer profile mote seed turns a b allowed known x stores fits others kept is.
    let came = (x.run.came [] stores fits others).came in
    let run = serves_run profile.motes _ x.run.done x.run.events came.last (done_fits profile.motes mote x.run.ticks x.run.done x.run.left known x.run.parts) came.serves in
    let found = c.golden_is_found.ensures in
    let laws : GoldenLaws = record { stepped = found.stepped; found = found.found; goes_on = found.goes_on } in
    let keeps = keeps_behind laws profile.motes [] stores profile.links run.played came.last.world fits.count kept run.plays run.ranges in
    ends_found x.why answer profile.motes _ (course x.run.done x.run.events x.run.left) came.last a.boards (record b { output = x.traced }) x.traced b.output x.ended came.ends
    (λ n. next_finds laws profile.motes came.last x.run.left a.boards (remains b.boards b.link.inboxes b.clock) keeps (left_fits profile.motes mote x.run.ticks x.run.done x.run.left known x.run.parts) n) is

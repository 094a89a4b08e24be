use Rattle.std.proofs.Common.{List, ◌++◌, ◌<◌, ◌^◌, arith, refl, inr, ap, ◌∙◌}
use Rattle.std.specs.Prelude.{Err}
use Rattle.dg_rules.specs.Changes.{final_lines}
use Rattle.dg_script.specs.declared.report.Report.{Report}
use Rattle.dg_world.proofs.EndureLemmas.{stands_read}
use Rattle.dg_trial.proofs.TrialLemmas.{read_unread, read_stopped, whole_read, few_whole}
use Rattle.dg_trial.proofs.call.summarize.Goals as goal

pub finish-requires : goal.finish-requires
finish-requires g c = record { world = (c.requires.world.0, c.requires.world.1) }

pub overflow_cast-result : goal.overflow_cast-result
overflow_cast-result g c =
    let w = c.requires.world.0 in
    let is = c.requires.world.1 in
    let h : c.count_whole.result < 2 ^ 32 = few_whole c.args.pages c.args.motes w _ c.requires.some_pages c.requires.few c.requires.world.2 (c.deref-in-Ok.ensures.value ∙ c.in-Ok.ensures.finished w is ∙ ap (λ (xs : List Report). xs ++ final_lines w) c.new-reports.ensures.items) c.count_whole.result c.count_whole.ensures in
    omega (arith, h)

pub returns-in-Ok : goal.returns-in-Ok
returns-in-Ok g c = λ seed initial w run count is stands.
    let read = (c.deref.ensures.value ∙ c.in-Ok.ensures.finished w is ∙ ap (λ (xs : List Report). xs ++ final_lines w) c.new-reports.ensures.items) in
    let read2 = (c.deref-in-Ok.ensures.value ∙ c.in-Ok.ensures.finished w is ∙ ap (λ (xs : List Report). xs ++ final_lines w) c.new-reports.ensures.items) in (
      record { last = w; run = run; count = count; boards = stands_read w initial _ _ c.finish.ensures.boards c.in-Ok.ensures.calm (c.finish.ensures.others w is) stands },
      record {
        motes_reported = refl;
        pages_reported = refl;
        sweeps_reported = c.sweeps_of.ensures;
        events_reported = c.count_events.ensures w.events _ read;
        whole_reported = c.count_whole.ensures ∙ whole_read c.args.pages seed w _ c.requires.some_pages read2;
      },
    )

pub returns-in-Err-Memory : goal.returns-in-Err-Memory
returns-in-Err-Memory g c = λ seed initial w run count is stands.
    read_unread c.args.motes c.args.pages seed w initial _ run (stands_read w initial _ _ c.finish.ensures.boards (c.in-Err-Memory.ensures.calm_memory (ap Err c.in-Err-Memory.field-0-is)) (c.finish.ensures.others w is) stands)

pub returns : goal.returns
returns g c = λ seed initial w run count is stands.
    let e = ap Err c.in-Err-Flash.field-0-is in
    inr (inr (read_stopped c.args.motes c.args.pages seed w c.in-Err-Flash.field-0-0 initial _ _ run count (c.in-Err-Flash.ensures.known_board c.in-Err-Flash.field-0-0 e w is) c.finish.ensures.boards (c.finish.ensures.others w is) (c.in-Err-Flash.ensures.flash c.in-Err-Flash.field-0-0 e) stands))

use Rattle.std.proofs.Common.{◌≡◌, ◌≤◌, ◌*◌, ℕ, length, map, refl, inr, ap, ◌∙◌, arith}
use Rattle.std.proofs.lemmas.Result.{err_from_is_err_and}
use Rattle.std.proofs.lemmas.List.{length-map}
use Rattle.rand_pcg.specs.Lcg.{Lcg}
use Rattle.dg_seed.specs.Draws.{generator_of}
use Rattle.dg_trial.specs.Schedule.{disturbances, line_links, opening, row_of_seed, sweep_count}
use Rattle.dg_trial.proofs.BeginLemmas.{out_of_memory}
use Rattle.dg_trial.proofs.TrialLemmas.{schedule_may, unstarted, unplayed_by}
use Rattle.dg_trial.proofs.RecordLemmas.{begin_stopped, may_first, record_stopped, disturbed_stopped, trial_recorded}
use Rattle.dg_trial.proofs.recording.record_trial.Goals as goal

pub returns-in_err-word : goal.returns-in_err-word
returns-in_err-word g c =
    let p = err_from_is_err_and c.from_residual.result c.from_residual.ensures.1 in
    let e = length-map c.args.boards.now.items g.N.Nor.device in
    rw (p.1, p.2) (record_stopped c.in_err-word.field-0.0 c.args.motes c.args.pages c.args.seed _ _ (omega (arith, e)) (begin_stopped c.in_err-word.field-0.0 c.args.motes c.args.pages c.args.seed _ _ c.in_err-word.ensures))

pub returns-in_err-content : goal.returns-in_err-content
returns-in_err-content g c =
    let p = err_from_is_err_and c.from_residual-in_err-content.result c.from_residual-in_err-content.ensures.1 in
    let e = length-map c.args.boards.now.items g.N.Nor.device in
    rw (p.1, p.2)
    (record_stopped c.in_err-content.field-0.0 c.args.motes c.args.pages c.args.seed _ _ (omega (arith, e))
    (unplayed_by c.in_err-content.field-0.0 c.args.motes c.args.pages c.args.seed _ _ (out_of_memory c.in_err-content.field-0.0 c.in_err-content.ensures.memory) (inr (unstarted c.args.motes c.args.pages c.args.seed _ _ c.in_ok-word.ensures.formatted))))

pub play_disturbed-requires-clause-may : goal.play_disturbed-requires-clause-may
play_disturbed-requires-clause-may g c =
    let n = c.args.motes in
    let b = c.in_ok-word.ensures in
    let short : sweep_count n c.args.pages ≤ 79 = omega (arith, c.requires.few, c.requires.few_pages) in
    may_first n _ _ (opening n) (disturbances n (100 * n) (generator_of c.in_ok-word.field-0.draws)) _
    (schedule_may n c.args.pages c.args.seed (sweep_count n c.args.pages) (generator_of c.in_ok-word.field-0.draws) (line_links n) (row_of_seed c.args.pages c.args.seed) c.in_ok-word.field-0.world _ _ c.requires.some c.requires.few short refl b.formatted b.is)

pub returns-in_err-play_disturbed : goal.returns-in_err-play_disturbed
returns-in_err-play_disturbed g c =
    let p = err_from_is_err_and c.from_residual-in_err-play_disturbed.result c.from_residual-in_err-play_disturbed.ensures.1 in
    let e = length-map c.args.boards.now.items g.N.Nor.device in
    let b = c.in_ok-word.ensures in
    rw (p.1, p.2)
    (disturbed_stopped c.in_err-play_disturbed.field-0.0 c.args.motes c.args.pages c.args.seed c.in_ok-word.field-0.word (generator_of c.in_ok-word.field-0.draws) c.in_ok-word.field-0.world c.play_disturbed.new.world _ _ _ (omega (arith, e)) b.word b.formatted b.is c.in_err-play_disturbed.ensures.played)

pub returns : goal.returns
returns g c =
    let b = c.in_ok-word.ensures in
    trial_recorded c.args.motes c.args.pages c.args.seed c.in_ok-word.field-0.word (generator_of c.in_ok-word.field-0.draws) _ _ c.in_ok-word.field-0.world c.play_disturbed.new.world _ _ _ b.word c.new-disturbances.ensures.items b.links c.in_ok-content.ensures.content c.sweeps_of.ensures b.formatted b.is c.in_ok-play_disturbed.ensures.recorded

pub returns-then-len-from : goal.returns-then-len-from
returns-then-len-from g c =
    let e = length-map c.args.boards.now.items g.N.Nor.device in
    (record { missing = omega (arith, e); same = refl }, refl, omega (arith, e))

use Rattle.std.proofs.Common.{◌≡◌, ◌≤◌, ℕ, map, refl, ap, ◌∙◌, arith}
use Rattle.std.proofs.lemmas.Result.{err_from_is_err_and}
use Rattle.rand_pcg.specs.Lcg.{Lcg}
use Rattle.dg_seed.specs.Draws.{generator_of}
use Rattle.dg_trial.specs.Schedule.{line_links, row_of_seed}
use Rattle.dg_trial.proofs.TrialLemmas.{parts_are, schedule_may, schedule_played, schedule_stopped}
use Rattle.dg_trial.proofs.RecordLemmas.{begin_stopped}
use Rattle.dg_trial.proofs.call.play_schedule.Goals as goal

pub returns-in_err-draws : goal.returns-in_err-draws
returns-in_err-draws g c =
    let p = err_from_is_err_and c.from_residual.result c.from_residual.ensures.1 in
    rw (p.1, p.2) (begin_stopped c.in_err-draws.field-0.0 c.args.motes c.args.pages c.args.seed _ _ c.in_err-draws.ensures)

pub play-requires-clause-may : goal.play-requires-clause-may
play-requires-clause-may g c =
    let n = c.args.motes in
    let b = c.in_ok-draws.ensures in
    let links_is : c.deref.result.now ≡ line_links n = c.deref.ensures.value ∙ b.links in
    let short : c.sweeps_of.result ≤ 79 = omega (arith, c.sweeps_of.ensures, c.requires.few, c.requires.few_pages) in
    schedule_may n c.args.pages c.args.seed c.sweeps_of.result (generator_of c.in_ok-draws.field-0.draws) c.deref.result.now (row_of_seed c.args.pages c.args.seed) c.in_ok-draws.field-0.world _ _ c.requires.some c.requires.few short links_is b.formatted b.is

pub returns-in_err-play : goal.returns-in_err-play
returns-in_err-play g c =
    let p = err_from_is_err_and c.from_residual-in_err-play.result c.from_residual-in_err-play.ensures.1 in
    let n = c.args.motes in
    let b = c.in_ok-draws.ensures in
    let links_is : c.deref.result.now ≡ line_links n = c.deref.ensures.value ∙ b.links in
    let parts = parts_are n c.args.pages c.args.seed c.sweeps_of.result (generator_of c.in_ok-draws.field-0.draws) c.deref.result.now links_is c.sweeps_of.ensures (ap (λ (x : ℕ × Lcg). x.1) b.word) in
    rw (p.1, p.2)
    (schedule_stopped c.in_err-play.field-0.0 n c.args.pages c.args.seed c.sweeps_of.result (generator_of c.in_ok-draws.field-0.draws) c.deref.result.now (row_of_seed c.args.pages c.args.seed) c.in_ok-draws.field-0.world c.play.new.world _ _ _ parts refl b.formatted b.is c.in_err-play.ensures)

pub returns : goal.returns
returns g c =
    let n = c.args.motes in
    let b = c.in_ok-draws.ensures in
    let links_is : c.deref.result.now ≡ line_links n = c.deref.ensures.value ∙ b.links in
    let parts = parts_are n c.args.pages c.args.seed c.sweeps_of.result (generator_of c.in_ok-draws.field-0.draws) c.deref.result.now links_is c.sweeps_of.ensures (ap (λ (x : ℕ × Lcg). x.1) b.word) in
    schedule_played n c.args.pages c.args.seed c.sweeps_of.result (generator_of c.in_ok-draws.field-0.draws) c.deref.result.now (row_of_seed c.args.pages c.args.seed) c.in_ok-draws.field-0.world c.play.new.world _ _ _ parts refl b.formatted b.is c.in_ok-play.ensures

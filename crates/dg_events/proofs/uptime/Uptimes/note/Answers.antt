use Rattle.std.proofs.Common.{◌∷◌, ◌++◌, [], ℕ, ◌<◌, ◌^◌, sym, ap, subst, ◌∙◌}
use Rattle.dg_rules.specs.Events.{mote_of}
use Rattle.dg_events.specs.Told.{told_by}
use Rattle.dg_events.specs.Uptimes.{with_time, HasTimed}
use Rattle.dg_events.specs.declared.uptime.Uptimes.{Uptimes}
use Rattle.dg_events.proofs.UptimeLemmas.{timed_more}
use Rattle.dg_events.proofs.uptime.Uptimes.note.Goals as goal

pub returns : goal.returns
returns c past e p at took h was is =
    let t : Uptimes = c.args.self.now in
    let new = c.advance.ensures.timed
    ∙ ap (λ (m : ℕ). with_time t c.args.count m c.args.dt (told_by c.args.reports.now)) at
    ∙ ap (λ (d : ℕ). with_time t c.args.count (mote_of e) d (told_by c.args.reports.now)) took in
    subst (λ (v : Uptimes). HasTimed v (past ++ p ∷ [])) (sym new)
    (timed_more t c.args.count past e c.args.reports.now p h was (subst (λ (d : ℕ). d < 2 ^ 32) took c.advance.ensures.fits) is)

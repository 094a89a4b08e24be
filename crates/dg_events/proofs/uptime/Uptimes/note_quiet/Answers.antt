use Rattle.std.proofs.Common.{◌∷◌, ◌++◌, [], ℕ, ◌<◌, ◌^◌, sym, ap, subst, ◌∙◌}
use Rattle.dg_rules.specs.Events.{mote_of, dt_of}
use Rattle.dg_events.specs.Told.{nothing_told}
use Rattle.dg_events.specs.Uptimes.{with_time, HasTimed}
use Rattle.dg_events.specs.declared.told.Told.{Told}
use Rattle.dg_events.specs.declared.uptime.Uptimes.{Uptimes}
use Rattle.dg_events.proofs.UptimeLemmas.{timed_more}
use Rattle.dg_events.proofs.uptime.Uptimes.note_quiet.Goals as goal

pub returns : goal.returns
returns c count past e p took h was is =
    let t : Uptimes = c.args.self.now in
    let new = c.advance_quiet.ensures.timed count (mote_of e)
    ∙ ap (λ (d : ℕ). with_time t count (mote_of e) d nothing_told) took
    ∙ ap (λ (told : Told). with_time t count (mote_of e) (dt_of e) told) (sym c.requires) in
    subst (λ (v : Uptimes). HasTimed v (past ++ p ∷ [])) (sym new)
    (timed_more t count past e c.args.reports.now p h was (subst (λ (d : ℕ). d < 2 ^ 32) took c.advance_quiet.ensures.fits) is)

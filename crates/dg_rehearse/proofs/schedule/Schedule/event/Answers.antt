use Rattle.std.proofs.Common.{ℕ, ◌<◌, map, sym, subst}
use Rattle.dg_world.proofs.EndureLemmas.{event_within}
use Rattle.dg_rehearse.specs.Courses.{agenda_of, scene}
use Rattle.dg_rehearse.specs.Rehearsed.{staging}
use Rattle.dg_rehearse.proofs.CourseLemmas.{event_moves}
use Rattle.dg_rehearse.proofs.PlayLemmas.{fits_of}
use Rattle.dg_rehearse.proofs.schedule.Schedule.event.Goals as goal

pub returns-clause-moves : goal.returns-clause-moves
returns-clause-moves g c = λ e.
    event_moves c.args.profile.now c.args.plan.now c.args.event c.mote_at-mote.result (agenda_of c.args.self.now) (agenda_of c.note.new.self) (staging c.args.stage.now (map g.N.Nor.device c.args.boards.now.items)) (staging c.play.new.self (map g.N.Nor.device c.play.new.boards.items)) c.play.new.self.reports.items c.mote_at-mote.ensures (c.in_ok-played.ensures.steps e)
    (λ w is. c.note.ensures _ c.args.profile.now w is (subst (λ (k : ℕ). k < c.args.profile.now.motes) (sym c.mote_at-mote.ensures) (event_within c.args.profile.now.motes c.args.event (fits_of c.args.profile.now.motes c.args.event c.requires.fits).0)))

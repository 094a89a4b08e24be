use Rattle.std.proofs.Common.{ℕ, ap}
use Rattle.rand_pcg.specs.Lcg.{Lcg}
use Rattle.dg_rehearse.specs.Courses.{Agenda, agenda_of}
use Rattle.dg_rehearse.proofs.schedule.Schedule.draw.Goals as goal

pub returns-clause-word : goal.returns-clause-word
returns-clause-word c = ap (λ (x : ℕ × Lcg). x.0) c.next.ensures.step

pub returns-clause-past : goal.returns-clause-past
returns-clause-past c = ap (λ (x : ℕ × Lcg). record (agenda_of c.args.self.now) { generator = x.1 }) c.next.ensures.step

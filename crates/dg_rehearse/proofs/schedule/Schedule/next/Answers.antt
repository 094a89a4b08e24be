use Rattle.std.proofs.Common.{◌≡◌, ℕ, ap, sym, ◌∙◌, arith}
use Rattle.dg_rehearse.specs.Courses.{agenda_of}
use Rattle.dg_rehearse.specs.Turns.{first_turn, not_before}
use Rattle.dg_rehearse.specs.declared.schedule.Next.{Next}
use Rattle.dg_rehearse.proofs.ComingLemmas.{first_none, first_more, next_at}
use Rattle.dg_rehearse.proofs.schedule.Schedule.next.Goals as goal

pub loop-mote-init : goal.loop-mote-init
loop-mote-init c = record { known = omega (arith, c.requires); value = first_none (agenda_of c.args.self.now).turns }

pub loop-mote-preserved : goal.loop-mote-preserved
loop-mote-preserved c = record {
  known = c.earlier-next.ensures.known c.args.motes c.loop-mote.invariant.known c.loop-mote-test.true;
  value = first_more (agenda_of c.args.self.now).turns c.loop-mote.mote c.loop-mote.next c.earlier-next.result c.turn_of.result c.loop-mote.invariant.value c.turn_of.ensures c.earlier-next.ensures.value;
}

pub returns-clause-value : goal.returns-clause-value
returns-clause-value c =
    let all : c.loop-mote.mote ≡ c.args.motes = omega (arith, c.loop-mote-test.false, c.loop-mote.auto.mote-end) in
    ap (next_at c.loop-mote.next.mote) c.max.ensures ∙ ap (not_before c.args.now) (c.loop-mote.invariant.value ∙ ap (first_turn (agenda_of c.args.self.now).turns) all)

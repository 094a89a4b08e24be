use Rattle.std.proofs.Common.{ℕ, List, ◌++◌, Err, ◌∙◌, refl, subst, arith}
use Rattle.dg_words.specs.Counts.{Rose}
use Rattle.dg_base.specs.Outside.{Takes, AtEnd}
use Rattle.dg_lines.specs.LineReading.{NextAnswer}
use Rattle.dg_lines.proofs.PassingLemmas.{passing_begun, passing_on, pass_stops}
use Rattle.dg_lines.proofs.line_reader.LineReader.skip.Goals as goal

pub loop-stop-init : goal.loop-stop-init
loop-stop-init g c = (passing_begun (g.S.Source.left c.args.input.now) c.args.self.now c.requires.none c.requires.used, refl)

pub loop-stop-preserved : goal.loop-stop-preserved
loop-stop-preserved g c =
    let left = g.S.Source.left in
    let i = c.loop-stop.invariant in
    let a = c.in_default.ensures.answer in (
      passing_on (left c.args.input.now) (left c.loop-stop.input) (left c.pass_over.new.input) c.args.self.now c.loop-stop.self c.pass_over.new.self (AtEnd (left c.pass_over.new.input))
          (Rose (g.S.Source.faults c.loop-stop.input) (g.S.Source.faults c.pass_over.new.input)) i.0 a.0 a.1 a.2,
      c.in_default.ensures.unfailed (λ e. cc) ∙ i.1,
    )

pub returns-in-Some-clause-answer : goal.returns-in-Some-clause-answer
returns-in-Some-clause-answer g c =
    let left = g.S.Source.left in
    let i = c.loop-stop.invariant in
    let a = c.in-Some.ensures.answer in
    let A = AtEnd (left c.pass_over.new.input) in
    let last = g.S.Source.faults c.pass_over.new.input in
    subst (λ (n : ℕ). (x : List ℕ) × Takes (left c.args.input.now) (left c.pass_over.new.input) x × NextAnswer (Err c.in-Some.stop) (c.args.self.now.ahead ++ x) c.args.self.now c.pass_over.new.self A (Rose n last))
    i.1
    (pass_stops c.in-Some.stop (left c.args.input.now) (left c.loop-stop.input) (left c.pass_over.new.input) c.args.self.now c.loop-stop.self c.pass_over.new.self c.pass_over.new.self A (Rose (g.S.Source.faults c.loop-stop.input) last)
    i.0 c.requires.full a.0 a.1 a.2)

pub loop-stop-smaller : goal.loop-stop-smaller
loop-stop-smaller g c = let a = c.in_default.ensures.answer in omega (arith, a.2.1, a.2.3, a.2.4)

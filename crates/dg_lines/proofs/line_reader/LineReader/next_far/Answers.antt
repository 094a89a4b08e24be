use Rattle.std.proofs.Common.{◌≡◌, ◌≤◌, ◌-◌, ℕ, List, ◌++◌, length, Option, Result, Err, ◌∙◌, refl, sym, ap, subst, arith, length-append}
use Rattle.dg_words.specs.Counts.{Rose}
use Rattle.dg_base.specs.Outside.{Takes, AtEnd}
use Rattle.dg_lines.specs.declared.line_reader.ReadStop.{ReadStop as Stop}
use Rattle.dg_lines.specs.LineReading.{Reading, NextAnswer, most_kept}
use Rattle.dg_lines.proofs.ReaderLemmas.{part_long}
use Rattle.dg_lines.proofs.PassingLemmas.{few_used, few_kept, looking_begun, looking_on, looking_gives, looking_rest, looking_passes, looking_stops, stop_is, Looking}
use Rattle.dg_lines.proofs.line_reader.LineReader.next_far.Goals as goal

pub loop-at-init : goal.loop-at-init
loop-at-init g c =
    let r = c.self.inside in
    let i = c.self.invariant in
    let left = g.S.Source.left c.args.input.now in (
      subst (λ (v : Reading). Looking left left v v 0) c.self.view_is
          (looking_begun left _ (few_used r.buffer.items r.from r.to r.taken r.number r.text_from r.text_to i.0 i.2 i.3 i.4) (few_kept r.buffer.items r.from r.to r.taken r.number r.text_from r.text_to i.0 i.2)),
      refl,
    )

pub loop-at-preserved : goal.loop-at-preserved
loop-at-preserved g c =
    let left = g.S.Source.left in
    let i = c.loop-at.invariant in
    let a = c.in_ok-fill.ensures.answer in
    let r = c.self-in-loop-at.inside in
    let v = c.self-in-loop-at.invariant in
    let whole : length r.buffer.items ≤ most_kept = v.0 in
    let all : r.to - r.from ≡ length c.loop-at.self.ahead = sym (part_long r.buffer.items r.from r.to (omega (arith, whole, v.2))) ∙ ap (λ (w : Reading). length w.ahead) c.self-in-loop-at.view_is in (
      looking_on c.in_ok-fill.field-0 (left c.args.input.now) (left c.loop-at.input) (left c.fill.new.input) c.args.self.now c.loop-at.self c.fill.new.self c.loop-at.looked (r.to - r.from) (AtEnd (left c.fill.new.input))
          (Rose (g.S.Source.faults c.loop-at.input) (g.S.Source.faults c.fill.new.input)) i.0 c.in_default.ensures all c.if-branch-eq0.false a.0 a.1 a.2,
      c.in_ok-fill.ensures.unfailed (λ e. cc) ∙ i.1,
    )

pub returns-in-Some-clause-answer : goal.returns-in-Some-clause-answer
returns-in-Some-clause-answer g c =
    let left = g.S.Source.left in
    looking_gives c.give.result (left c.args.input.now) (left c.loop-at.input) c.args.self.now c.loop-at.self c.give.new.self c.loop-at.looked (AtEnd (left c.loop-at.input))
    (Rose (g.S.Source.faults c.args.input.now) (g.S.Source.faults c.loop-at.input)) c.loop-at.invariant.0 c.give.ensures

pub returns-then-looked-eq-KEPT-clause-answer : goal.returns-then-looked-eq-KEPT-clause-answer
returns-then-looked-eq-KEPT-clause-answer g c =
    let left = g.S.Source.left in
    let i = c.loop-at.invariant in
    let a = c.skip.ensures.answer in
    let A = AtEnd (left c.skip.new.input) in
    let last = g.S.Source.faults c.skip.new.input in
    subst (λ (n : ℕ). (x : List ℕ) × Takes (left c.args.input.now) (left c.skip.new.input) x × NextAnswer (Err c.skip.result) (c.args.self.now.ahead ++ x) c.args.self.now c.skip.new.self A (Rose n last))
    i.1
    (looking_passes c.skip.result (left c.args.input.now) (left c.loop-at.input) (left c.skip.new.input) c.args.self.now c.loop-at.self c.skip.new.self c.loop-at.looked A (Rose (g.S.Source.faults c.loop-at.input) last)
    i.0 a.0 a.1 a.2)

pub returns-in_err-fill-clause-answer : goal.returns-in_err-fill-clause-answer
returns-in_err-fill-clause-answer g c =
    let left = g.S.Source.left in
    let i = c.loop-at.invariant in
    let a = c.in_err-fill.ensures.answer in
    let stop = c.in_err-fill.field-0.0 in
    let is : Err stop ≡ c.from_residual.result = stop_is c.from_residual.result stop c.from_residual.ensures.1 in
    let A = AtEnd (left c.fill.new.input) in
    let last = g.S.Source.faults c.fill.new.input in
    subst (λ (r : Result (Option ℕ) Stop). (x : List ℕ) × Takes (left c.args.input.now) (left c.fill.new.input) x × NextAnswer r (c.args.self.now.ahead ++ x) c.args.self.now c.fill.new.self A (Rose (g.S.Source.faults c.args.input.now) last))
    is
    (subst (λ (n : ℕ). (x : List ℕ) × Takes (left c.args.input.now) (left c.fill.new.input) x × NextAnswer (Err stop) (c.args.self.now.ahead ++ x) c.args.self.now c.fill.new.self A (Rose n last))
    i.1
    (looking_stops stop (left c.args.input.now) (left c.loop-at.input) (left c.fill.new.input) c.args.self.now c.loop-at.self c.fill.new.self c.fill.new.self c.loop-at.looked A (Rose (g.S.Source.faults c.loop-at.input) last)
    i.0 c.in_default.ensures a.0 a.1 a.2))

pub returns-then-branch-eq0-clause-answer : goal.returns-then-branch-eq0-clause-answer
returns-then-branch-eq0-clause-answer g c =
    let left = g.S.Source.left in
    let i = c.loop-at.invariant in
    let a = c.in_ok-fill.ensures.answer in
    let A = AtEnd (left c.fill.new.input) in
    let last = g.S.Source.faults c.fill.new.input in
    subst (λ (n : ℕ). (x : List ℕ) × Takes (left c.args.input.now) (left c.fill.new.input) x × NextAnswer c.give_rest.result (c.args.self.now.ahead ++ x) c.args.self.now c.give_rest.new.self A (Rose n last))
    i.1
    (looking_rest c.in_ok-fill.field-0 c.give_rest.result (left c.args.input.now) (left c.loop-at.input) (left c.fill.new.input) c.args.self.now c.loop-at.self c.fill.new.self c.give_rest.new.self c.loop-at.looked A
    (Rose (g.S.Source.faults c.loop-at.input) last) i.0 a.0 a.1 a.2 c.if-branch-eq0.true c.give_rest.ensures)

pub loop-at-smaller : goal.loop-at-smaller
loop-at-smaller g c =
    let a = c.in_ok-fill.ensures.answer in
    let long = ap length a.2.1 ∙ length-append c.loop-at.self.ahead a.0 in
    omega (arith, long, a.2.0, a.2.6, c.if-branch-eq0.false)

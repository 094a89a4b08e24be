use Rattle.std.proofs.Common.{◌≡◌, refl, sym, ◌∙◌, Some}
use Rattle.dg_rounds.proofs.SweepLemmas.{progress, step_of, step_behind, same_left, is_some_left}
use Rattle.dg_rounds.specs.Left.{left_of_sweep}
use Rattle.dg_rounds.proofs.sweeps.SweepEventsIterator.next.Goals as goal

pub returns-in-Some-clause-steps : goal.returns-in-Some-clause-steps
returns-in-Some-clause-steps c =
    let s = c.args.self.now in
    let x = c.in-Some.ensures.steps in
    step_of s (record s { current = c.next.new.self }) (Some c.in-Some.event) x (is_some_left _ _ _ x) refl refl

pub returns-in-Some-clause-goes : goal.returns-in-Some-clause-goes
returns-in-Some-clause-goes c =
    let s = c.args.self.now in
    let x = c.in-Some.ensures.steps in
    progress _ left_of_sweep s (record s { current = c.next.new.self }) (Some c.in-Some.event) (λ _. tt) (step_of s (record s { current = c.next.new.self }) (Some c.in-Some.event) x (is_some_left _ _ _ x) refl refl)

pub returns-then-begin_round-clause-steps : goal.returns-then-begin_round-clause-steps
returns-then-begin_round-clause-steps c =
    let s = c.args.self.now in
    let over = c.in_default.ensures.steps in
    let r = record s { current = c.next.new.self } in
    let m = c.begin_round.new.self in
    let t = record m { current = c.next-then-begin_round.new.self } in
    let same : left_of_sweep m ≡ left_of_sweep s = c.if-begin_round.ensures.more refl ∙ same_left s r over.0 over.1 refl refl in
    step_behind s m t c.next-then-begin_round.result same (step_of m t c.next-then-begin_round.result c.next-then-begin_round.ensures.steps (c.if-begin_round.ensures.some refl) refl refl)

pub returns-then-begin_round-clause-goes : goal.returns-then-begin_round-clause-goes
returns-then-begin_round-clause-goes c =
    let t = record c.begin_round.new.self { current = c.next-then-begin_round.new.self } in
    progress _ left_of_sweep c.args.self.now t c.next-then-begin_round.result (λ _. tt) (returns-then-begin_round-clause-steps c)

pub returns-else-begin_round-clause-steps : goal.returns-else-begin_round-clause-steps
returns-else-begin_round-clause-steps c =
    let s = c.args.self.now in
    let over = c.in_default.ensures.steps in
    let r = record s { current = c.next.new.self } in
    let none = c.if-begin_round.ensures.none refl in
    (sym (same_left s r over.0 over.1 refl refl) ∙ none.0, none.1)

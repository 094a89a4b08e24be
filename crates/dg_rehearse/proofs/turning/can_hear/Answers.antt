use Rattle.std.proofs.Common.{◌≡◌, ℕ, ◌<◌, ◌&&◌, Bool, sym, ap, subst, ◌∙◌, arith}
use Rattle.std.specs.Prelude.{is_some}
use Rattle.dg_script.specs.Places.{is_linked}
use Rattle.dg_world.specs.Due.{due_at}
use Rattle.dg_rehearse.proofs.turning.can_hear.Goals as goal

pub returns-then-not-is_set-clause-value : goal.returns-then-not-is_set-clause-value
returns-then-not-is_set-clause-value c = λ boards w is.
    let low : c.args.mote < 16 = omega (arith, c.requires.known, c.requires.few) in
    sym (ap (λ (b : Bool). b && is_some (due_at w c.args.mote)) (sym (c.requires.near c.args.mote low) ∙ sym c.is_set.ensures ∙ c.if-not-is_set.true))

pub returns-clause-linked : goal.returns-clause-linked
returns-clause-linked c = λ _.
    let low : c.args.mote < 16 = omega (arith, c.requires.known, c.requires.few) in
    sym (c.requires.near c.args.mote low) ∙ sym c.is_set.ensures ∙ c.if-not-is_set.false

pub returns-clause-value : goal.returns-clause-value
returns-clause-value c = λ boards w is.
    let low : c.args.mote < 16 = omega (arith, c.requires.known, c.requires.few) in
    c.is_some.ensures ∙ ap is_some (c.due.ensures.value boards w is.is (subst (λ (k : ℕ). c.args.mote < k) (sym is.count) c.requires.known))
    ∙ sym (ap (λ (b : Bool). b && is_some (due_at w c.args.mote)) (sym (c.requires.near c.args.mote low) ∙ sym c.is_set.ensures ∙ c.if-not-is_set.false))

use Rattle.std.proofs.Common.{◌∷◌, [], ◌++◌, ℕ, sym, ap, refl, ◌∙◌, Err}
use Rattle.std.specs.Prelude.{codes}
use Rattle.std.proofs.lemmas.Bool.{eqb-true}
use Rattle.dg_volume.specs.Changes.{order_refusal}
use Rattle.dg_volume.specs.Trails.{order_trail}
use Rattle.dg_volume.proofs.BeginLemmas.{begins_committing}
use Rattle.dg_end.specs.Texts.{numbers, line}
use Rattle.dg_end.specs.Conversions.{end_of_mount, end_of_order}
use Rattle.dg_end.specs.declared.ends.End.TheVariants as ends
use Rattle.dg_tool.specs.Verbs.{order_by}
use Rattle.dg_tool.proofs.BoardLemmas.{some_of, no_boards, at_boards}
use Rattle.dg_tool.proofs.TrailLemmas.{trail_unmounted, trail_first, order_needs, order_kept, order_wants, order_fails}
use Rattle.dg_tool.proofs.ordering.order_first.Goals as goal

pub returns-then-is_empty : goal.returns-then-is_empty
returns-then-is_empty g c = no_boards g.N.Nor.device c.args.boards.now _ _ _ _ _ (eqb-true _ _ (sym c.is_empty.ensures ∙ c.if-is_empty.true))

pub returns-in_err-volume : goal.returns-in_err-volume
returns-in_err-volume g c =
    let o = c.args.order.now in
    let x = c.in_err-volume in
    at_boards _ c.from_residual.result (end_of_mount x.field-0.0) _ _ _ _ c.from_residual.ensures.1
    (trail_unmounted g.N.Nor.device c.args.boards.now _ _ ⊥ (λ s. order_by o (order_refusal s o)) (λ s. order_trail s o) (some_of _ (sym c.is_empty.ensures ∙ c.if-is_empty.false)) (λ s. order_needs o (order_refusal s o))
    (λ s. begins_committing s _) x.field-0.0 (λ e. x.ensures.stopped (ap (λ f. Err f) e)) (λ e. x.ensures.not_a_volume (ap (λ f. Err f) e)) (λ e. x.ensures.refused (ap (λ f. Err f) e)))

pub returns-in_err-order : goal.returns-in_err-order
returns-in_err-order g c =
    let o = c.args.order.now in
    let x = c.in_err-order in
    let m = c.in_ok-volume.ensures in
    at_boards _ c.from_residual-in_err-order.result (end_of_order x.field-0.0) _ _ _ _ c.from_residual-in_err-order.ensures.1
    (trail_first g.N.Nor.device c.args.boards.now _ _ ⊥ (λ s. order_by o (order_refusal s o)) (λ s. order_trail s o) (some_of _ (sym c.is_empty.ensures ∙ c.if-is_empty.false)) (λ s. order_needs o (order_refusal s o))
    _ _ c.in_ok-volume.volume m.looked m.same_image m.volume m.mounted
    (λ s there. order_fails s o _ _ ℕ x.field-0.0 (x.ensures.allowed s there) (λ other. x.ensures.refused x.field-0.0 refl other s there) (λ other. (x.ensures.unchanged x.field-0.0 refl other).0) (λ e. x.ensures.stopped (ap (λ f. Err f) e) s there)))

pub returns-in_err-line : goal.returns-in_err-line
returns-in_err-line g c =
    let o = c.args.order.now in
    let m = c.in_ok-volume.ensures in
    let kept = c.in_ok-order.ensures in
    at_boards _ c.from_residual-in_err-line.result ends.Memory _ _ _ _ c.from_residual-in_err-line.ensures.1
    (trail_first g.N.Nor.device c.args.boards.now _ _ ⊥ (λ s. order_by o (order_refusal s o)) (λ s. order_trail s o) (some_of _ (sym c.is_empty.ensures ∙ c.if-is_empty.false)) (λ s. order_needs o (order_refusal s o))
    _ _ c.in_ok-volume.volume m.looked m.same_image m.volume m.mounted
    (λ s there. order_wants s o _ _ c.order.new.self (kept.allowed s there) (kept.acted s there)))

pub returns : goal.returns
returns g c =
    let o = c.args.order.now in
    let m = c.in_ok-volume.ensures in
    let kept = c.in_ok-order.ensures in
    trail_first g.N.Nor.device c.args.boards.now _ _ ⊥ (λ s. order_by o (order_refusal s o)) (λ s. order_trail s o) (some_of _ (sym c.is_empty.ensures ∙ c.if-is_empty.false)) (λ s. order_needs o (order_refusal s o))
    _ _ c.in_ok-volume.volume m.looked m.same_image m.volume m.mounted
    (λ s there. order_kept s o _ _ c.order.new.self c.in_ok-line.line.items (kept.allowed s there) (c.in_ok-line.ensures ∙ ap (λ (n : ℕ). line (codes "order" ++ numbers (0 ∷ o.number ∷ n ∷ o.version ∷ []))) c.from-image.ensures) (kept.acted s there))

use Rattle.std.proofs.Common.{ℕ, ◌*◌, ap, ◌∙◌}
use Rattle.dg_layout.specs.Layout.{left_of}
use Rattle.dg_picture.specs.Picture.{place_text, tick_line, tick_text}
use Rattle.dg_picture.proofs.DrawLemmas.{three_parts}
use Rattle.dg_picture.proofs.axis.push_tick.Goals as goal

pub returns : goal.returns
unfolding tick_text
returns c =
    three_parts _ _ _ _ _ _ _ _ _ c.in_ok-push_line.ensures
    (ap (λ (left : ℕ). tick_line left c.foot_of.result) c.left_of.ensures
    ∙ ap (λ (foot : ℕ). tick_line (left_of c.args.grid (10 * c.args.tick)) foot) c.foot_of.ensures.value)
    c.in_ok-push_place.ensures (ap (λ (place : ℕ). place_text c.args.timed place) c.place_at.ensures)
    c.in_ok-extend_from_slice.ensures.items

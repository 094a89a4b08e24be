use Rattle.std.proofs.Common.{ℕ, ap}
use Rattle.dg_layout.specs.Layout.{each}
use Rattle.dg_picture.specs.Picture.{bar_text, image_text}
use Rattle.dg_picture.proofs.DrawLemmas.{six_parts, held_are}
use Rattle.dg_picture.proofs.bars.push_image.Goals as goal

pub returns : goal.returns
unfolding image_text
returns c =
    let same = held_are c.in_ok-counts.counts c.args.image c.args.told.now c.in_ok-counts.ensures in
    six_parts _ _ _ _ _ _ _ _ _ _ _ _ _ _ c.in_ok-push_group.ensures c.in_ok-push_bars.ensures
    (ap (λ (most : ℕ → ℕ). each (bar_text most c.args.frame c.args.grid c.args.changes.now c.args.image) c.args.frame.rows) same)
    c.in_ok-extend_from_slice.ensures.items c.in_ok-push_versions.ensures c.in_ok-push_all_kept.ensures c.in_ok-extend_from_slice-2.ensures.items

use Rattle.std.proofs.Common.{refl}
use Rattle.std.specs.Prelude.{codes}
use Rattle.dg_events.specs.Frames.{frame_names}
use Rattle.dg_events.specs.RefusedFrames.{fault_names}
use Rattle.dg_cost_text.proofs.MomentLemmas.{none_yet, none_then, part_then, shared_then}
use Rattle.dg_cost.proofs.RowLemmas.{piece_more, piece_last}
use Rattle.dg_cost.proofs.frame_rows.frame_rows.Goals as goal

pub returns-clause-frames : goal.returns-clause-frames
returns-clause-frames c = record {
  sent = piece_more _ (piece_more _ (piece_more _ (piece_more _ (piece_more _ (piece_more _ (piece_last _ _ c.in_ok-push_kinds.ensures) c.in_ok-append.ensures.rows) c.in_ok-push_kinds-2.ensures) c.in_ok-push_outside.ensures) c.in_ok-push_refused.ensures) c.in_ok-push_refused_outside.ensures) c.in_ok-append-2.ensures.rows;
  heard = piece_more _ (piece_more _ (piece_more _ (piece_more _ (piece_last _ _ c.in_ok-push_kinds-2.ensures) c.in_ok-push_outside.ensures) c.in_ok-push_refused.ensures) c.in_ok-push_refused_outside.ensures) c.in_ok-append-2.ensures.rows;
  outside = piece_more _ (piece_more _ (piece_more _ (piece_last _ _ c.in_ok-push_outside.ensures) c.in_ok-push_refused.ensures) c.in_ok-push_refused_outside.ensures) c.in_ok-append-2.ensures.rows;
  refused = piece_more _ (piece_more _ (piece_last _ _ c.in_ok-push_refused.ensures) c.in_ok-push_refused_outside.ensures) c.in_ok-append-2.ensures.rows;
  refused_outside = piece_more _ (piece_last _ _ c.in_ok-push_refused_outside.ensures) c.in_ok-append-2.ensures.rows;
}

pub returns-clause-moments : goal.returns-clause-moments
returns-clause-moments c =
    let o = c.args.outside.now in
    let sent = none_then _ (none_yet c.new-rows.ensures) c.in_ok-push_kinds.ensures refl in
    let unheard = part_then sent c.in_ok-unheard_rows.ensures c.in_ok-append.ensures.rows in
    let heard = none_then _ unheard c.in_ok-push_kinds-2.ensures refl in
    let outside = shared_then (codes "outside.") frame_names o.came heard c.in_ok-push_outside.ensures (λ rest. refl) in
    let refused = shared_then (codes "refused.frame.") fault_names c.args.frames.now.refused outside c.in_ok-push_refused.ensures (λ rest. refl) in
    let refused_outside = shared_then (codes "refused.outside.") fault_names o.refused refused c.in_ok-push_refused_outside.ensures (λ rest. refl) in
    part_then refused_outside c.in_ok-answer_rows.ensures c.in_ok-append-2.ensures.rows

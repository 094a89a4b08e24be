use Rattle.std.proofs.Common.{ℕ, List, [], refl, subst}
use Rattle.std.specs.Prelude.{codes, slice_index_or}
use Rattle.dg_cost_text.specs.Table.{table_of_rows}
use Rattle.dg_cost_text.proofs.MomentLemmas.{none_yet, none_then, part_then, named_then}
use Rattle.dg_events.specs.FrameCounters.{no_outside}
use Rattle.dg_events.specs.declared.frame_counter.FrameCounts.{FrameCounts}
use Rattle.dg_events.specs.declared.outside_counts.OutsideCounts.{OutsideCounts}
use Rattle.dg_cost.specs.FrameRows.{HasFrameCounts}
use Rattle.dg_cost.specs.EventRows.{image_names, rows_of_events}
use Rattle.dg_cost.proofs.MomentRowLemmas.{events_none, part_has}
use Rattle.dg_cost.proofs.RowLemmas.{piece_more, piece_last, piece_in}
use Rattle.dg_cost.proofs.mote_rows.mote_rows.Goals as goal

pub returns-clause-counts : goal.returns-clause-counts
returns-clause-counts c = record {
  events = piece_more _ (piece_more _ (piece_more _ (piece_more _ (piece_more _ (piece_more _ (piece_last _ _ c.in_ok-push_events.ensures) c.in_ok-append.ensures.rows) c.in_ok-push_starts.ensures) c.in_ok-append-2.ensures.rows) c.in_ok-push_images.ensures) c.in_ok-append-3.ensures.rows) c.in_ok-append-4.ensures.rows;
  starts = piece_more _ (piece_more _ (piece_more _ (piece_more _ (piece_last _ _ c.in_ok-push_starts.ensures) c.in_ok-append-2.ensures.rows) c.in_ok-push_images.ensures) c.in_ok-append-3.ensures.rows) c.in_ok-append-4.ensures.rows;
  images = piece_more _ (piece_more _ (piece_last _ _ c.in_ok-push_images.ensures) c.in_ok-append-3.ensures.rows) c.in_ok-append-4.ensures.rows;
}

pub returns-clause-power : goal.returns-clause-power
returns-clause-power c = piece_more _ (piece_more _ (piece_more _ (piece_more _ (piece_more _ (piece_more _ (piece_more _ (piece_last _ _ c.in_ok-push_power.ensures) c.in_ok-push_events.ensures) c.in_ok-append.ensures.rows) c.in_ok-push_starts.ensures) c.in_ok-append-2.ensures.rows) c.in_ok-push_images.ensures) c.in_ok-append-3.ensures.rows) c.in_ok-append-4.ensures.rows

pub returns-clause-frames : goal.returns-clause-frames
returns-clause-frames c =
    let table : List (List ℕ × ℕ) = table_of_rows c.append-4.new.self in
    let has : HasFrameCounts c.at-counts.result c.outside_at-outside.result table = record {
      sent = piece_more _ (piece_more _ (piece_more _ (piece_more _ (piece_more _ (piece_in _ c.in_ok-frame_rows.ensures.frames.sent c.in_ok-append.ensures.rows) c.in_ok-push_starts.ensures) c.in_ok-append-2.ensures.rows) c.in_ok-push_images.ensures) c.in_ok-append-3.ensures.rows) c.in_ok-append-4.ensures.rows;
      heard = piece_more _ (piece_more _ (piece_more _ (piece_more _ (piece_more _ (piece_in _ c.in_ok-frame_rows.ensures.frames.heard c.in_ok-append.ensures.rows) c.in_ok-push_starts.ensures) c.in_ok-append-2.ensures.rows) c.in_ok-push_images.ensures) c.in_ok-append-3.ensures.rows) c.in_ok-append-4.ensures.rows;
      outside = piece_more _ (piece_more _ (piece_more _ (piece_more _ (piece_more _ (piece_in _ c.in_ok-frame_rows.ensures.frames.outside c.in_ok-append.ensures.rows) c.in_ok-push_starts.ensures) c.in_ok-append-2.ensures.rows) c.in_ok-push_images.ensures) c.in_ok-append-3.ensures.rows) c.in_ok-append-4.ensures.rows;
      refused = piece_more _ (piece_more _ (piece_more _ (piece_more _ (piece_more _ (piece_in _ c.in_ok-frame_rows.ensures.frames.refused c.in_ok-append.ensures.rows) c.in_ok-push_starts.ensures) c.in_ok-append-2.ensures.rows) c.in_ok-push_images.ensures) c.in_ok-append-3.ensures.rows) c.in_ok-append-4.ensures.rows;
      refused_outside = piece_more _ (piece_more _ (piece_more _ (piece_more _ (piece_more _ (piece_in _ c.in_ok-frame_rows.ensures.frames.refused_outside c.in_ok-append.ensures.rows) c.in_ok-push_starts.ensures) c.in_ok-append-2.ensures.rows) c.in_ok-push_images.ensures) c.in_ok-append-3.ensures.rows) c.in_ok-append-4.ensures.rows;
    } in
    subst (λ (f : FrameCounts). HasFrameCounts f (slice_index_or c.args.frames.now.outside c.args.mote no_outside) table) c.at-counts.ensures
    (subst (λ (o : OutsideCounts). HasFrameCounts c.at-counts.result o table) c.outside_at-outside.ensures has)

pub returns-clause-flash : goal.returns-clause-flash
returns-clause-flash c = piece_more _ (piece_in _ c.in_ok-flash_rows.ensures.run c.in_ok-append-3.ensures.rows) c.in_ok-append-4.ensures.rows

pub returns-clause-moments : goal.returns-clause-moments
returns-clause-moments c =
    let e = c.args.events.now in
    let power = none_then _ (none_yet c.new-rows.ensures) c.in_ok-push_power.ensures refl in
    let events = none_then (rows_of_events e.events e.refused e.cuts) power c.in_ok-push_events.ensures (events_none e.events e.refused e.cuts) in
    let frames = part_then events c.in_ok-frame_rows.ensures.moments c.in_ok-append.ensures.rows in
    let starts = none_then _ frames c.in_ok-push_starts.ensures refl in
    let failed = part_then starts c.in_ok-failed_rows.ensures c.in_ok-append-2.ensures.rows in
    let images = named_then (codes "starts.image.") [] image_names e.of_image failed c.in_ok-push_images.ensures (λ rest. refl) in
    let flash = part_then images c.in_ok-flash_rows.ensures.moments c.in_ok-append-3.ensures.rows in
    part_has c.append-3.new.self c.append-4.new.self c.args.mote c.args.wholes.now.moments flash c.in_ok-chip_rows.ensures
    c.in_ok-append-4.ensures.rows c.in_ok-append-4.ensures.sums

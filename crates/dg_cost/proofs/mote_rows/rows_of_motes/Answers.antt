use Rattle.std.proofs.Common.{◌≡◌, ℕ, ◌+◌, List, [], ◌∷◌, ◌++◌, length, ap, subst, ◌∙◌, length-append}
use Rattle.std.specs.Prelude.{slice_index_or}
use Rattle.dg_events.specs.Uptimes.{never_on}
use Rattle.dg_events.specs.declared.event_counts.EventCounts.{EventCounts}
use Rattle.dg_events.specs.declared.uptime.Uptime.{Uptime}
use Rattle.dg_cost_text.specs.Table.{table_of_rows}
use Rattle.dg_cost_text.specs.declared.rows.Rows.{Rows}
use Rattle.dg_count.specs.Ended.{counts_at}
use Rattle.dg_cost.specs.EventRows.{HasCounts, HasRows}
use Rattle.dg_cost.specs.TimeRows.{rows_of_power}
use Rattle.dg_events.specs.FrameCounters.{no_frames, no_outside}
use Rattle.dg_cost.specs.FrameRows.{HasFrameCounts}
use Rattle.dg_meter.specs.declared.tally.Tally.{Tally}
use Rattle.dg_count.specs.Chips.{no_tally}
use Rattle.dg_cost.specs.FlashRows.{flash_run_rows}
use Rattle.dg_cost.specs.MomentRows.{HasMoments}
use Rattle.dg_cost.proofs.RowLemmas.{each_pushed}
use Rattle.dg_cost.proofs.mote_rows.rows_of_motes.Goals as goal

pub loop-mote-preserved : goal.loop-mote-preserved
loop-mote-preserved c =
    let before = c.loop-mote.invariant in
    let i : ℕ = c.loop-mote.mote in
    let motes : List Rows = c.loop-mote.motes.items in
    let rows : Rows = c.in_ok-rows.rows in
    let items : c.push.new.self.items ≡ motes ++ rows ∷ [] = c.in_ok-push.ensures.items in
    let table : List (List ℕ × ℕ) = table_of_rows rows in
    let counts : HasCounts (counts_at c.args.ended c.args.counter.now.events i) table =
    subst (λ (e : EventCounts). HasCounts e table) c.events_at-events.ensures c.in_ok-rows.ensures.counts in
    let power : HasRows (rows_of_power (slice_index_or c.args.times.now.motes i never_on) c.args.times.now.ms) table =
    subst (λ (u : Uptime). HasRows (rows_of_power u c.args.times.now.ms) table) c.at-uptime.ensures c.in_ok-rows.ensures.power in
    let frames : HasFrameCounts (slice_index_or c.args.counter.now.frames.motes i no_frames) (slice_index_or c.args.counter.now.frames.outside i no_outside) table =
    c.in_ok-rows.ensures.frames in
    let flash : HasRows (flash_run_rows (slice_index_or c.args.counter.now.formatted i no_tally) (slice_index_or c.args.counter.now.settled i no_tally)) table =
    subst (λ (t : Tally). HasRows (flash_run_rows t (slice_index_or c.args.counter.now.settled i no_tally)) table) c.tally_at-formatted.ensures
    (subst (λ (t : Tally). HasRows (flash_run_rows c.tally_at-formatted.result t) table) c.tally_at-settled.ensures c.in_ok-rows.ensures.flash) in (
      ap length items ∙ length-append motes (rows ∷ []) ∙ ap (λ (n : ℕ). n + 1) before.0,
      each_pushed (λ (m : ℕ) (r : Rows). HasCounts (counts_at c.args.ended c.args.counter.now.events m) (table_of_rows r)) motes
          c.push.new.self.items rows i items before.0 before.1 counts,
      each_pushed (λ (m : ℕ) (r : Rows). HasRows (rows_of_power (slice_index_or c.args.times.now.motes m never_on) c.args.times.now.ms) (table_of_rows r))
          motes c.push.new.self.items rows i items before.0 before.2 power,
      each_pushed (λ (m : ℕ) (r : Rows). HasFrameCounts (slice_index_or c.args.counter.now.frames.motes m no_frames) (slice_index_or c.args.counter.now.frames.outside m no_outside) (table_of_rows r)) motes
          c.push.new.self.items rows i items before.0 before.3 frames,
      each_pushed (λ (m : ℕ) (r : Rows). HasRows (flash_run_rows (slice_index_or c.args.counter.now.formatted m no_tally) (slice_index_or c.args.counter.now.settled m no_tally)) (table_of_rows r))
          motes c.push.new.self.items rows i items before.0 before.4 flash,
      each_pushed (λ (m : ℕ) (r : Rows). HasMoments m c.args.counter.now.wholes.moments r) motes c.push.new.self.items rows i items before.0 before.5
          c.in_ok-rows.ensures.moments,
    )

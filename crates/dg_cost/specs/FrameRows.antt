-- The rows of frames in the counts of a run (docs/COMMANDS.md, "What a script costs").
use Rattle.std.specs.Prelude.{ℕ, ◌*◌, ◌-◌, ◌^◌, min, Bool, List, ◌++◌, codes, map, slice_index}
use Rattle.std.specs.List.{range_with_len}
use Rattle.dg_meter.specs.declared.share.Share.{Share}
use Rattle.dg_rules.specs.Runs.{Played}
use Rattle.dg_events.specs.Counts.{count_at}
use Rattle.dg_events.specs.Told.{Happened}
use Rattle.dg_events.specs.Frames.{frame_size, frame_names, sent_at, sent_bytes_at, is_heard, is_from_outside, bytes_at}
use Rattle.dg_events.specs.FrameShares.{brought_share}
use Rattle.dg_events.specs.RefusedFrames.{fault_names, is_refused_frame, is_refused_outside}
use Rattle.dg_events.specs.declared.frame_counter.FrameCounts.{FrameCounts}
use Rattle.dg_events.specs.declared.outside_counts.OutsideCounts.{OutsideCounts}
use Rattle.dg_cost_text.specs.Table.{share_rows, shared_rows}
use Rattle.dg_cost.specs.EventRows.{HasRows}

-- the rows of all kinds, by the number of each
abbrev pub rows_of_frames : (before : List ℕ) → (count bytes : ℕ → ℕ) → List (List ℕ × ℕ)
rows_of_frames before count bytes =
    share_rows before (codes "advert") (count 0) (bytes 0) ++ (share_rows before (codes "request") (count 1) (bytes 1)
    ++ (share_rows before (codes "packet") (count 2) (bytes 2) ++ share_rows before (codes "wide") (count 3) (bytes 3)))

-- ---- rows of counts

-- so many frames of a kind have so many bytes, up to the greatest number of 64 bits
abbrev pub bytes_of_kind : (kind count : ℕ) → ℕ
bytes_of_kind kind count = min (count * frame_size kind) (2 ^ 64 - 1)

abbrev pub counted_rows : (before counts : List ℕ) → List (List ℕ × ℕ)
counted_rows before counts =
    rows_of_frames before (λ (k : ℕ). slice_index counts k) (λ (k : ℕ). bytes_of_kind k (slice_index counts k))

-- refused frames, by the number of their cause
abbrev pub refused_shares : List Share → List (List ℕ × ℕ)
refused_shares shares = shared_rows (codes "refused.frame.") fault_names shares

-- what came from outside, by kind, and what of it was refused, by the number of the cause
abbrev pub outside_shares : List Share → List (List ℕ × ℕ)
outside_shares shares = shared_rows (codes "outside.") frame_names shares

abbrev pub refused_outside_shares : List Share → List (List ℕ × ℕ)
refused_outside_shares shares = shared_rows (codes "refused.outside.") fault_names shares

-- The table of a mote has the rows of these counts.
pub record HasFrameCounts (c : FrameCounts) (o : OutsideCounts) (table : List (List ℕ × ℕ)) : Type 0 where
  pub sent : HasRows (counted_rows (codes "sent.") c.sent) table
  pub heard : HasRows (counted_rows (codes "heard.") c.heard) table
  pub outside : HasRows (outside_shares o.came) table
  pub refused : HasRows (refused_shares c.refused) table
  pub refused_outside : HasRows (refused_outside_shares o.refused) table

-- ---- rows of a run

-- the frames that a mote sent, and those that it heard
abbrev pub sent_rows : (mote : ℕ) → List Played → List (List ℕ × ℕ)
sent_rows mote played =
    rows_of_frames (codes "sent.") (λ (k : ℕ). sent_at mote k played) (λ (k : ℕ). sent_bytes_at mote k played)

abbrev pub heard_rows : (mote : ℕ) → List Played → List (List ℕ × ℕ)
heard_rows mote played =
    rows_of_frames (codes "heard.") (λ (k : ℕ). count_at mote (is_heard k) played) (λ (k : ℕ). bytes_at mote (is_heard k) played)

-- the frames that the events at a mote bring, and their bytes, by each of five tests
abbrev pub five_shares : (mote : ℕ) → (tests : ℕ → Happened → Bool) → List Played → List Share
five_shares mote tests played = map (λ (k : ℕ). brought_share mote (tests k) played) (range_with_len 0 5)

-- The table of a mote has the rows of the frames that it sent and heard in what was played, and of those that came to it from
-- outside, by kind; and of those that it refused, by cause.
pub record HasFrameRows (mote : ℕ) (played : List Played) (table : List (List ℕ × ℕ)) : Type 0 where
  pub sent : HasRows (sent_rows mote played) table
  pub heard : HasRows (heard_rows mote played) table
  pub outside : HasRows (outside_shares (five_shares mote is_from_outside played)) table
  pub refused : HasRows (refused_shares (five_shares mote is_refused_frame played)) table
  pub refused_outside : HasRows (refused_outside_shares (five_shares mote is_refused_outside played)) table

-- How many frames events bring, and their bytes, as counters hold them (the type `Share`).
use Rattle.std.specs.Prelude.{◌≡◌, ℕ, ◌-◌, ◌^◌, ◌<◌, min, Bool, List, length, slice_index_or, slice_set, Option, Some, None}
use Rattle.dg_meter.specs.Shares.{no_share, one_more}
use Rattle.dg_meter.specs.declared.share.Share.{Share}
use Rattle.dg_frame.specs.declared.FrameFault.{FrameFault}
use Rattle.dg_rules.specs.Runs.{Played}
use Rattle.dg_events.specs.Told.{Happened}
use Rattle.dg_events.specs.Counts.{count_at}
use Rattle.dg_events.specs.Frames.{bytes_at}
use Rattle.dg_events.specs.RefusedFrames.{fault_number}

-- the events at a mote that pass a test, and the bytes of the frames that they bring
abbrev pub brought_share : (mote : ℕ) → (Happened → Bool) → List Played → Share
brought_share mote test played = record { count = count_at mote test played; bytes = bytes_at mote test played }

-- the same, where both end at the greatest number of 64 bits
abbrev pub capped_share : Share → Share
capped_share s = record { count = min s.count (2 ^ 64 - 1); bytes = min s.bytes (2 ^ 64 - 1) }

-- Each share is that of the mote's events that pass the test of that number.
pub record AreShares (mote : ℕ) (tests : ℕ → Happened → Bool) (played : List Played) (kinds : ℕ)
    (shares : List Share) : Type 0 where
  pub long : length shares ≡ kinds
  pub each : (k : ℕ) → k < kinds → slice_index_or shares k no_share ≡ capped_share (brought_share mote (tests k) played)

-- one more of a kind, of this many bytes
abbrev pub with_one : (kind bytes : ℕ) → List Share → List Share
with_one kind bytes shares = slice_set shares kind (one_more (slice_index_or shares kind no_share) bytes)

-- one more of a fault, if there is one
abbrev pub with_fault : Option FrameFault → (bytes : ℕ) → List Share → List Share
with_fault None bytes shares = shares
with_fault (Some fault) bytes shares = with_one (fault_number fault) bytes shares

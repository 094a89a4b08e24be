-- What a counter of frames has counted (the type `FrameCounter`), and what it is told of an event.
use Rattle.std.specs.Prelude.{◌≡◌, ◌⊎◌, ℕ, ◌+◌, ◌*◌, ◌<◌, ◌≤◌, true, false, List, ◌∷◌, ◌++◌, [], length, slice_get}
use Rattle.std.specs.Prelude.{slice_index, replicate}
use Rattle.std.specs.Prelude.{Option, Some, None, option_map, map, slice_set, slice_index_or}
use Rattle.dg_base.specs.declared.events.Event.{Event}
use Rattle.dg_meter.specs.Shares.{no_share}
use Rattle.dg_frame.specs.Sizes.{wide_frame_size}
use Rattle.dg_frame.specs.declared.FrameFault.{FrameFault}
use Rattle.dg_rules.specs.World.{Sent, frame_at, wide_at}
use Rattle.dg_rules.specs.Events.{mote_of}
use Rattle.dg_rules.specs.Past.{brought}
use Rattle.dg_rules.specs.Runs.{Played}
use Rattle.dg_rules.specs.Sizes.{most_motes}
use Rattle.dg_script.specs.declared.report.Report.{Report}
use Rattle.dg_events.specs.Counts.{count_at}
use Rattle.dg_events.specs.Counters.{as_u64, AreCounts}
use Rattle.dg_events.specs.Frames.{frame_number, frame_size, frames_sent, sent_at, sent_bytes_at, is_hearing, is_heard, bytes_at}
use Rattle.dg_events.specs.Frames.{is_outside, is_from_outside}
use Rattle.dg_events.specs.FrameShares.{AreShares, with_one, with_fault}
use Rattle.dg_events.specs.Noted.{IsEventPlayed, up_at}
use Rattle.dg_events.specs.RefusedFrames.{fault_brought, is_refused_frame, is_refused_outside}
use Rattle.dg_events.specs.declared.sent_frame.HeardFrame.{HeardFrame}
use Rattle.dg_events.specs.declared.sent_frame.SentFrame.{SentFrame}
use Rattle.dg_events.specs.declared.frame_counter.FrameCounts.{FrameCounts}
use Rattle.dg_events.specs.declared.frame_counter.FrameCounter.{FrameCounter}
use Rattle.dg_events.specs.declared.outside_counts.OutsideCounts.{OutsideCounts}

-- Each count is the number of the frames of that kind that the mote sent.
pub record AreSent (mote : ℕ) (played : List Played) (counts : List ℕ) : Type 0 where
  pub long : length counts ≡ 4
  pub each : (k : ℕ) → k < 4 → slice_index counts k ≡ as_u64 (sent_at mote k played)

-- The counts of a mote are those of what was played.
pub record FramesAre (mote : ℕ) (played : List Played) (c : FrameCounts) : Type 0 where
  pub sent : AreSent mote played c.sent
  pub heard : AreCounts mote is_heard played 4 c.heard
  pub refused : AreShares mote is_refused_frame played 5 c.refused

-- the counts of each mote are those of what was played
abbrev pub AllFrames : List FrameCounts → List Played → Type 0
AllFrames motes played = (m : ℕ) (c : FrameCounts) → slice_get motes m ≡ Some c → FramesAre m played c

-- Each frame that was sent or heard has the size of its kind, of which that of a wide advert is the greatest.
pub record AreSized (played : List Played) : Type 0 where
  pub sent : (m k : ℕ) → sent_bytes_at m k played ≡ sent_at m k played * frame_size k
  pub heard : (m k : ℕ) → bytes_at m (is_heard k) played ≡ count_at m (is_heard k) played * frame_size k
  pub refused : (m k : ℕ) → bytes_at m (is_refused_frame k) played ≤ length played * wide_frame_size

-- The log has the frames that were sent, by their kinds, and the counts are those of what was played.
pub record AreFrames (log : List SentFrame) (motes : List FrameCounts) (played : List Played) : Type 0 where
  pub kinds : map (λ (f : SentFrame). f.kind) log ≡ map (λ (s : Sent). frame_number s.bytes) (frames_sent played)
  pub few : length (frames_sent played) ≤ length played
  pub sizes : (n : ℕ) (s : Sent) → slice_get (frames_sent played) n ≡ Some s
      → length s.bytes ≡ frame_size (frame_number s.bytes)
  pub many : length motes ≡ most_motes
  pub each : AllFrames motes played
  pub sized : AreSized played

-- The counts of what came to a mote from outside are those of what was played.
pub record OutsideAre (mote : ℕ) (played : List Played) (c : OutsideCounts) : Type 0 where
  pub came : AreShares mote is_from_outside played 5 c.came
  pub refused : AreShares mote is_refused_outside played 5 c.refused

-- the counts of each mote are those of what was played
pub record AreFromOutside (motes : List OutsideCounts) (played : List Played) : Type 0 where
  pub many : length motes ≡ most_motes
  pub each : (m : ℕ) (c : OutsideCounts) → slice_get motes m ≡ Some c → OutsideAre m played c

-- the counter has counted the frames that were sent, and at each mote those that were heard and those that came from outside,
-- unless memory ran out
abbrev pub HasFrames : FrameCounter → List Played → Type 0
HasFrames c played = c.lost ≡ false → AreFrames c.sent.items c.motes played × AreFromOutside c.outside played

-- what was counted stays counted
abbrev pub KeepsFrames : (before after : FrameCounter) → Type 0
KeepsFrames before after = (played : List Played) → HasFrames before played → HasFrames after played

-- no frame was counted
abbrev pub no_frames : FrameCounts
no_frames = record { sent = replicate 4 0; heard = replicate 4 0; refused = replicate 5 no_share }

-- one more frame of a kind that was sent
abbrev pub with_sent : (kind : ℕ) → FrameCounts → FrameCounts
with_sent kind c = record c { sent = up_at kind c.sent }

-- one more that was heard, and refused if it has a fault
abbrev pub with_heard : (kind : ℕ) → Option FrameFault → FrameCounts → FrameCounts
with_heard kind fault c =
    record c { heard = up_at kind c.heard; refused = with_fault fault (frame_size kind) c.refused }

-- the same among all motes
abbrev pub with_sent_at : (mote kind : ℕ) → List FrameCounts → List FrameCounts
with_sent_at mote kind motes = slice_set motes mote (with_sent kind (slice_index_or motes mote no_frames))

abbrev pub with_heard_at : (mote kind : ℕ) → Option FrameFault → List FrameCounts → List FrameCounts
with_heard_at mote kind fault motes = slice_set motes mote (with_heard kind fault (slice_index_or motes mote no_frames))

-- nothing came from outside
abbrev pub no_outside : OutsideCounts
no_outside = record { came = replicate 5 no_share; refused = replicate 5 no_share }

-- these bytes came from outside, and are refused if they have a fault
abbrev pub with_outside : (bytes : List ℕ) → Option FrameFault → OutsideCounts → OutsideCounts
with_outside bytes fault c = record c {
  came = with_one (frame_number bytes) (length bytes) c.came;
  refused = with_fault fault (length bytes) c.refused;
}

-- the same among all motes
abbrev pub with_outside_at : (mote : ℕ) → (bytes : List ℕ) → Option FrameFault → List OutsideCounts → List OutsideCounts
with_outside_at mote bytes fault motes =
    slice_set motes mote (with_outside bytes fault (slice_index_or motes mote no_outside))

-- ---- the log

-- each frame keeps its kind
abbrev pub KeepsKinds : (before after : List SentFrame) → Type 0
KeepsKinds before after = map (λ (f : SentFrame). f.kind) after ≡ map (λ (f : SentFrame). f.kind) before

-- There is a frame with this number, which has this kind, and each frame keeps its kind.
pub record HasNumbered (number : ℕ) (before after : List SentFrame) (kind : ℕ) : Type 0 where
  pub index : ℕ
  pub number_is : number ≡ index + 1
  pub there : slice_get (map (λ (f : SentFrame). f.kind) before) index ≡ Some kind
  pub kept : KeepsKinds before after

-- what is known of the frame with this number, if there is one
abbrev pub HearsIn : (number : ℕ) → (before after : List SentFrame) → Option HeardFrame → Type 0
HearsIn number before after None = ((number ≡ 0) ⊎ (length before < number)) × (after ≡ before)
HearsIn number before after (Some heard) = HasNumbered number before after heard.kind

-- ---- what is told of an event

-- An event sent no frame, and brought none.
pub record IsFrameless (e : Event) (lines : List Report) (past : List Played) (p : Played) : Type 0 where
  pub played : IsEventPlayed e lines p
  pub sent : p.after.sent ≡ frames_sent past
  pub none : brought p.before e ≡ None

-- An event at a mote sent a frame of this kind, and brought none.
pub record IsSending (e : Event) (lines : List Report) (kind : ℕ) (past : List Played) (p : Played) : Type 0 where
  pub played : IsEventPlayed e lines p
  pub none : brought p.before e ≡ None
  pub bytes : List ℕ
  pub kind_is : frame_number bytes ≡ kind
  pub size : length bytes ≡ frame_size kind
  pub sent : p.after.sent ≡ frames_sent past ++ record { by = mote_of e; bytes = bytes } ∷ []

-- An event brought its mote the frame with this number, if there is one, and sent none. The mote refuses the frame if there is a
-- fault.
pub record IsBringing (e : Event) (lines : List Report) (number : ℕ) (fault : Option FrameFault) (past : List Played)
    (p : Played) : Type 0 where
  pub played : IsEventPlayed e lines p
  pub hears : is_hearing e ≡ true
  pub brings : brought p.before e ≡ option_map (λ (s : Sent). s.bytes) (frame_at p.before number)
  pub refuses : fault_brought (wide_at p.before (mote_of e)) (brought p.before e) ≡ fault
  pub before : p.before.sent ≡ frames_sent past
  pub sent : p.after.sent ≡ frames_sent past

-- An event brought its mote these bytes from outside, and sent no frame. The mote refuses them if there is a fault.
pub record IsBringingBytes (e : Event) (lines : List Report) (bytes : List ℕ) (fault : Option FrameFault) (past : List Played)
    (p : Played) : Type 0 where
  pub played : IsEventPlayed e lines p
  pub outside : is_outside e ≡ true
  pub brings : brought p.before e ≡ Some bytes
  pub refuses : fault_brought (wide_at p.before (mote_of e)) (brought p.before e) ≡ fault
  pub sent : p.after.sent ≡ frames_sent past

-- One more event in the counts of frames.
use Rattle.std.proofs.Common.{◌≡◌, ◌≢◌, ◌⊎◌, inl, inr, ℕ, ◌+◌, ◌*◌, ◌<◌, zero, suc, true, false, ◌==◌, List, [], ◌∷◌, ◌++◌, length, length-append, get_or, set, refl, sym, ap, subst, ◌∙◌, arith}
use Rattle.std.proofs.Common.{Bool, Option, Some, None, ◌≤◌}
use Rattle.std.specs.Prelude.{slice_get, is_some, map, option_map}
use Rattle.std.proofs.lemmas.Bool.{eqb-true}
use Rattle.std.proofs.lemmas.List.{length-set, length-map, map-append}
use Rattle.dg_base.specs.declared.events.Event.{Event}
use Rattle.dg_meter.specs.declared.share.Share.{Share}
use Rattle.dg_frame.specs.Sizes.{wide_frame_size}
use Rattle.dg_frame.specs.declared.FrameFault.{FrameFault}
use Rattle.dg_rules.specs.World.{World, Sent, frame_at, wide_at}
use Rattle.dg_rules.specs.Events.{mote_of}
use Rattle.dg_rules.specs.Past.{brought}
use Rattle.dg_rules.specs.Runs.{Played}
use Rattle.dg_script.specs.declared.report.Report.{Report}
use Rattle.dg_events.specs.Told.{Happened, told_by}
use Rattle.dg_events.specs.Counters.{AreCounts}
use Rattle.dg_events.specs.Frames.{frame_number, frame_size, frames_sent, is_sent, sent_at, sent_bytes_at, is_hearing, is_heard, is_outside, is_from_outside, bytes_brought}
use Rattle.dg_events.specs.FrameCounters.{FramesAre, HasFrames, with_sent, with_heard, with_sent_at, with_heard_at, no_frames, AreFrames, AreFromOutside, OutsideAre, KeepsKinds, HasNumbered, IsFrameless, IsSending, IsBringing, IsBringingBytes, with_outside, with_outside_at, no_outside}
use Rattle.dg_events.specs.FrameShares.{AreShares}
use Rattle.dg_events.specs.RefusedFrames.{fault_brought, is_refused_frame, is_refused_outside}
use Rattle.dg_events.specs.Noted.{IsEventPlayed}
use Rattle.dg_events.specs.declared.told.Told.{Told}
use Rattle.dg_events.specs.declared.sent_frame.SentFrame.{SentFrame}
use Rattle.dg_events.specs.declared.frame_counter.FrameCounts.{FrameCounts}
use Rattle.dg_events.specs.declared.frame_counter.FrameCounter.{FrameCounter}
use Rattle.dg_events.specs.declared.outside_counts.OutsideCounts.{OutsideCounts}
use Rattle.dg_events.proofs.CountLemmas.{Is, none_more, some_more, at_other}
use Rattle.dg_events.proofs.FrameLemmas.{and_both, get_there, all_set, get_map, map_set, some_of, sent_push, after_event, sent_still, sent_push_at, bytes_push_at, sent_more, sent_other, still_sized, past_end, number_some, sizes_push, more_sized, happened_in, is_in, event_in, brought_in, wide_in, told_in, not_brought, refused_unbrought, brought_kind, at_false, heard_sized, never}
use Rattle.dg_events.proofs.OutsideLemmas.{still_outside, outside_unheard, none_outside}
use Rattle.dg_events.proofs.ShareLemmas.{at_none, none_shared, some_shared, fault_shared, not_refused, unheard_refused, frame_small, refused_sized}

-- ---- one more event

one_longer : (past : List Played) (p : Played) → length (past ++ p ∷ []) ≡ length past + 1
one_longer past p = length-append past (p ∷ [])

-- the same counts after an event that sent nothing, and in which no frame of a mote was heard
silent_event : (log : List SentFrame) (motes : List FrameCounts) (past : List Played) (x : Happened) (p : Played) → Is x p
    → p.after.sent ≡ frames_sent past → ((k : ℕ) → is_heard k x ≡ false) → ((k : ℕ) → is_refused_frame k x ≡ false) → AreFrames log motes past
    → AreFrames log motes (past ++ p ∷ [])
silent_event log motes past x p is still none calm has = record {
  kinds = has.kinds ∙ ap (map (λ (s : Sent). frame_number s.bytes)) (sym same);
  few = omega (arith, has.few, ap length same, one_longer past p);
  sizes = λ n s there. has.sizes n s (ap (λ (fs : List Sent). slice_get fs n) (sym same) ∙ there);
  many = has.many;
  each = λ m y there. record {
    sent = sent_still m past (past ++ p ∷ []) y.sent same (has.each m y there).sent;
    heard = none_more m is_heard past x p 4 y.heard is (at_false m x none) (has.each m y there).heard;
    refused = none_shared m is_refused_frame past x p 5 y.refused is (at_none m is_refused_frame x calm) (has.each m y there).refused;
  };
  sized = record {
    sent = λ m k. still_sized past (past ++ p ∷ []) m k same (has.sized.sent m k);
    heard = λ m k. heard_sized past x p m k is (λ heard. never (is_heard k x) (none k) heard) (has.sized.heard m k);
    refused = λ m k. refused_sized past x p m k is (λ refused. never (is_refused_frame k x) (calm k) refused) (has.sized.refused m k);
  };
}
  where
    same : frames_sent (past ++ p ∷ []) ≡ frames_sent past
    same = after_event past p (frames_sent past) still

pub skipped : (c : FrameCounter) (e : Event) (lines : List Report) (past : List Played) (p : Played) → IsFrameless e lines past p
    → HasFrames c past → HasFrames c (past ++ p ∷ [])
skipped c e lines past p h has kept =
    let nothing : (happened_in h.played).brought ≡ None = brought_in h.played ∙ h.none in (
      silent_event c.sent.items c.motes past (happened_in h.played) p (is_in h.played) h.sent
          (λ k. not_brought is_hearing (happened_in h.played) k (inr nothing)) (λ k. not_refused is_hearing (happened_in h.played) k (inr nothing)) (has kept).0,
      none_outside c.outside e lines past p h.played h.none (has kept).1,
    )

-- one that brings a frame with a number that no frame has
number_none : (w : World) (n : ℕ) → (n ≡ 0) ⊎ (length w.sent < n) → frame_at w n ≡ None
number_none w zero far = refl
number_none w (suc n) (inl e) = absurd (omega (arith, e))
number_none w (suc n) (inr far) = number_some w n ∙ past_end w.sent n (omega (arith, far))

pub unknown_frame : (c : FrameCounter) (e : Event) (lines : List Report) (number : ℕ) (fault : Option FrameFault) (past : List Played) (p : Played)
    → IsBringing e lines number fault past p → (number ≡ 0) ⊎ (length c.sent.items < number) → HasFrames c past → HasFrames c (past ++ p ∷ [])
unknown_frame c e lines number fault past p h far has kept =
    skipped c e lines past p (record { played = h.played; sent = h.sent; none = h.brings ∙ ap (option_map (λ (s : Sent). s.bytes)) (number_none p.before number far_sent) }) has kept
  where
    long : length c.sent.items ≡ length p.before.sent
    long = sym (length-map c.sent.items (λ (f : SentFrame). f.kind)) ∙ ap length (has kept).0.kinds
        ∙ length-map (frames_sent past) (λ (s : Sent). frame_number s.bytes) ∙ ap length (sym h.before)

    far_sent : (number ≡ 0) ⊎ (length p.before.sent < number)
    far_sent = by far
      where
        by : (number ≡ 0) ⊎ (length c.sent.items < number) → (number ≡ 0) ⊎ (length p.before.sent < number)
        by (inl zero_is) = inl zero_is
        by (inr past_is) = inr (omega (arith, past_is, long))

-- one that is refused
refused_event : (c : FrameCounter) (e : Event) (lines : List Report) (past : List Played) (p : Played) → (h : IsEventPlayed e lines p)
    → p.after.sent ≡ frames_sent past → is_some (told_by lines).refused ≡ true → HasFrames c past → HasFrames c (past ++ p ∷ [])
refused_event c e lines past p h still refused has kept = (
  silent_event c.sent.items c.motes past (happened_in h) p (is_in h) still (λ k. refused_unbrought is_hearing (happened_in h) k taken)
      (λ k. unheard_refused is_hearing (happened_in h) k taken) (has kept).0,
  still_outside c.outside past (happened_in h) p (is_in h) (λ k. refused_unbrought is_outside (happened_in h) k taken)
      (λ k. unheard_refused is_outside (happened_in h) k taken) (has kept).1,
)
  where
    taken : is_some (happened_in h).told.refused ≡ true
    taken = ap (λ (t : Told). is_some t.refused) (told_in h) ∙ refused

pub refused_frame : (c : FrameCounter) (e : Event) (lines : List Report) (number : ℕ) (fault : Option FrameFault) (past : List Played) (p : Played)
    → IsBringing e lines number fault past p → is_some (told_by lines).refused ≡ true → HasFrames c past → HasFrames c (past ++ p ∷ [])
refused_frame c e lines number fault past p h refused has kept = refused_event c e lines past p h.played h.sent refused has kept

-- one that brought a frame of this kind that is heard, and refused if it has a fault
heard_event : (log now : List SentFrame) (motes : List FrameCounts) (i kind : ℕ) (bytes : List ℕ) (fault : Option FrameFault) (e : Event) (lines : List Report) (past : List Played) (p : Played)
    → (h : IsEventPlayed e lines p) → is_hearing e ≡ true → brought p.before e ≡ Some bytes → frame_number bytes ≡ kind → length bytes ≡ frame_size kind
    → fault_brought (wide_at p.before (mote_of e)) (brought p.before e) ≡ fault
    → p.after.sent ≡ frames_sent past → is_some (told_by lines).refused ≡ false → i ≡ mote_of e
    → map (λ (f : SentFrame). f.kind) now ≡ map (λ (f : SentFrame). f.kind) log
    → AreFrames log motes past → AreFrames now (with_heard_at i kind fault motes) (past ++ p ∷ [])
heard_event log now motes i kind bytes fault e lines past p h hears brings kind_is size_is why still taken here kinds has = record {
  kinds = kinds ∙ has.kinds ∙ ap (map (λ (s : Sent). frame_number s.bytes)) (sym same);
  few = omega (arith, has.few, ap length same, one_longer past p);
  sizes = λ n s there. has.sizes n s (ap (λ (fs : List Sent). slice_get fs n) (sym same) ∙ there);
  many = length-set motes i (with_heard kind fault (get_or motes i no_frames)) ∙ has.many;
  each = all_set (λ (m : ℕ) (y : FrameCounts). FramesAre m (past ++ p ∷ []) y) motes i (with_heard kind fault (get_or motes i no_frames)) heard_here others;
  sized = record {
    sent = λ m k. still_sized past (past ++ p ∷ []) m k same (has.sized.sent m k);
    heard = λ m k. heard_sized past (happened_in h) p m k (is_in h) (size k) (has.sized.heard m k);
    refused = λ m k. refused_sized past (happened_in h) p m k (is_in h) (λ refused. few) (has.sized.refused m k);
  };
}
  where
    same : frames_sent (past ++ p ∷ []) ≡ frames_sent past
    same = after_event past p (frames_sent past) still

    hearing : is_hearing (happened_in h).event ≡ true
    hearing = ap is_hearing (event_in h) ∙ hears

    told : is_some (happened_in h).told.refused ≡ false
    told = ap (λ (t : Told). is_some t.refused) (told_in h) ∙ taken

    test : (k : ℕ) → is_heard k (happened_in h) ≡ (kind == k)
    test k = brought_kind is_hearing (happened_in h) bytes kind k hearing told (brought_in h ∙ brings) kind_is

    sized : bytes_brought (happened_in h).brought ≡ frame_size kind
    sized = ap bytes_brought (brought_in h ∙ brings) ∙ size_is

    size : (k : ℕ) → is_heard k (happened_in h) ≡ true → bytes_brought (happened_in h).brought ≡ frame_size k
    size k heard = sized ∙ ap frame_size (eqb-true kind k (sym (test k) ∙ heard))

    few : bytes_brought (happened_in h).brought ≤ wide_frame_size
    few = omega (arith, sized, frame_small kind)

    fault_is : fault_brought (happened_in h).wide (happened_in h).brought ≡ fault
    fault_is =
        ap (λ (wide : Bool). fault_brought wide (happened_in h).brought) (wide_in h)
        ∙ ap (λ (o : Option (List ℕ)). fault_brought (wide_at p.before (mote_of e)) o) (brought_in h) ∙ why

    at_mote : mote_of (happened_in h).event ≡ i
    at_mote = ap mote_of (event_in h) ∙ sym here

    heard_here : i < length motes → FramesAre i (past ++ p ∷ []) (with_heard kind fault (get_or motes i no_frames))
    heard_here lt =
        let before : FramesAre i past (get_or motes i no_frames) = has.each i (get_or motes i no_frames) (get_there motes i no_frames lt) in
        record {
          sent = sent_still i past (past ++ p ∷ []) (get_or motes i no_frames).sent same before.sent;
          heard = some_more i is_heard past (happened_in h) p 4 kind (get_or motes i no_frames).heard (is_in h) at_mote test before.heard;
          refused = fault_shared is_hearing i past (happened_in h) p fault (frame_size kind) (get_or motes i no_frames).refused (is_in h) at_mote hearing told fault_is
              sized before.refused;
        }

    others : (m : ℕ) (y : FrameCounts) → m ≢ i → slice_get motes m ≡ Some y → FramesAre m (past ++ p ∷ []) y
    others m y other there = record {
      sent = sent_still m past (past ++ p ∷ []) y.sent same (has.each m y there).sent;
      heard = none_more m is_heard past (happened_in h) p 4 y.heard (is_in h) (λ k. at_other m (is_heard k) (happened_in h) elsewhere)
          (has.each m y there).heard;
      refused = none_shared m is_refused_frame past (happened_in h) p 5 y.refused (is_in h)
          (λ k. at_other m (is_refused_frame k) (happened_in h) elsewhere) (has.each m y there).refused;
    }
      where
        elsewhere : mote_of (happened_in h).event ≢ m
        elsewhere at = other (sym at ∙ at_mote)

-- the frame with a number, by the log
module _ (log now : List SentFrame) (motes : List FrameCounts) (number kind : ℕ) (fault : Option FrameFault) (e : Event) (lines : List Report) (past : List Played) (p : Played) (h : IsBringing e lines number fault past p) (at : HasNumbered number log now kind) (are : AreFrames log motes past) where
  at_number : option_map (λ (s : Sent). frame_number s.bytes) (slice_get (frames_sent past) at.index) ≡ Some kind
  at_number =
      sym (get_map (λ (s : Sent). frame_number s.bytes) (frames_sent past) at.index)
      ∙ ap (λ (ks : List ℕ). slice_get ks at.index) (sym are.kinds) ∙ at.there

  found : (s : Sent) × (slice_get (frames_sent past) at.index ≡ Some s) × (frame_number s.bytes ≡ kind)
  found = some_of (slice_get (frames_sent past) at.index) (λ (s : Sent). frame_number s.bytes) kind at_number

  number_suc : number ≡ suc at.index
  number_suc = omega (arith, at.number_is)

  brings_it : brought p.before e ≡ Some found.0.bytes
  brings_it =
      h.brings ∙ ap (option_map (λ (s : Sent). s.bytes)) (ap (frame_at p.before) number_suc ∙ number_some p.before at.index
      ∙ ap (λ (fs : List Sent). slice_get fs at.index) h.before ∙ found.1)

  pub heard_frame : (i : ℕ) → is_some (told_by lines).refused ≡ false → i ≡ mote_of e → AreFrames now (with_heard_at i kind fault motes) (past ++ p ∷ [])
  heard_frame i taken here =
      heard_event log now motes i kind found.0.bytes fault e lines past p h.played h.hears brings_it found.2
      (are.sizes at.index found.0 found.1 ∙ ap frame_size found.2) h.refuses h.sent taken here at.kept are

-- one that brought these bytes from outside, which are refused if they have a fault
pub outside_event : (c : FrameCounter) (now : List OutsideCounts) (i : ℕ) (bytes : List ℕ) (fault : Option FrameFault) (e : Event) (lines : List Report)
    (past : List Played) (p : Played) → IsBringingBytes e lines bytes fault past p → is_some (told_by lines).refused ≡ false → i ≡ mote_of e
    → now ≡ with_outside_at i bytes fault c.outside → HasFrames c past → HasFrames (record c { outside = now }) (past ++ p ∷ [])
outside_event c now i bytes fault e lines past p h taken here now_is has kept = (
  silent_event c.sent.items c.motes past x p is h.sent (λ k. not_brought is_hearing x k (inl unheard)) (λ k. not_refused is_hearing x k (inl unheard))
      (has kept).0,
  subst (λ (ms : List OutsideCounts). AreFromOutside ms (past ++ p ∷ [])) (sym now_is) (record {
    many = length-set c.outside i (with_outside bytes fault (get_or c.outside i no_outside)) ∙ before.many;
    each = all_set (λ (m : ℕ) (y : OutsideCounts). OutsideAre m (past ++ p ∷ []) y) c.outside i (with_outside bytes fault (get_or c.outside i no_outside))
        came_here others;
  }),
)
  where
    x : Happened
    x = happened_in h.played

    is : Is x p
    is = is_in h.played

    before : AreFromOutside c.outside past
    before = (has kept).1

    outside : is_outside x.event ≡ true
    outside = ap is_outside (event_in h.played) ∙ h.outside

    unheard : is_hearing x.event ≡ false
    unheard = outside_unheard x.event outside

    told : is_some x.told.refused ≡ false
    told = ap (λ (t : Told). is_some t.refused) (told_in h.played) ∙ taken

    brings : x.brought ≡ Some bytes
    brings = brought_in h.played ∙ h.brings

    sized : bytes_brought x.brought ≡ length bytes
    sized = ap bytes_brought brings

    fault_is : fault_brought x.wide x.brought ≡ fault
    fault_is =
        ap (λ (wide : Bool). fault_brought wide x.brought) (wide_in h.played)
        ∙ ap (λ (o : Option (List ℕ)). fault_brought (wide_at p.before (mote_of e)) o) (brought_in h.played) ∙ h.refuses

    at_mote : mote_of x.event ≡ i
    at_mote = ap mote_of (event_in h.played) ∙ sym here

    came_here : i < length c.outside → OutsideAre i (past ++ p ∷ []) (with_outside bytes fault (get_or c.outside i no_outside))
    came_here lt =
        let was : OutsideAre i past (get_or c.outside i no_outside) = before.each i (get_or c.outside i no_outside) (get_there c.outside i no_outside lt) in
        record {
          came = some_shared i is_from_outside past x p 5 (frame_number bytes) (length bytes) (get_or c.outside i no_outside).came is at_mote
              (λ k. brought_kind is_outside x bytes (frame_number bytes) k outside told brings refl) sized was.came;
          refused = fault_shared is_outside i past x p fault (length bytes) (get_or c.outside i no_outside).refused is at_mote outside told fault_is sized
              was.refused;
        }

    others : (m : ℕ) (y : OutsideCounts) → m ≢ i → slice_get c.outside m ≡ Some y → OutsideAre m (past ++ p ∷ []) y
    others m y other there = record {
      came = none_shared m is_from_outside past x p 5 y.came is (λ k. at_other m (is_from_outside k) x elsewhere) (before.each m y there).came;
      refused = none_shared m is_refused_outside past x p 5 y.refused is (λ k. at_other m (is_refused_outside k) x elsewhere)
          (before.each m y there).refused;
    }
      where
        elsewhere : mote_of x.event ≢ m
        elsewhere at = other (sym at ∙ at_mote)

-- or is refused itself
pub refused_outside : (c : FrameCounter) (bytes : List ℕ) (fault : Option FrameFault) (e : Event) (lines : List Report) (past : List Played) (p : Played)
    → IsBringingBytes e lines bytes fault past p → is_some (told_by lines).refused ≡ true → HasFrames c past → HasFrames c (past ++ p ∷ [])
refused_outside c bytes fault e lines past p h refused has kept = refused_event c e lines past p h.played h.sent refused has kept

-- outcomes of frames that were sent
pub marked_frame : (log now : List SentFrame) (motes : List FrameCounts) (played : List Played) → KeepsKinds log now → AreFrames log motes played
    → AreFrames now motes played
marked_frame log now motes played kinds are = record {
  kinds = kinds ∙ are.kinds;
  few = are.few;
  sizes = are.sizes;
  many = are.many;
  each = are.each;
  sized = are.sized;
}

pub kinds_long : (log now : List SentFrame) → KeepsKinds log now → length now ≡ length log
kinds_long log now kinds = sym (length-map now (λ (f : SentFrame). f.kind)) ∙ ap length kinds ∙ length-map log (λ (f : SentFrame). f.kind)

-- an entry of the log, and the log after a change of it that keeps its kind
pub kinds_kept : (log : List SentFrame) (n : ℕ) (d y : SentFrame) → n < length log → y.kind ≡ (get_or log n d).kind → KeepsKinds log (set log n y)
kinds_kept log n d y lt same = map_set (λ (f : SentFrame). f.kind) log n (get_or log n d) y (get_there log n d lt) same

pub kind_there : (log : List SentFrame) (n : ℕ) (d : SentFrame) (kind : ℕ) → n < length log → kind ≡ (get_or log n d).kind
    → slice_get (map (λ (f : SentFrame). f.kind) log) n ≡ Some kind
kind_there log n d kind lt is =
    get_map (λ (f : SentFrame). f.kind) log n ∙ ap (option_map (λ (f : SentFrame). f.kind)) (get_there log n d lt) ∙ ap Some (sym is)

-- one that sent a frame
module _ (log : List SentFrame) (motes : List FrameCounts) (e : Event) (lines : List Report) (kind i : ℕ) (past : List Played) (p : Played) (h : IsSending e lines kind past p) (here : i ≡ mote_of e) (has : AreFrames log motes past) where
  pushed : frames_sent (past ++ p ∷ []) ≡ frames_sent past ++ record { by = mote_of e; bytes = h.bytes } ∷ []
  pushed = sent_push [] past p ∙ h.sent

  none : (k : ℕ) → is_heard k (happened_in h.played) ≡ false
  none k = not_brought is_hearing (happened_in h.played) k (inr (brought_in h.played ∙ h.none))

  long : length (frames_sent (past ++ p ∷ [])) ≡ length (frames_sent past) + 1
  long = ap length pushed ∙ length-append (frames_sent past) (record { by = mote_of e; bytes = h.bytes } ∷ [])

  still_heard : (m : ℕ) (xs : List ℕ) → AreCounts m is_heard past 4 xs → AreCounts m is_heard (past ++ p ∷ []) 4 xs
  still_heard m xs before = none_more m is_heard past (happened_in h.played) p 4 xs (is_in h.played) (at_false m (happened_in h.played) none) before

  calm : (k : ℕ) → is_refused_frame k (happened_in h.played) ≡ false
  calm k = not_refused is_hearing (happened_in h.played) k (inr (brought_in h.played ∙ h.none))

  still_refused : (m : ℕ) (xs : List Share) → AreShares m is_refused_frame past 5 xs → AreShares m is_refused_frame (past ++ p ∷ []) 5 xs
  still_refused m xs before =
      none_shared m is_refused_frame past (happened_in h.played) p 5 xs (is_in h.played) (at_none m is_refused_frame (happened_in h.played) calm) before

  size : (m k : ℕ) → is_sent m k (record { by = mote_of e; bytes = h.bytes }) ≡ true → length h.bytes ≡ frame_size k
  size m k sent =
      h.size ∙ ap frame_size (sym h.kind_is ∙ eqb-true (frame_number h.bytes) k (and_both (mote_of e == m) (frame_number h.bytes == k) sent).1)

  sent_here : i < length motes → FramesAre i (past ++ p ∷ []) (with_sent kind (get_or motes i no_frames))
  sent_here lt =
      let before : FramesAre i past (get_or motes i no_frames) = has.each i (get_or motes i no_frames) (get_there motes i no_frames lt) in
      record {
        sent = sent_more i kind past (past ++ p ∷ []) (record { by = mote_of e; bytes = h.bytes }) (get_or motes i no_frames).sent pushed (sym here) h.kind_is before.sent;
        heard = still_heard i (get_or motes i no_frames).heard before.heard;
        refused = still_refused i (get_or motes i no_frames).refused before.refused;
      }

  sent_there : (m : ℕ) (y : FrameCounts) → m ≢ i → slice_get motes m ≡ Some y → FramesAre m (past ++ p ∷ []) y
  sent_there m y other there = record {
    sent = sent_other m past (past ++ p ∷ []) (record { by = mote_of e; bytes = h.bytes }) y.sent pushed (λ (is : mote_of e ≡ m). other (sym is ∙ sym here)) (has.each m y there).sent;
    heard = still_heard m y.heard (has.each m y there).heard;
    refused = still_refused m y.refused (has.each m y there).refused;
  }

  sizes_then : (n : ℕ) (s : Sent) → slice_get (frames_sent (past ++ p ∷ [])) n ≡ Some s → length s.bytes ≡ frame_size (frame_number s.bytes)
  sizes_then n s there = sizes_push (frames_sent past) (record { by = mote_of e; bytes = h.bytes }) has.sizes (h.size ∙ ap frame_size (sym h.kind_is)) n s (ap (λ (fs : List Sent). slice_get fs n) (sym pushed) ∙ there)

  sent_event : (now : List SentFrame) (entry : SentFrame) → now ≡ log ++ entry ∷ [] → entry.kind ≡ kind → AreFrames now (with_sent_at i kind motes) (past ++ p ∷ [])
  sent_event now entry items entry_kind = record {
    kinds = ap (map (λ (f : SentFrame). f.kind)) items ∙ map-append (λ (f : SentFrame). f.kind) log (entry ∷ [])
        ∙ ap (λ (ks : List ℕ). ks ++ entry.kind ∷ []) has.kinds ∙ ap (λ (k : ℕ). map (λ (s : Sent). frame_number s.bytes) (frames_sent past) ++ k ∷ []) (entry_kind ∙ sym h.kind_is)
        ∙ sym (map-append (λ (s : Sent). frame_number s.bytes) (frames_sent past) (record { by = mote_of e; bytes = h.bytes } ∷ []))
        ∙ ap (map (λ (s : Sent). frame_number s.bytes)) (sym pushed);
    few = omega (arith, has.few, long, one_longer past p);
    sizes = sizes_then;
    many = length-set motes i (with_sent kind (get_or motes i no_frames)) ∙ has.many;
    each = all_set (λ (m : ℕ) (y : FrameCounts). FramesAre m (past ++ p ∷ []) y) motes i (with_sent kind (get_or motes i no_frames)) sent_here sent_there;
    sized = record {
      sent = λ m k.
          bytes_push_at m k past (past ++ p ∷ []) (record { by = mote_of e; bytes = h.bytes }) pushed
          ∙ more_sized (is_sent m k (record { by = mote_of e; bytes = h.bytes })) (sent_bytes_at m k past) (sent_at m k past) (frame_size k) (length h.bytes) (has.sized.sent m k) (size m k)
          ∙ ap (λ (n : ℕ). n * frame_size k) (sym (sent_push_at m k past (past ++ p ∷ []) (record { by = mote_of e; bytes = h.bytes }) pushed));
      heard = λ m k. heard_sized past (happened_in h.played) p m k (is_in h.played) (λ heard. never (is_heard k (happened_in h.played)) (none k) heard) (has.sized.heard m k);
      refused = λ m k.
          refused_sized past (happened_in h.played) p m k (is_in h.played)
          (λ refused. never (is_refused_frame k (happened_in h.played)) (calm k) refused) (has.sized.refused m k);
    };
  }

pub sent_frame : (log now : List SentFrame) (motes then : List FrameCounts) (e : Event) (lines : List Report) (kind i : ℕ) (entry : SentFrame) (past : List Played) (p : Played)
    → IsSending e lines kind past p → i ≡ mote_of e → entry.kind ≡ kind → now ≡ log ++ entry ∷ [] → then ≡ with_sent_at i kind motes
    → AreFrames log motes past → AreFrames now then (past ++ p ∷ [])
sent_frame log now motes then e lines kind i entry past p h here kind_is items motes_then are =
    subst (λ (ms : List FrameCounts). AreFrames now ms (past ++ p ∷ [])) (sym motes_then)
    (sent_event log motes e lines kind i past p h here are now entry items kind_is)

-- The frames that an event sends, and the one that it brings, by the rules.
use Rattle.std.proofs.Common.{◌≡◌, ◌⊎◌, inl, inr, ℕ, ◌+◌, ◌<◌, ◌≤◌, Bool, true, false, cond, List, [], ◌∷◌, ◌++◌, length, length-append, refl, sym, ap, subst, ◌∙◌, arith}
use Rattle.std.proofs.Common.{Option, Some, None, option_map}
use Rattle.std.specs.Prelude.{slice_get, ◌-◌}
use Rattle.std.proofs.lemmas.Bool.{both_ways, le-leb}
use Rattle.std.proofs.lemmas.List.{length-map}
use Rattle.dg_volume.specs.Store.{Store}
use Rattle.dg_volume.specs.Table.{row_at}
use Rattle.dg_object.specs.Object.{Row}
use Rattle.dg_frame.specs.declared.Message.{Message}
use Rattle.dg_frame.specs.Spelling.{frame_of}
use Rattle.dg_mote.specs.Effects.{frame_effect}
use Rattle.dg_base.specs.declared.events.Event.{Event}
use Rattle.dg_base.specs.declared.events.Event.TheVariants.{Tick, Hear, Last, Reset, Inject, Order as OrderEvent, Frame}
use Rattle.dg_base.specs.declared.events.Step.{Step}
use Rattle.dg_rules.specs.World.{World, Sent, Running, site, store_at, first_world, frame_at, last_frame, linked, last_by}
use Rattle.dg_rules.specs.Events.{Does, Refuses, Goes, does, mote_of, hear_by, heard_sent, heard_last, unless_off}
use Rattle.dg_rules.specs.Steps.{WorldStep, StepDoes, Ended, blows, and_sent, declared_as}
use Rattle.dg_rules.specs.Past.{brought}
use Rattle.dg_rules.specs.Runs.{Played, Plays, ItemStep}
use Rattle.dg_script.specs.Items.{Item, Declares, Applies}
use Rattle.dg_script.specs.declared.report.Report.{Report}
use Rattle.dg_replay.specs.Items.{is_event}
use Rattle.dg_replay.specs.Shown.{events_played, LeadTo, IsApplied}
use Rattle.dg_world.specs.Deployments.{Deployment}
use Rattle.dg_world.specs.declared.world.World.{World as CodeWorld}
use Rattle.dg_events.specs.Frames.{frame_number, frame_size, sent_from, frames_sent, is_hearing, is_outside}
use Rattle.dg_events.specs.Kinds.{event_number}
use Rattle.dg_events.specs.FrameCounters.{AreFrames, IsFrameless, IsSending}
use Rattle.dg_events.specs.Noted.{IsEventPlayed}
use Rattle.dg_events.specs.declared.sent_frame.SentFrame.{SentFrame}
use Rattle.dg_events.specs.declared.frame_counter.FrameCounts.{FrameCounts}
use Rattle.dg_count.specs.Shown.{IsShown}

-- ---- an event that brings a frame sends none

abbrev pub SendsNone : Does → Type 0
SendsNone (Refuses why) = Unit {0}
SendsNone (Goes d) = d.sent ≡ None

hear_silent : (w : World) (s : Store) (o : Option Running) (now word : ℕ) (bytes : List ℕ) → SendsNone (hear_by w s o now word bytes)
unfolding frame_effect
hear_silent w s None now word bytes = tt
hear_silent w s (Some r) now word bytes = refl

if_silent : (b : Bool) (x y : Does) → SendsNone x → SendsNone y → SendsNone (cond b x y)
if_silent true x y first next = first
if_silent false x y first next = next

numbered_silent : (w : World) (m now word : ℕ) (o : Option Sent) → SendsNone (heard_sent w m now word o)
numbered_silent w m now word None = tt
numbered_silent w m now word (Some f) = if_silent (linked w f.by m) _ _ (hear_silent w _ _ now word f.bytes) tt

last_silent : (w : World) (from to now word : ℕ) (o : Option Sent) → SendsNone (heard_last w from to now word o)
last_silent w from to now word None = tt
last_silent w from to now word (Some f) = hear_silent w _ _ now word f.bytes

off_silent : (o : Option Running) (d : Does) → SendsNone d → SendsNone (unless_off o d)
off_silent None d none = tt
off_silent (Some r) d none = none

pub bytes_silent : (w : World) (e : Event) → is_outside e ≡ true → SendsNone (does w e)
unfolding does
bytes_silent w (Frame m dt word bytes) h = hear_silent w (store_at w m) (site w m).runs (w.moment + dt) word bytes
bytes_silent w (Tick m dt word) h = absurd (both_ways false refl h)
bytes_silent w (Hear m dt word frame) h = absurd (both_ways false refl h)
bytes_silent w (Last from to dt word) h = absurd (both_ways false refl h)
bytes_silent w (Reset m dt word) h = absurd (both_ways false refl h)
bytes_silent w (Inject m image version dt word) h = absurd (both_ways false refl h)
bytes_silent w (OrderEvent m number image version dt word) h = absurd (both_ways false refl h)

does_silent : (w : World) (e : Event) → is_hearing e ≡ true → SendsNone (does w e)
unfolding does
does_silent w (Hear m dt word frame) h = off_silent _ _ (numbered_silent w m _ word (frame_at w frame))
does_silent w (Last from to dt word) h = off_silent _ _ (if_silent (linked w from to) _ _ (last_silent w from to _ word (last_frame w from)) tt)
does_silent w (Tick m dt word) h = absurd (both_ways false refl h)
does_silent w (Reset m dt word) h = absurd (both_ways false refl h)
does_silent w (Inject m image version dt word) h = absurd (both_ways false refl h)
does_silent w (OrderEvent m number image version dt word) h = absurd (both_ways false refl h)
does_silent w (Frame m dt word bytes) h = absurd (both_ways false refl h)

-- ---- what a step sends

-- one frame or none
abbrev pub SendsOne : (before after : List Sent) → (by : ℕ) → Type 0
SendsOne before after by = (after ≡ before) ⊎ ((message : Message) × (after ≡ before ++ record { by = by; bytes = frame_of message } ∷ []))

sent_by : (w v : World) (m : ℕ) (o : Option Message) → v ≡ and_sent w m o → SendsOne w.sent v.sent m
sent_by w v m None e = inl (ap (λ (u : World). u.sent) e)
sent_by w v m (Some message) e = inr (message, ap (λ (u : World). u.sent) e)

step_sends : (d : Does) (w : World) (x : Step) (v : World) (all : List Report) → StepDoes d w x v all → SendsOne w.sent v.sent (mote_of x.event)
step_sends (Refuses why) w x v all step = inl (ap (λ (u : World). u.sent) step.0)
step_sends (Goes d) w x v all step = by (blows x.cut d.trail) step
  where
    by : (b : Bool) → Ended b w x d v all → SendsOne w.sent v.sent (mote_of x.event)
    by true e = inl (ap (λ (u : World). u.sent) e.world)
    by false e = sent_by _ v (mote_of x.event) d.sent e.2

step_still : (d : Does) (w : World) (x : Step) (v : World) (all : List Report) → SendsNone d → StepDoes d w x v all → v.sent ≡ w.sent
step_still (Refuses why) w x v all none step = ap (λ (u : World). u.sent) step.0
step_still (Goes d) w x v all none step = by (blows x.cut d.trail) step
  where
    by : (b : Bool) → Ended b w x d v all → v.sent ≡ w.sent
    by true e = ap (λ (u : World). u.sent) e.world
    by false e = ap (λ (u : World). u.sent) (e.2 ∙ ap (and_sent _ (mote_of x.event)) none)

pub played_step : {e : Event} {lines : List Report} {p : Played} (h : IsEventPlayed e lines p)
    → (all : List Report) × StepDoes (does p.before e) p.before (record { event = e; cut = h.cut }) p.after all
unfolding WorldStep
played_step {e} {lines} {p} h = (step.0, step.1)
  where
    step : ItemStep p.before (Applies (record { event = e; cut = h.cut }) h.reported) p.after p.reports
    step = subst (λ (i : Item). ItemStep p.before i p.after p.reports) h.item h.step

played_sends : {e : Event} {lines : List Report} {p : Played} → IsEventPlayed e lines p → SendsOne p.before.sent p.after.sent (mote_of e)
played_sends {e} {lines} {p} h = let s = played_step h in step_sends (does p.before e) p.before (record { event = e; cut = h.cut }) p.after s.0 s.1

pub played_still : {e : Event} {lines : List Report} {p : Played} → IsEventPlayed e lines p → is_hearing e ≡ true → p.after.sent ≡ p.before.sent
played_still {e} {lines} {p} h hears =
    let s = played_step h in
    step_still (does p.before e) p.before (record { event = e; cut = h.cut }) p.after s.0 (does_silent p.before e hears) s.1

pub bytes_still : {e : Event} {lines : List Report} {p : Played} → IsEventPlayed e lines p → is_outside e ≡ true → p.after.sent ≡ p.before.sent
bytes_still {e} {lines} {p} h outside =
    let s = played_step h in
    step_still (does p.before e) p.before (record { event = e; cut = h.cut }) p.after s.0 (bytes_silent p.before e outside) s.1

-- ---- the frames of a run

item_sent : (i : Item) (w v : World) (lines : List Report) → ItemStep w i v lines → is_event i ≡ false → v.sent ≡ w.sent
item_sent (Declares row) w v lines step e = ap (λ (u : World). u.sent) step.world ∙ declared_sent (row_at w.declared row.image row.version)
  where
    declared_sent : (o : Option Row) → (declared_as o w row).sent ≡ w.sent
    declared_sent None = refl
    declared_sent (Some kept) = refl
item_sent (Applies s reported) w v lines step e = absurd (both_ways true e refl)

events_sent : (b : Bool) (was : List Sent) (p : Played) (events : List Played) → (b ≡ false → p.after.sent ≡ was)
    → sent_from p.after.sent events ≡ sent_from was (cond b (p ∷ events) events)
events_sent true was p events same = refl
events_sent false was p events same = ap (λ (sent : List Sent). sent_from sent events) (same refl)

plays_sent : (u : World) (played : List Played) (w : World) → Plays u played w → w.sent ≡ sent_from u.sent (events_played played)
unfolding Plays
plays_sent u [] w h = sym (ap (λ (v : World). v.sent) h)
plays_sent u (p ∷ ps) w h =
    plays_sent p.after ps w h.2
    ∙ events_sent (is_event p.item) u.sent p (events_played ps)
    (λ e. item_sent p.item p.before p.after p.reports h.1 e ∙ ap (λ (v : World). v.sent) h.0)

-- the frames of the world to which events lead are those that were sent in them
pub lead_sent : {stores : List Store} {events : List Played} {w : World} → LeadTo stores events w → w.sent ≡ frames_sent events
lead_sent {stores} {events} {w} l =
    plays_sent (first_world l.table l.links l.narrow stores) l.played w l.run ∙ ap (λ (es : List Played). frames_sent es) (sym l.are)

-- an event that a watcher is shown, to a counter of frames
pub shown : {p : Played} {e : Event} {reported : Bool} {after : Deployment} {stores : List Store} {events : List Played} → IsEventPlayed e after.reported p
    → LeadTo stores events p.before → IsApplied p e reported after → IsShown after.world e after.reported events p
shown {after = after} played led is = record { played = played; boards = after.boards; stands = is.stands; before = lead_sent led }

-- ---- what is told to the counter

-- as many frames were counted as were sent
counted_frames : {log : List SentFrame} {motes : List FrameCounts} {past : List Played} → AreFrames log motes past → length log ≡ length (frames_sent past)
counted_frames {log} {motes} {past} are =
    sym (length-map log (λ (f : SentFrame). f.kind)) ∙ ap length are.kinds ∙ length-map (frames_sent past) (λ (s : Sent). frame_number s.bytes)

sends_past : {world : CodeWorld} {e : Event} {lines : List Report} {past : List Played} {p : Played} → IsShown world e lines past p
    → SendsOne (frames_sent past) p.after.sent (mote_of e)
sends_past {e = e} {p = p} h = subst (λ (sent : List Sent). SendsOne sent p.after.sent (mote_of e)) h.before (played_sends h.played)

-- no more frames than were counted
pub none_sent : {world : CodeWorld} {e : Event} {lines : List Report} {past : List Played} {p : Played} {log : List SentFrame} {motes : List FrameCounts} (all : ℕ)
    → ((w : World) → brought w e ≡ None) → all ≡ length p.after.sent → all ≤ length log → AreFrames log motes past → IsShown world e lines past p
    → IsFrameless e lines past p
none_sent {e = e} {past = past} {p = p} all none all_is few are h = record { played = h.played; sent = by (sends_past h); none = none p.before }
  where
    by : SendsOne (frames_sent past) p.after.sent (mote_of e) → p.after.sent ≡ frames_sent past
    by (inl same) = same
    by (inr more) = absurd (omega (arith, all_is, few, counted_frames are, ap length more.1, length-append (frames_sent past) (record { by = mote_of e; bytes = frame_of more.0 } ∷ [])))

get_behind : (xs : List Sent) (s : Sent) → slice_get (xs ++ s ∷ []) (length xs) ≡ Some s
get_behind [] s = refl
get_behind (x ∷ xs) s = get_behind xs s

frame_behind : (w : World) (xs : List Sent) (s : Sent) (n : ℕ) → w.sent ≡ xs ++ s ∷ [] → n ≡ length w.sent → frame_at w n ≡ Some s
frame_behind w xs s n is n_is =
    let long : n ≡ length xs + 1 = omega (arith, n_is, ap length is, length-append xs (s ∷ [])) in
    let at : n - 1 ≡ length xs = omega (arith, long) in
    ap (λ (b : Bool). cond b (slice_get w.sent (n - 1)) None) (le-leb 1 n (omega (arith, long)))
    ∙ ap (slice_get w.sent) at ∙ ap (λ (fs : List Sent). slice_get fs (length xs)) is ∙ get_behind xs s

same_some : {A : Type 0} (x y : A) → Some x ≡ Some y → x ≡ y
same_some x y e = cc

none_some : {A : Type 0} (x : A) → None ≡ Some x → ⊥
none_some x e = absurd cc

-- the last frame of the world, where there is one more than were counted
last_sent : {world : CodeWorld} {e : Event} {lines : List Report} {past : List Played} {p : Played} {log : List SentFrame} {motes : List FrameCounts} (all : ℕ)
    → all ≡ length p.after.sent → length log < all → AreFrames log motes past → IsShown world e lines past p
    → (message : Message) × (p.after.sent ≡ frames_sent past ++ record { by = mote_of e; bytes = frame_of message } ∷ [])
last_sent {e = e} {past = past} {p = p} all all_is more are h = by (sends_past h)
  where
    by : SendsOne (frames_sent past) p.after.sent (mote_of e) → (message : Message) × (p.after.sent ≡ frames_sent past ++ record { by = mote_of e; bytes = frame_of message } ∷ [])
    by (inl same) = absurd (omega (arith, all_is, more, counted_frames are, ap length same))
    by (inr one) = one

-- one more frame than was counted
pub one_sent : {world : CodeWorld} {e : Event} {lines : List Report} {past : List Played} {p : Played} {log : List SentFrame} {motes : List FrameCounts} (all kind : ℕ) (message : Message)
    → ((w : World) → brought w e ≡ None) → all ≡ length p.after.sent → length log < all
    → Some (frame_of message) ≡ option_map (λ (s : Sent). s.bytes) (frame_at p.after all)
    → frame_number (frame_of message) ≡ kind → length (frame_of message) ≡ frame_size kind → AreFrames log motes past → IsShown world e lines past p
    → IsSending e lines kind past p
one_sent {e = e} {past = past} {p = p} all kind message none all_is more told kind_is size are h =
    let one = last_sent all all_is more are h in
    let same : frame_of message ≡ frame_of one.0 =
    same_some (frame_of message) (frame_of one.0) (told ∙ ap (option_map (λ (s : Sent). s.bytes)) (frame_behind p.after (frames_sent past) (record { by = mote_of e; bytes = frame_of one.0 }) all one.1 all_is)) in
    record {
      played = h.played;
      none = none p.before;
      bytes = frame_of message;
      kind_is = kind_is;
      size = size;
      sent = one.1 ∙ ap (λ (bytes : List ℕ). frames_sent past ++ record { by = mote_of e; bytes = bytes } ∷ []) (sym same);
    }

-- the world has that frame
pub not_sent : {world : CodeWorld} {e : Event} {lines : List Report} {past : List Played} {p : Played} {log : List SentFrame} {motes : List FrameCounts} (all : ℕ)
    → all ≡ length p.after.sent → length log < all → None ≡ option_map (λ (s : Sent). s.bytes) (frame_at p.after all) → AreFrames log motes past
    → IsShown world e lines past p → ⊥
not_sent {e = e} {past = past} {p = p} all all_is more told are h =
    let one = last_sent all all_is more are h in
    none_some (frame_of one.0) (told ∙ ap (option_map (λ (s : Sent). s.bytes)) (frame_behind p.after (frames_sent past) (record { by = mote_of e; bytes = frame_of one.0 }) all one.1 all_is))

-- what an event brings depends on the frames alone
pub same_brought : (w v : World) (e : Event) → w.sent ≡ v.sent → is_hearing e ≡ true → brought w e ≡ brought v e
same_brought w v (Hear m dt word frame) same h = ap (λ (fs : List Sent). option_map (λ (s : Sent). s.bytes) (frame_at (record w { sent = fs }) frame)) same
same_brought w v (Last from to dt word) same h = ap (λ (fs : List Sent). option_map (λ (s : Sent). s.bytes) (last_by from fs None)) same
same_brought w v (Tick m dt word) same h = refl
same_brought w v (Reset m dt word) same h = refl
same_brought w v (Inject m image version dt word) same h = refl
same_brought w v (OrderEvent m number image version dt word) same h = refl
same_brought w v (Frame m dt word bytes) same h = refl

-- a tick brings nothing, nor does what brings no frame of a mote and none from outside
pub tick_brings : (e : Event) → event_number e ≡ 0 → (w : World) → brought w e ≡ None
tick_brings (Tick m dt word) h w = refl
tick_brings (Hear m dt word frame) h w = absurd (omega (arith, h))
tick_brings (Last from to dt word) h w = absurd (omega (arith, h))
tick_brings (Reset m dt word) h w = absurd (omega (arith, h))
tick_brings (Inject m image version dt word) h w = absurd (omega (arith, h))
tick_brings (OrderEvent m number image version dt word) h w = absurd (omega (arith, h))
tick_brings (Frame m dt word bytes) h w = absurd (omega (arith, h))

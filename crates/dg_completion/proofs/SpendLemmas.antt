-- How many commits a tick and a heard frame make at a chip.
use Rattle.std.proofs.Common.{◌≡◌, ◌⊎◌, ℕ, ◌+◌, ◌≤◌, Bool, true, false, not, ◌&&◌, ◌||◌, cond, eqb, leb, ltb, List, Option, Some, None, Ok, Err, Result, refl, sym, ap, subst, ◌∙◌, inl, inr, arith}
use Rattle.std.proofs.lemmas.Bool.{cond_both, cases_Bool}
use Rattle.dg_nor.specs.Trail.{Trail, last, joined, resting}
use Rattle.dg_nor.proofs.TrailLemmas.{last-joined, last-resting}
use Rattle.dg_nor.proofs.ThroughLemmas.{Through-last}
use Rattle.dg_control.specs.declared.snapshot.Order.{Order}
use Rattle.dg_object.specs.Object.{Row, Outline}
use Rattle.dg_slot.specs.Kept.{Held}
use Rattle.dg_trickle.specs.Timer.{Timer}
use Rattle.dg_volume.specs.Sizes.{golden_version}
use Rattle.dg_volume.specs.Store.{Store, App, held}
use Rattle.dg_volume.specs.Changes.{is_version}
use Rattle.dg_volume.specs.Agreement.{Agrees}
use Rattle.dg_volume.specs.RowLaws.{SoundRows}
use Rattle.dg_volume.specs.Trails.{order_trail, take_trail, BeginsAt}
use Rattle.dg_volume.specs.Start.{Runs, Boot, boot, boot_counted, by_gesture, order_waits, is_set_to, kept_runs, golden_boot, golden_done, sound, held_sound}
use Rattle.dg_volume.specs.Ends.{take_commits, taken, blank_commits, golden_started, golden_runs, blanked}
use Rattle.dg_volume.specs.declared.volume.StartCause.TheVariants as cause
use Rattle.dg_frame.specs.Grammar.{message_of}
use Rattle.dg_frame.specs.declared.Entry.{Entry}
use Rattle.dg_frame.specs.declared.FrameFault.{FrameFault}
use Rattle.dg_frame.specs.declared.Message.{Message}
use Rattle.dg_frame.specs.declared.Message.TheVariants as message
use Rattle.dg_mote.specs.Model.{MoteState, Mode, Maintain, Receive, Transmit, MoteStep}
use Rattle.dg_mote.specs.Summary.{entry_for, advert_by, is_own, ahead_in}
use Rattle.dg_mote.specs.Adverts.{outline, better_trail, ask_trail, asks, asking, noting, by_ahead, advert_heard, dropped, on_advert, offer}
use Rattle.dg_mote.specs.Hears.{by_message, heard_of}
use Rattle.dg_mote.specs.Changes.{MayClear, Completes}
use Rattle.dg_mote.specs.declared.mote.Heard.{Heard}
use Rattle.dg_rules.proofs.BootLemmas.{waits_whole}
use Rattle.dg_completion.proofs.StoreLemmas.{StartLaws, ChangeLaws, whole_sound}

-- at most n commits lead from the first store to the second
abbrev pub Spends : ℕ → Store → Store → Type 0
Spends n s t = s.room ≤ t.room + n

-- ---- a start for the order

blank_few : (o : Option App) → blank_commits o ≤ 1
blank_few None = omega arith
blank_few (Some app) = omega arith

started_spends : (s : Store) (r : Runs) (three : Bool) → Spends 1 s (golden_started s r three)
started_spends s r three =
    cond_both (ltb 0 s.room && (not (is_set_to s.app 0 golden_version) || three)) (golden_done s r three) s (Spends 1 s) (λ _. omega arith) (λ _. omega arith)

module _ (laws : StartLaws) where
  copied_spends : (s : Store) → is_set_to s.app 0 golden_version ≡ false → sound s 0 ≡ true → Spends 2 s (last (golden_boot s true).trail)
  copied_spends s other fine =
      let e = (laws.golden_copied s true other fine).ends in
      let r = kept_runs s 0 golden_version in
      omega (arith, ap (λ (t : Store). t.room) e, started_spends (blanked s) r true, blank_few s.app)

  golden_spends : (s : Store) → sound s 0 ≡ true → (o : Option App) → s.app ≡ o → Spends 2 s (last (golden_boot s true).trail)
  golden_spends s fine None is = copied_spends s (ap (λ a. is_set_to a 0 golden_version) is) fine
  golden_spends s fine (Some app) is = elim (cases_Bool (is_set_to (Some app) 0 golden_version)) [
    | inl set ↦
        let e = (laws.golden_stays s app true is set).ends in
        omega (arith, ap (λ (t : Store). t.room) e, started_spends s (golden_runs app) true)
    | inr other ↦ copied_spends s (ap (λ a. is_set_to a 0 golden_version) is ∙ other) fine
  ]

  counted_spends : (s : Store) → sound s 0 ≡ true → order_waits s ≡ true → sound s s.order.image ≡ true → Spends 2 s (last (boot_counted s).trail)
  counted_spends s golden waits fine = elim (cases_Bool (by_gesture s)) [
    | inl three ↦ let e : (last (boot_counted s).trail).room ≡ (last (golden_boot s true).trail).room = ap (λ (b : Boot). (last {S = Store} b.trail).room) (laws.chosen s three) in omega (arith, e, golden_spends s golden s.app refl)
    | inr few ↦ let e = ap (λ (t : Store). t.room) (laws.order s few waits fine).ends in omega (arith, e, blank_few s.app)
  ]

  pub golden_sound : (table : List Row) (s : Store) → SoundRows table → Agrees table s → sound s 0 ≡ true
  golden_sound table s rows agrees = ap held_sound agrees.golden.2 ∙ rows 0 golden_version agrees.golden.0 agrees.golden.1

  -- over a store that agrees
  pub start_spends : (table : List Row) (s : Store) → SoundRows table → Agrees table s → order_waits s ≡ true → Spends 2 s (last (boot cause.Order s).trail)
  start_spends table s rows agrees waits =
      let image = s.order.image in
      let fine : sound s image ≡ true = whole_sound table rows image s.order.version (held s image) (agrees.kept image) (waits_whole s waits) in
      let same : last (boot cause.Order s).trail ≡ last (boot_counted s).trail = (laws.counted cause.Order s).1 ∙ ap (λ c. last (boot_counted c).trail) (laws.count cause.Order s) in
      omega (arith, ap (λ (t : Store). t.room) same, counted_spends s (golden_sound table s rows agrees) waits fine)

-- ---- a tick

pub clear_spends : (s t : Store) → MayClear s t → Spends 1 s t
clear_spends s t (inl e) = omega (arith, ap (λ (x : Store). x.room) e)
clear_spends s t (inr e) = omega (arith, ap (λ (x : Store). x.room) e)

-- ---- an advert

-- what is promised below of takes
pub record TakeLaws : Type 0 where
  pub ends : (s : Store) (p : Outline) → last (take_trail s p) ≡ taken s p
  pub begins : (s : Store) (p : Outline) → BeginsAt s (take_trail s p)

take_few : (o : Option Held) → take_commits o ≤ 2
take_few None = omega arith
take_few (Some h) = omega arith

-- the remaining part of an advert begins at this store, and takes at most one image
record Rest (u : Store) (t : Trail Store) : Type 0 where
  first : t.first ≡ u
  spends : Spends 2 u (last t)

rests : (u : Store) (n : ℕ) → Rest u (resting u n)
rests u n = record { first = refl; spends = omega (arith, ap (λ (x : Store). x.room) (last-resting u n)) }

noting_rests : (own : Bool) (m : MoteState) (timer : Timer) (u : Store) (now word : ℕ) → Rest u (noting m timer u now word own).trail
noting_rests true m timer u now word = rests u 0
noting_rests false m timer u now word = rests u 0

better_spends : (s : Store) (order : Order) → Spends 1 s (last (better_trail s order))
unfolding better_trail Rattle.dg_nor.specs.Trail.last_of
better_spends s order = cond_both (ltb s.order.number order.number && leb 1 s.room) (order_trail s order) (resting s 0) (λ t. Spends 1 s (last t)) (λ _. omega arith) (λ _. omega arith)

module _ (laws : TakeLaws) (entries : List Entry) where
  ask_rests : (u : Store) (i : ℕ) → Rest u (ask_trail u i (entry_for entries i))
  unfolding ask_trail joined
  ask_rests u i =
      let e = entry_for entries i in
      let p = outline i e in
      let t = take_trail u p in
      cond_both (is_version (held u i) e.version) (resting u 1) (joined t (resting (last t) 1)) (Rest u)
      (λ _. rests u 1)
      (λ _.
      let at : last (joined t (resting (last t) 1)) ≡ taken u p = last-joined t (resting (last t) 1) refl ∙ last-resting (last t) 1 ∙ laws.ends u p in
      record { first = (laws.begins u p).first; spends = omega (arith, ap (λ (x : Store). x.room) at, take_few (held u i)) })

  ahead_rests : (o : Option ℕ) (m : MoteState) (timer : Timer) (u : Store) (now word source : ℕ) (own : Bool) → Rest u (by_ahead o m u now word (offer source entries) (noting m timer u now word own)).trail
  ahead_rests None m timer u now word source own = noting_rests own m timer u now word
  ahead_rests (Some i) m timer u now word source own =
      cond_both (asks m u now i (entry_for entries i)) (asking m u now word source i (entry_for entries i)) (noting m timer u now word own) (λ (step : MoteStep Heard). Rest u step.trail)
      (λ _. ask_rests u i) (λ _. noting_rests own m timer u now word)

  advert_spends : (m : MoteState) (timer : Timer) (s : Store) (now word source : ℕ) (order : Order) → Spends 3 s (last (advert_heard m timer s now word (offer source entries) order).trail)
  unfolding advert_heard
  advert_spends m timer s now word source order =
      let t = better_trail s order in
      let u = last t in
      let rest = by_ahead (ahead_in entries u) m u now word (offer source entries) (noting m timer u now word (is_own entries order m.wide s)) in
      let r = ahead_rests (ahead_in entries u) m timer u now word source (is_own entries order m.wide s) in
      let at : last (joined t rest.trail) ≡ last rest.trail = last-joined t rest.trail (sym r.first) in
      omega (arith, ap (λ (x : Store). x.room) at, r.spends, better_spends s order)

  dropped_spends : (s : Store) → Spends 3 s (last (resting s 0))
  dropped_spends s = omega (arith, ap (λ (x : Store). x.room) (last-resting s 0))

  on_advert_spends : (mode : Mode) (m : MoteState) (s : Store) (now word source : ℕ) (order : Order) → Spends 3 s (last (on_advert mode m s now word (offer source entries) order).trail)
  on_advert_spends (Maintain timer) m s now word source order = advert_spends m timer s now word source order
  on_advert_spends (Receive r) m s now word source order = dropped_spends s
  on_advert_spends (Transmit t) m s now word source order = dropped_spends s

  heard_advert_spends : (m : MoteState) (s : Store) (now word source : ℕ) (order : Order)
      → Spends 3 s (last (cond (eqb source m.id) (dropped m s) (on_advert m.mode m s now word (offer source entries) order)).trail)
  heard_advert_spends m s now word source order =
      cond_both (eqb source m.id) (dropped m s) (on_advert m.mode m s now word (offer source entries) order) (λ (step : MoteStep Heard). Spends 3 s (last step.trail))
      (λ _. dropped_spends s) (λ _. on_advert_spends m.mode m s now word source order)

  advert_by_spends : (wide : Bool) (m : MoteState) (s : Store) (now word source : ℕ) (order : Order) → Spends 3 s (last (by_message (Ok (advert_by wide source entries order)) m s now word).trail)
  advert_by_spends true m s now word source order = heard_advert_spends m s now word source order
  advert_by_spends false m s now word source order = heard_advert_spends m s now word source order

-- ---- a frame

-- any frame
pub heard_spends : TakeLaws → ChangeLaws → (m : MoteState) (s : Store) (now word : ℕ) (bytes : List ℕ) → Spends 3 s (last (heard_of m s now word bytes).trail)
unfolding heard_of
heard_spends takes laws m s now word bytes = by_read (message_of bytes m.wide) refl
  where
    after : Store
    after = last (heard_of m s now word bytes).trail

    advert : (wide : Bool) (source : ℕ) (entries : List Entry) (order : Order) → message_of bytes m.wide ≡ Ok (advert_by wide source entries order) → Spends 3 s after
    advert wide source entries order is =
        subst (λ (r : Result Message FrameFault). Spends 3 s (last (by_message r m s now word).trail)) (sym is) (advert_by_spends takes entries wide m s now word source order)

    by_read : (r : Result Message FrameFault) → message_of bytes m.wide ≡ r → Spends 3 s after
    by_read (Err fault) is = subst (λ (r : Result Message FrameFault). Spends 3 s (last (by_message r m s now word).trail)) (sym is) (omega (arith, ap (λ (x : Store). x.room) (last-resting s 0)))
    by_read (Ok (message.Advert source entries order)) is = advert false source entries order is
    by_read (Ok (message.Wide source entries order)) is = advert true source entries order is
    by_read (Ok (message.Request source to image version page want)) is =
        let e = ap last (laws.request m s now word bytes source to image version page want is) ∙ last-resting s 0 in
        omega (arith, ap (λ (x : Store). x.room) e)
    by_read (Ok (message.Packet source image version page q content)) is =
        by_case (Through-last (λ t. (t ≡ s) ⊎ Completes m.mode image version page q s t) (heard_of m s now word bytes).trail (laws.packet m s now word bytes source image version page q content is))
      where
        by_case : (after ≡ s) ⊎ Completes m.mode image version page q s after → Spends 3 s after
        by_case (inl e) = omega (arith, ap (λ (x : Store). x.room) e)
        by_case (inr c) = omega (arith, ap (λ (x : Store). x.room) c.paged_is)

-- The parts of a service, from what their calls did.
use Rattle.std.proofs.Common.{◌≡◌, ℕ, ◌+◌, ◌≤◌, List, [], ◌∷◌, length, refl, ap, sym, ◌∙◌, subst, arith}
use Rattle.std.specs.Prelude.{slice_get, slice_index_or, Option, Some, None}
use Rattle.rand_pcg.specs.Pcg.{pcg32}
use Rattle.dg_base.specs.Clock.{Answers, Answered}
use Rattle.dg_base.specs.declared.events.Event.{Event}
use Rattle.dg_base.specs.declared.events.Event.TheVariants.{Frame}
use Rattle.dg_nor.specs.Device.{Device}
use Rattle.dg_rules.specs.World.{World, Running, site, store_at}
use Rattle.dg_rules.specs.Events.{mote_of, EventEffect, Does, Refuses, Goes, does, hear_by}
use Rattle.dg_mote.specs.Effects.{frame_effect}
use Rattle.dg_script.specs.Fitting.{IsTimed}
use Rattle.dg_world.specs.Worlds.{SiteStands}
use Rattle.dg_seed.specs.Draws.{generator_of}
use Rattle.dg_serve.specs.Services.{Part, Begins, Looks, Ticks, Moment, ReadsClock, Steps, EventApplied}
use Rattle.dg_serve.specs.inner.Stretches.{later, at_reading}
use Rattle.dg_serve.specs.Endings.{event_of}
use Rattle.dg_serve.specs.Standings.{Standing, StandsFor, IsPartAt}
use Rattle.dg_serve.specs.declared.timeline.Timeline.{Timeline}

-- a timing: the clock was read, and a word taken
pub record Timed (old new : Timeline) (dt word : ℕ) (told told_then : Option Answers) : Type 0 where
  pub dt_is : dt ≡ later old.reading new.reading
  pub rises : old.reading ≤ new.reading
  pub answered : Answered told told_then new.reading
  pub draw_is : (word, generator_of new.draws) ≡ pcg32 (generator_of old.draws)
  pub fits : IsTimed dt word
  pub moment : new.moment ≡ old.moment + dt

-- the moment between the timing and the event
abbrev pub drawn : Moment → Timeline → Option Answers → Moment
drawn s new told_then = at_reading s new.reading told_then (generator_of new.draws)

pub reads_of : (s : Moment) (old new : Timeline) (dt word : ℕ) (told told_then : Option Answers) → old.reading ≡ s.reading → generator_of old.draws ≡ s.draws → told ≡ s.clock → Timed old new dt word told told_then → ReadsClock s dt word (drawn s new told_then)
reads_of s old new dt word told told_then reading draws clock d = record {
  answer = new.reading;
  fits = d.fits;
  rises = omega (arith, reading, d.rises);
  told = subst (λ (c : Option Answers). Answered c told_then new.reading) clock d.answered;
  dt_is = d.dt_is ∙ ap (λ n. later n new.reading) reading;
  draw_is = d.draw_is ∙ ap pcg32 draws;
  same = refl;
}

-- the code stands for the moment between them, its time ahead by that of the event
pub stands_drawn : (motes begun : ℕ) (links : List (ℕ × ℕ)) (first : List Device) (s : Moment) (p q : Standing) (dt word : ℕ) → StandsFor motes begun links 0 first s p → Timed p.service.timeline q.service.timeline dt word p.clock q.clock → q.boards ≡ p.boards → q.service.motes.items ≡ p.service.motes.items → q.inboxes ≡ p.inboxes
    → StandsFor motes begun links dt first (drawn s q.service.timeline q.clock) q
stands_drawn motes begun links first s p q dt word st d boards motes_same inboxes = record {
  moment = omega (arith, d.moment, st.moment);
  reading = refl;
  draws = refl;
  clock = refl;
  inboxes = inboxes ∙ st.inboxes;
  linked = st.linked;
  wide = st.wide;
  sites = st.sites;
  count = ap length boards ∙ st.count;
  timely = st.timely;
  on = λ m a b within was now.
      let x = st.on m a b within was (sym (ap (λ xs. slice_get xs m) boards) ∙ now) in
      (x.0, subst (λ xs. SiteStands b (slice_index_or xs m None) (site s.world m)) (sym motes_same) x.1);
  off = λ m a b without within was now. st.off m a b without within was (sym (ap (λ xs. slice_get xs m) boards) ∙ now);
}

-- an event that was applied after a timing
pub applied_of : (motes : ℕ) (s t : Moment) (new : Timeline) (told_then : Option Answers) (event : (dt word : ℕ) → Event) (dt word : ℕ) → ReadsClock s dt word (drawn s new told_then) → Steps motes (drawn s new told_then) (event dt word) t → EventApplied motes s event (event dt word ∷ []) t
applied_of motes s t new told_then event dt word reads steps = record { dt = dt; word = word; between = drawn s new told_then; reads = reads; one = refl; steps = steps }

-- a frame that is heard leaves its mote on
runs_in : Does → Option (Option Running)
runs_in (Refuses why) = Some None
runs_in (Goes effect) = effect.runs

some_left : (o : Option (Option Running)) (x : Option Running) → Some x ≡ o → o ≡ None → ⊥
some_left o x is none = absurd cc

heard_runs : (w : World) (m dt word : ℕ) (bytes : List ℕ) (effect : EventEffect) (o : Option Running) → hear_by w (store_at w m) o (w.moment + dt) word bytes ≡ Goes effect → effect.runs ≡ None → ⊥
unfolding frame_effect runs_in
heard_runs w m dt word bytes effect None e none = absurd cc
heard_runs w m dt word bytes effect (Some r) e none = some_left effect.runs _ (ap runs_in e) none

pub frame_runs : (w : World) (m dt word : ℕ) (bytes : List ℕ) (effect : EventEffect) → does w (Frame m dt word bytes) ≡ Goes effect → effect.runs ≡ None → ⊥
unfolding does
frame_runs w m dt word bytes effect e none = heard_runs w m dt word bytes effect (site w m).runs e none

-- the event of a part is at its mote
pub part_at : (mote : ℕ) (part : Part) (dt word : ℕ) (bytes : List ℕ) → IsPartAt mote part → mote_of (event_of part dt word bytes) ≡ mote
part_at mote (Begins m) dt word bytes at = at
part_at mote (Looks m) dt word bytes at = at
part_at mote (Ticks m) dt word bytes at = at

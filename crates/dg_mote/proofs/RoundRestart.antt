-- A tick that finds a pending order starts it, and then no order is pending.
use Rattle.std.proofs.Common.{◌≡◌, ℕ, ◌+◌, ◌-◌, Bool, true, false, not, ◌&&◌, ◌||◌, eqb, leb, ltb, cond, Some, None, is_some, refl, sym, ap, ◌∙◌}
use Rattle.std.proofs.lemmas.Bool.{eq-eqb}
use Rattle.dg_nor.specs.Trail.{last, last_of, joined, resting}
use Rattle.dg_nor.proofs.TrailLemmas.{last-joined}
use Rattle.dg_volume.specs.Sizes.{golden_version, short_starts}
use Rattle.dg_volume.specs.Store.{Store, held}
use Rattle.dg_volume.specs.Changes.{spent}
use Rattle.dg_volume.specs.Trails.{BeginsAt}
use Rattle.dg_volume.specs.Start.{Boot, boot, boot_counted, counts, count_trail, by_gesture, order_waits, is_whole, is_set_to, app_of, sound}
use Rattle.dg_volume.specs.Ends.{BootEnds, ordered_runs, order_started, blank_commits}
use Rattle.dg_volume.specs.declared.volume.StartCause.{StartCause}
use Rattle.dg_volume.specs.declared.volume.StartCause.TheVariants as cause
use Rattle.dg_mote.specs.Model.{MoteStep, begun_mote}
use Rattle.dg_mote.specs.Ticks.{tick_of}
use Rattle.dg_mote.specs.Effects.{Effect, boot_by}
use Rattle.dg_mote.specs.Spots.{Spot, ticked}
use Rattle.dg_mote.specs.declared.mote.Did.{Did}
use Rattle.dg_mote.specs.declared.mote.Did.TheVariants.{Restart}
use Rattle.dg_mote.proofs.RoundTicks.{spot_from, ticked_by}

-- what lower crates promise of starts
pub record OrderLaws : Type 0 where
  pub count : (k : StartCause) (s : Store) → last (count_trail k s) ≡ cond (counts k s) (record (spent s) { gesture = s.gesture + 1 }) s
  pub counted : (k : StartCause) (s : Store) → ((boot k s).runs ≡ (boot_counted (last (count_trail k s))).runs) × (last (boot k s).trail ≡ last (boot_counted (last (count_trail k s))).trail)
  pub order : (s : Store) → by_gesture s ≡ false → order_waits s ≡ true → sound s s.order.image ≡ true → BootEnds (boot_counted s) (ordered_runs s) (order_started s)
  pub begins : (k : StartCause) (s : Store) → BeginsAt s (boot k s).trail

module _ (laws : OrderLaws) where
  -- a start for the order is not counted as short, and starts it
  boot_ends : (s : Store) → s.gesture ≡ 0 → order_waits s ≡ true → sound s s.order.image ≡ true → BootEnds (boot cause.Order s) (ordered_runs s) (order_started s)
  boot_ends s g waits fine =
      let not_golden : by_gesture s ≡ false = ap (λ n. eqb n short_starts && (ltb 0 s.room || (not (is_some s.app) || is_set_to s.app 0 golden_version))) g in
      let ends = laws.order s not_golden waits fine in
      record {
        started = (laws.counted cause.Order s).0 ∙ ap (λ c. (boot_counted c).runs) (laws.count cause.Order s) ∙ ends.started;
        ends = (laws.counted cause.Order s).1 ∙ ap (λ c. last (boot_counted c).trail) (laws.count cause.Order s) ∙ ends.ends;
      }

  pub restarts : (x : Spot) (now : ℕ) → tick_of x.mote x.store now 0 ≡ record { mote = x.mote; trail = resting x.store 0; sent = None; answer = Restart }
      → x.store.gesture ≡ 0 → order_waits x.store ≡ true → sound x.store x.store.order.image ≡ true
      → ticked x now ≡ record { store = order_started x.store; mote = begun_mote x.mote.id x.mote.wide now 0 }
  unfolding last_of
  restarts x now e g waits fine =
      ticked_by x now step e
      ∙ ap (λ o. spot_from x.mote (restart (boot_by o b.trail x.mote.id x.mote.wide now 0))) ends.started
      ∙ ap (λ c. record { store = c; mote = begun_mote x.mote.id x.mote.wide now 0 }) (last-joined (resting x.store 0) b.trail (sym (laws.begins cause.Order x.store).first) ∙ ends.ends)
    where
      step : MoteStep Did
      step = record { mote = x.mote; trail = resting x.store 0; sent = None; answer = Restart }

      b : Boot
      b = boot cause.Order x.store

      ends : BootEnds b (ordered_runs x.store) (order_started x.store)
      ends = boot_ends x.store g waits fine

      restart : Effect → Effect
      restart e = record e { trail = joined (resting x.store 0) e.trail }

-- ---- then no order is pending

pub and_none : (a b c : Bool) → (a && (b && (c && false))) ≡ false
and_none true true true = refl
and_none true true false = refl
and_none true false c = refl
and_none false b c = refl

none_by : (s : Store) (room : Bool)
    → (not (eqb s.order.number 0) && (not s.waived && (is_whole (held s s.order.image) s.order.version && (not (is_set_to (Some (app_of (ordered_runs s))) s.order.image s.order.version) && room)))) ≡ false
none_by s room =
    let set : is_set_to (Some (app_of (ordered_runs s))) s.order.image s.order.version ≡ true = λ i. eq-eqb s.order.image s.order.image refl i && eq-eqb s.order.version s.order.version refl i in
    ap (λ b. not (eqb s.order.number 0) && (not s.waived && (is_whole (held s s.order.image) s.order.version && (not b && room)))) set
    ∙ and_none (not (eqb s.order.number 0)) (not s.waived) (is_whole (held s s.order.image) s.order.version)

pub waits_none : (s : Store) → order_waits (order_started s) ≡ false
waits_none s = none_by s (leb 2 (s.room - (blank_commits s.app + 1)))

-- What a mote that hears nothing still has to do, and how a tick reduces it.
use Rattle.std.proofs.Common.{◌≡◌, ◌⊎◌, ℕ, zero, suc, ◌+◌, ◌-◌, ◌*◌, ◌≤◌, Bool, true, false, not, ◌&&◌, cond, eqb, leb, Some, None, min, nat_cmp, refl, sym, ap, subst, ◌∙◌, inl, inr, arith}
use Rattle.std.proofs.lemmas.Bool.{le-leb, leb-true, and_parts, both_ways}
use Rattle.std.specs.FinSet as set
use Rattle.std.specs.FinMap as map
use Rattle.dg_nor.specs.Trail.{last_of}
use Rattle.dg_trickle.specs.Timer.{Timer}
use Rattle.dg_trickle.specs.Steps.{IsRunning, interval_begun, after_tick, is_due, is_over}
use Rattle.dg_trickle.specs.Times.{longest_interval}
use Rattle.dg_quiet.specs.Noted.{Noted, Moments}
use Rattle.dg_recv.specs.Times.{most_requests}
use Rattle.dg_volume.specs.Store.{Store, held}
use Rattle.dg_volume.specs.Changes.{gesture_cleared}
use Rattle.dg_volume.specs.Trails.{clear_trail}
use Rattle.dg_volume.specs.Start.{order_waits, is_whole, is_set_to}
use Rattle.dg_mote.specs.Sizes.{long_run}
use Rattle.dg_mote.specs.Model.{Mode, Maintain, Receive, Transmit}
use Rattle.dg_mote.specs.Ticks.{clears, mode_tick, tick_of}
use Rattle.dg_mote.specs.Spots.{Spot, pace, ticked}
use Rattle.dg_mote.specs.Drained.{spare_room}
use Rattle.dg_mote.specs.declared.mote.Did.TheVariants.{Idle}
use Rattle.dg_mote.proofs.RoundTicks.{ticked_by}
use Rattle.dg_mote.proofs.RoundRestart.{and_none}

-- ---- what is still to be done

abbrev pub one_if : Bool → ℕ
one_if b = cond b 1 0

abbrev timer_debt : Timer → ℕ
timer_debt t = cond (eqb t.count 0) 0 (cond t.fired 1 2)

abbrev pub mode_debt : Mode → ℕ
mode_debt (Maintain t) = timer_debt t
mode_debt (Receive r) = 1 + (most_requests - r.tries)
mode_debt (Transmit t) = set.len t.owed.left

unfoldable pub debt : Spot → ℕ
debt x = (one_if (leb 1 x.store.gesture) + mode_debt x.mote.mode) + one_if (order_waits x.store)

-- the commits that are still to be made
abbrev promised : Store → ℕ
promised s = one_if (leb 1 s.gesture) + 2 * one_if (order_waits s)

-- ---- the timer

pub timer_falls_by : (t : Timer) (now : ℕ) (fired : Bool) → t.fired ≡ fired → IsRunning t → t.begin + pace ≤ now → timer_debt (after_tick t now 0) ≤ timer_debt t - 1
timer_falls_by t now false f r h =
    let due : is_due t now ≡ true = λ i. not (f i) && le-leb (t.begin + t.t) now (omega (arith, r.before_end, r.longest)) i in
    let e : timer_debt (after_tick t now 0) ≡ cond (eqb t.count 0) 0 1 = ap (λ b. timer_debt (cond b (record t { fired = true }) (cond (is_over t now) (interval_begun (min (2 * t.interval) longest_interval) now 0) t))) due in
    let d : timer_debt t ≡ cond (eqb t.count 0) 0 2 = ap (λ b. cond (eqb t.count 0) 0 (cond b 1 2)) f in
    rw (e, d) (less (eqb t.count 0))
  where
    less : (b : Bool) → cond b 0 1 ≤ cond b 0 2 - 1
    less true = omega arith
    less false = omega arith
timer_falls_by t now true f r h =
    let due : is_due t now ≡ false = λ i. not (f i) && leb (t.begin + t.t) now in
    let over : is_over t now ≡ true = λ i. f i && le-leb (t.begin + t.interval) now (omega (arith, r.longest)) i in
    let next : Timer = interval_begun (min (2 * t.interval) longest_interval) now 0 in
    let e : timer_debt (after_tick t now 0) ≡ 0 =
    ap (λ b. timer_debt (cond b (record t { fired = true }) (cond (is_over t now) next t))) due ∙ ap (λ b. timer_debt (cond b next t)) over in
    rw e (omega arith)

-- ---- what a tick leaves

-- nothing was noted after that time
abbrev MomentsPast : Moments → ℕ → Type 0
MomentsPast ms last = (image moment : ℕ) → map.get ms image ≡ Some moment → moment ≤ last

abbrev pub NotedBy : Noted → ℕ → Type 0
NotedBy n last = MomentsPast n.requests last × MomentsPast n.packets last

pub past_none : (last : ℕ) → MomentsPast map.empty last
past_none last image moment e = let none : map.get (map.empty {K = ℕ} {X = ℕ} {R = nat_cmp}) image ≡ None = map.get-empty nat_cmp image in cc

-- n ticks lower the debt by n, make no other commits, and keep the rest
pub record Paid (n : ℕ) (x y : Spot) : Type 0 where
  pub debt : spare_room ≤ y.store.room → debt y ≤ debt x - n
  pub kept : y.store.kept ≡ x.store.kept
  pub id : y.mote.id ≡ x.mote.id
  pub wide : y.mote.wide ≡ x.mote.wide
  pub room : y.store.room ≤ x.store.room
  pub spent : x.store.room + promised y.store ≤ y.store.room + promised x.store
  pub noted : (last : ℕ) → NotedBy x.mote.noted last → NotedBy y.mote.noted last

-- ---- short starts are cleared

ticks_clear : (x : Spot) (now : ℕ) → clears x.mote x.store now ≡ true → ticked x now ≡ record { store = gesture_cleared x.store; mote = x.mote }
unfolding tick_of last_of
ticks_clear x now e =
    ticked_by x now (record { mote = x.mote; trail = clear_trail x.store; sent = None; answer = Idle })
    (ap (λ b. cond b (record { mote = x.mote; trail = clear_trail x.store; sent = None; answer = Idle }) (mode_tick x.mote.mode x.mote x.store now 0)) e)

abbrev waits_with : Store → Bool → Bool
waits_with s room = not (eqb s.order.number 0) && (not s.waived && (is_whole (held s s.order.image) s.order.version && (not (is_set_to s.app s.order.image s.order.version) && room)))

and_false : (b : Bool) → (b && false) ≡ false
and_false true = refl
and_false false = refl

-- if a implies b, an order that is pending with a is pending with b
waits_less : (s : Store) (a b : Bool) → (a ≡ true → b ≡ true) → one_if (waits_with s a) ≤ one_if (waits_with s b)
waits_less s true b h = subst (λ c. one_if (waits_with s true) ≤ one_if (waits_with s c)) (sym (h refl)) (omega arith)
waits_less s false b h =
    let some = not (eqb s.order.number 0) in
    let kept = is_whole (held s s.order.image) s.order.version in
    let none : waits_with s false ≡ false = ap (λ c. some && (not s.waived && (kept && c))) (and_false (not (is_set_to s.app s.order.image s.order.version))) ∙ and_none some (not s.waived) kept in
    let zero : one_if (waits_with s false) ≡ 0 = ap one_if none in
    omega (arith, zero)

pub pays_clear : (x : Spot) (now : ℕ) → clears x.mote x.store now ≡ true → Paid 1 x (ticked x now)
unfolding debt
pays_clear x now e =
    let parts = and_parts (leb 1 x.store.gesture && leb (x.mote.since + long_run) now) (leb 1 x.store.room) e in
    let some = (and_parts (leb 1 x.store.gesture) (leb (x.mote.since + long_run) now) parts.0).0 in
    let y : Spot = record { store = gesture_cleared x.store; mote = x.mote } in
    subst (Paid 1 x) (sym (ticks_clear x now e)) (record {
      debt = λ h.
          let same : order_waits y.store ≡ order_waits x.store =
          ap (waits_with x.store) (le-leb 2 (x.store.room - 1) (omega (arith, h)) ∙ sym (le-leb 2 x.store.room (omega (arith, h)))) in
          let before : one_if (leb 1 x.store.gesture) ≡ 1 = ap one_if some in
          rw (same, before) (omega arith);
      kept = refl;
      id = refl;
      wide = refl;
      room = omega arith;
      spent =
          let before : one_if (leb 1 x.store.gesture) ≡ 1 = ap one_if some in
          let fewer : one_if (order_waits y.store) ≤ one_if (order_waits x.store) =
          waits_less x.store (leb 2 (x.store.room - 1)) (leb 2 x.store.room) (λ h. le-leb 2 x.store.room (omega (arith, leb-true 2 (x.store.room - 1) h))) in
          omega (arith, before, fewer, leb-true 1 x.store.room parts.1);
      noted = λ last p. p;
    })

-- ---- no short starts are counted, or there is no room to clear them

abbrev pub Calm : Store → Type 0
Calm s = (leb 1 s.gesture ≡ false) ⊎ (s.room ≡ 0)

calm_by : (g room : ℕ) (late : Bool) → late ≡ true → ((leb 1 g && late) && leb 1 room) ≡ false → (leb 1 g ≡ false) ⊎ (room ≡ 0)
calm_by zero room late l e = inl refl
calm_by (suc g) zero late l e = inr refl
calm_by (suc g) (suc room) late l e = absurd (both_ways ((leb 1 (suc g) && late) && leb 1 (suc room)) e (λ i. (le-leb 1 (suc g) (omega arith) i && l i) && le-leb 1 (suc room) (omega arith) i))

pub calm : (x : Spot) (now : ℕ) → x.mote.since + long_run ≤ now → clears x.mote x.store now ≡ false → Calm x.store
calm x now old e = calm_by x.store.gesture x.store.room (leb (x.mote.since + long_run) now) (le-leb (x.mote.since + long_run) now old) e

pub no_start : (g : ℕ) → leb 1 g ≡ false → g ≡ 0
no_start zero e = refl
no_start (suc g) e = absurd (both_ways (leb 1 (suc g)) e (le-leb 1 (suc g) (omega arith)))

-- ---- the store stays, and the mode continues

pub pays_mode : (x : Spot) (now : ℕ) (mode next : Mode) → x.mote.mode ≡ mode → mode_debt next ≤ mode_debt mode - 1
    → ticked x now ≡ record { store = x.store; mote = record x.mote { mode = next } } → (1 ≤ mode_debt mode) ⊎ (order_waits x.store ≡ false) → Calm x.store → Paid 1 x (ticked x now)
unfolding debt
pays_mode x now mode next is less same some calm =
    subst (Paid 1 x) (sym same) (record {
      debt = λ h.
          let m : mode_debt x.mote.mode ≡ mode_debt mode = ap mode_debt is in
          let g : leb 1 x.store.gesture ≡ false = elim calm [ inl e ↦ e | inr e ↦ absurd (omega (arith, h, e)) ] in
          rw (m, g) (elim some [
            | inl one ↦ omega (arith, less, one)
            | inr none ↦ rw none (omega (arith, less))
          ]);
      kept = refl;
      id = refl;
      wide = refl;
      room = omega arith;
      spent = omega arith;
      noted = λ last p. p;
    })

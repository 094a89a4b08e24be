-- What a tick of a round does, mode by mode.
use Rattle.std.proofs.Common.{◌≡◌, ℕ, ◌+◌, ◌≤◌, ◌<◌, false, ◌&&◌, cond, leb, List, Option, Some, None, IsSomeAnd, refl, ap, ◌∙◌}
use Rattle.std.proofs.lemmas.Bool.{le-ltb, lt-leb}
use Rattle.dg_nor.specs.Trail.{last, last_of, resting}
use Rattle.dg_trickle.specs.Timer.{Timer}
use Rattle.dg_trickle.specs.Steps.{after_tick, act_of}
use Rattle.dg_trickle.specs.declared.Act.{Act}
use Rattle.dg_trickle.specs.declared.Act.TheVariants as act
use Rattle.dg_recv.specs.Steps.{ask_of, missing}
use Rattle.dg_recv.specs.declared.Ask.TheVariants as ask
use Rattle.dg_recv.specs.Times.{most_requests}
use Rattle.dg_object.specs.Object.{Row}
use Rattle.dg_volume.specs.Store.{Store}
use Rattle.dg_volume.specs.Trails.{clear_trail}
use Rattle.dg_volume.specs.Start.{order_waits}
use Rattle.dg_mote.specs.Sizes.{long_run}
use Rattle.dg_mote.specs.Model.{MoteState, Mode, Maintain, Receiving, reception, MoteStep}
use Rattle.dg_mote.specs.Ticks.{clears, maintain_by, mode_tick, tick_of}
use Rattle.dg_mote.specs.Effects.{Effect, tick_by, tick_effect}
use Rattle.dg_mote.specs.Well.{IsWell, EffectIsWell}
use Rattle.dg_mote.specs.Spots.{Spot, SpotIsWell, ticked, tick_at, mote_or}
use Rattle.dg_mote.specs.declared.mote.Did.{Did}
use Rattle.dg_mote.specs.declared.mote.Did.TheVariants.{Idle, Restart}

-- the spot that an effect leaves
abbrev pub spot_from : MoteState → Effect → Spot
spot_from before e = record { store = last e.trail; mote = mote_or e.mote before }

-- and the one that a step leaves
abbrev pub spot_of : {A : Type 0} → MoteStep A → Spot
spot_of t = record { store = last t.trail; mote = t.mote }

pub ticked_by : (x : Spot) (now : ℕ) (t : MoteStep Did) → tick_of x.mote x.store now 0 ≡ t → ticked x now ≡ spot_from x.mote (tick_by t.answer t now 0)
unfolding ticked tick_effect
ticked_by x now t e = ap (λ (t : MoteStep Did). spot_from x.mote (tick_by t.answer t now 0)) e

pub not_clearing : (m : MoteState) (s : Store) (now : ℕ) → s.gesture ≡ 0 → clears m s now ≡ false
not_clearing m s now e = ap (λ g. (leb 1 g && leb (m.since + long_run) now) && leb 1 s.room) e

-- if no short starts are cleared, the mode decides what a tick does
pub tick_by_mode : (x : Spot) (now : ℕ) (mode : Mode) → clears x.mote x.store now ≡ false → x.mote.mode ≡ mode → tick_of x.mote x.store now 0 ≡ mode_tick mode x.mote x.store now 0
unfolding tick_of
tick_by_mode x now mode none is =
    ap (λ b. cond b (record { mote = x.mote; trail = clear_trail x.store; sent = None; answer = Idle }) (mode_tick x.mote.mode x.mote x.store now 0)) none
    ∙ ap (λ k. mode_tick k x.mote x.store now 0) is

-- ---- it maintains, and no order is pending

maintain_spot : (a : Act) (m before : MoteState) (s : Store) (now : ℕ) → spot_from before (tick_by (maintain_by a m s).answer (maintain_by a m s) now 0) ≡ record { store = s; mote = m }
unfolding last_of
maintain_spot act.Send m before s now = refl
maintain_spot act.Quiet m before s now = refl
maintain_spot act.Expired m before s now = refl
maintain_spot act.Nothing m before s now = refl

pub ticks_maintain : (x : Spot) (now : ℕ) (t : Timer) → clears x.mote x.store now ≡ false → x.mote.mode ≡ Maintain t → order_waits x.store ≡ false
    → ticked x now ≡ record { store = x.store; mote = record x.mote { mode = Maintain (after_tick t now 0) } }
ticks_maintain x now t none is waits =
    let m = record x.mote { mode = Maintain (after_tick t now 0) } in
    ticked_by x now (maintain_by (act_of t now) m x.store)
    (tick_by_mode x now (Maintain t) none is
    ∙ ap (λ b. cond b (record { mote = x.mote; trail = resting x.store 0; sent = None; answer = Restart }) (maintain_by (act_of t now) m x.store)) waits)
    ∙ maintain_spot (act_of t now) m x.mote x.store now

-- ---- it asks

-- a request is due, and not all requests were made yet
pub asks_now : (r : Receiving) (now : ℕ) → r.due ≤ now → r.tries < most_requests → ask_of (reception r) now ≡ ask.Request (missing (reception r))
asks_now r now late few =
    ap (λ b. cond b ask.Wait (cond (leb most_requests r.tries) ask.GiveUp (ask.Request (missing (reception r))))) (le-ltb now r.due late)
    ∙ ap (λ b. cond b ask.GiveUp (ask.Request (missing (reception r)))) (lt-leb most_requests r.tries few)

-- ---- it stays well

some_mote : (o : Option MoteState) (before : MoteState) (P : MoteState → Type 0) → IsSomeAnd o P → P (mote_or o before)
some_mote None before P h = absurd h
some_mote (Some m) before P h = h

pub ticked_well : (table : List Row) (x : Spot) (now : ℕ) → EffectIsWell table (tick_at x now) now → SpotIsWell table (ticked x now) now
unfolding ticked
ticked_well table x now e = some_mote (tick_at x now).mote x.mote (λ m. IsWell table m (last (tick_at x now).trail) now) e.mote

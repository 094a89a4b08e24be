-- A drained mote sends its advert within three ticks, and stays drained.
use Rattle.std.proofs.Common.{◌≡◌, ℕ, zero, suc, ◌+◌, ◌*◌, ◌≤◌, min, Bool, true, false, not, ◌&&◌, cond, leb, ltb, List, Option, Some, None, refl, sym, ap, subst, ◌∙◌, arith}
use Rattle.std.proofs.lemmas.Bool.{le-leb, lt-ltb}
use Rattle.dg_nor.specs.Trail.{resting}
use Rattle.dg_trickle.specs.Timer.{Timer}
use Rattle.dg_trickle.specs.Steps.{IsRunning, interval_begun, after_tick, act_of, is_due, is_over}
use Rattle.dg_trickle.specs.Times.{longest_interval, redundancy}
use Rattle.dg_trickle.specs.declared.Act.{Act}
use Rattle.dg_trickle.specs.declared.Act.TheVariants as act
use Rattle.dg_object.specs.Object.{Row}
use Rattle.dg_volume.specs.Start.{order_waits}
use Rattle.dg_frame.specs.declared.Message.{Message}
use Rattle.dg_mote.specs.Model.{MoteState, Maintain, MoteStep}
use Rattle.dg_mote.specs.Summary.{advert_of}
use Rattle.dg_mote.specs.Ticks.{maintain_by}
use Rattle.dg_mote.specs.Effects.{Effect, tick_by, tick_effect}
use Rattle.dg_mote.specs.Timely.{ModeTimely, Timely}
use Rattle.dg_mote.specs.Well.{StoreIsWell}
use Rattle.dg_mote.specs.Spots.{Spot, SpotIsWell, pace, tick_at, ticked, after_ticks, last_sent, newer_of}
use Rattle.dg_mote.specs.Drained.{Drained}
use Rattle.dg_quiet.specs.Noted.{may_ask}
use Rattle.dg_mote.specs.Agreement.{ModeAgrees}
use Rattle.dg_mote.specs.Completing.{advert_ticks, StaysDrained, Advertises}
use Rattle.dg_mote.specs.declared.mote.Did.{Did}
use Rattle.dg_mote.specs.declared.mote.Did.TheVariants.{Restart}
use Rattle.dg_mote.proofs.TimelyLemmas.{timely_later, timer_ticks}
use Rattle.dg_mote.proofs.RoundTicks.{tick_by_mode, not_clearing, ticks_maintain}

-- it maintains, nothing was heard, and there is nothing to do
record Calm (x : Spot) (now : ℕ) (timer : Timer) : Type 0 where
  maintains : x.mote.mode ≡ Maintain timer
  unheard : timer.count ≡ 0
  gesture : x.store.gesture ≡ 0
  order : order_waits x.store ≡ false
  runs : IsRunning timer
  begun : timer.begin ≤ now

abbrev next : Spot → Timer → (now : ℕ) → Spot
next x t now = record { store = x.store; mote = record x.mote { mode = Maintain (after_tick t now 0) } }

-- the timer after a tick, and what it does, by whether it has fired
fires : (t : Timer) (now : ℕ) → t.fired ≡ false → t.count ≡ 0 → IsRunning t → t.begin + pace ≤ now → (act_of t now ≡ act.Send) × (after_tick t now 0 ≡ record t { fired = true })
fires t now f c r h =
    let due : is_due t now ≡ true = λ i. not (f i) && le-leb (t.begin + t.t) now (omega (arith, r.before_end, r.longest)) i in (
      ap (λ b. cond b (cond (ltb t.count redundancy) act.Send act.Quiet) (cond (is_over t now) act.Expired act.Nothing)) due ∙ ap (λ b. cond b act.Send act.Quiet) (lt-ltb t.count redundancy (omega (arith, c))),
      ap (λ b. cond b (record t { fired = true }) (cond (is_over t now) (interval_begun (min (2 * t.interval) longest_interval) now 0) t)) due,
    )

expires : (t : Timer) (now : ℕ) → t.fired ≡ true → IsRunning t → t.begin + pace ≤ now → (act_of t now ≡ act.Expired) × (after_tick t now 0 ≡ interval_begun (min (2 * t.interval) longest_interval) now 0)
expires t now f r h =
    let due : is_due t now ≡ false = λ i. not (f i) && leb (t.begin + t.t) now in
    let over : is_over t now ≡ true = λ i. f i && le-leb (t.begin + t.interval) now (omega (arith, r.longest)) i in (
      ap (λ b. cond b (cond (ltb t.count redundancy) act.Send act.Quiet) (cond (is_over t now) act.Expired act.Nothing)) due ∙ ap (λ b. cond b act.Expired act.Nothing) over,
      ap (λ b. cond b (record t { fired = true }) (cond (is_over t now) (interval_begun (min (2 * t.interval) longest_interval) now 0) t)) due ∙ ap (λ b. cond b (interval_begun (min (2 * t.interval) longest_interval) now 0) t) over,
    )

tick_is : (x : Spot) (now : ℕ) (t : Timer) → Calm x now t → tick_at x (now + pace) ≡ tick_by (maintain_by (act_of t (now + pace)) (next x t (now + pace)).mote x.store).answer (maintain_by (act_of t (now + pace)) (next x t (now + pace)).mote x.store) (now + pace) 0
unfolding tick_effect
tick_is x now t c =
    ap (λ (s : MoteStep Did). tick_by s.answer s (now + pace) 0)
    (tick_by_mode x (now + pace) (Maintain t) (not_clearing x.mote x.store (now + pace) c.gesture) c.maintains
    ∙ ap (λ b. cond b (record { mote = x.mote; trail = resting x.store 0; sent = None; answer = Restart }) (maintain_by (act_of t (now + pace)) (next x t (now + pace)).mote x.store)) c.order)

-- the outcome of one tick
record OneTick (x : Spot) (now : ℕ) (t u : Timer) : Type 0 where
  calm : Calm (ticked x (now + pace)) (now + pace) u
  store : (ticked x (now + pace)).store ≡ x.store
  mote : (ticked x (now + pace)).mote ≡ record x.mote { mode = Maintain u }
  sent : (tick_at x (now + pace)).sent ≡ cond t.fired None (Some (advert_of x.mote.id x.mote.wide x.store))
  turned : u.fired ≡ not t.fired

one_tick : (x : Spot) (now : ℕ) (t : Timer) → Calm x now t → OneTick x now t (after_tick t (now + pace) 0)
one_tick x now t c =
    let same = ticks_maintain x (now + pace) t (not_clearing x.mote x.store (now + pace) c.gesture) c.maintains c.order in
    let late : t.begin + pace ≤ now + pace = omega (arith, c.begun) in
    let by = by_fired t.fired refl late in
    record {
      calm = subst (λ z. Calm z (now + pace) (after_tick t (now + pace) 0)) (sym same)
          (record { maintains = refl; unheard = by.0; gesture = c.gesture; order = c.order; runs = (timer_ticks t (now + pace) 0 (c.runs, omega (arith, c.begun))).0; begun = (timer_ticks t (now + pace) 0 (c.runs, omega (arith, c.begun))).1 });
      store = ap (λ (z : Spot). z.store) same;
      mote = ap (λ (z : Spot). z.mote) same;
      sent = by.1;
      turned = by.2;
    }
  where
    m : MoteState
    m = (next x t (now + pace)).mote

    told : Act → Option Message
    told a = (tick_by (maintain_by a m x.store).answer (maintain_by a m x.store) (now + pace) 0).sent

    by_fired : (f : Bool) → t.fired ≡ f → t.begin + pace ≤ now + pace
        → ((after_tick t (now + pace) 0).count ≡ 0) × ((tick_at x (now + pace)).sent ≡ cond t.fired None (Some (advert_of x.mote.id x.mote.wide x.store))) × ((after_tick t (now + pace) 0).fired ≡ not t.fired)
    by_fired false f late =
        let both = fires t (now + pace) f c.unheard c.runs late in (
          ap (λ (s : Timer). s.count) both.1 ∙ c.unheard,
          ap (λ (e : Effect). e.sent) (tick_is x now t c) ∙ ap told both.0 ∙ sym (ap (λ b. cond b None (Some (advert_of x.mote.id x.mote.wide x.store))) f),
          ap (λ (s : Timer). s.fired) both.1 ∙ sym (ap not f),
        )
    by_fired true f late =
        let both = expires t (now + pace) f c.runs late in (
          ap (λ (s : Timer). s.count) both.1,
          ap (λ (e : Effect). e.sent) (tick_is x now t c) ∙ ap told both.0 ∙ sym (ap (λ b. cond b None (Some (advert_of x.mote.id x.mote.wide x.store))) f),
          ap (λ (s : Timer). s.fired) both.1 ∙ sym (ap not f),
        )

-- ---- a drained mote that ticks

record Stays (table : List Row) (x : Spot) (now : ℕ) (t : Timer) : Type 0 where
  drained : Drained (ticked x (now + pace)) (now + pace)
  well : SpotIsWell table (ticked x (now + pace)) (now + pace)
  store : (ticked x (now + pace)).store ≡ x.store
  id : (ticked x (now + pace)).mote.id ≡ x.mote.id
  wide : (ticked x (now + pace)).mote.wide ≡ x.mote.wide
  sent : (tick_at x (now + pace)).sent ≡ cond t.fired None (Some (advert_of x.mote.id x.mote.wide x.store))
  turned : drained.timer.fired ≡ not t.fired

stays : (table : List Row) (x : Spot) (now : ℕ) → SpotIsWell table x now → (d : Drained x now) → Stays table x now d.timer
stays table x now w d =
    let runs : ModeTimely (Maintain d.timer) now = subst (λ k. ModeTimely k now) d.maintains w.timely.mode in
    let one = one_tick x now d.timer (record { maintains = d.maintains; unheard = d.unheard; gesture = d.gesture; order = d.order; runs = runs.0; begun = runs.1 }) in
    let u = after_tick d.timer (now + pace) 0 in
    let y = ticked x (now + pace) in
    let t = timely_later x.mote now (now + pace) (omega arith) w.timely in
    record {
      drained = record {
        timer = u;
        maintains = one.calm.maintains;
        unheard = one.calm.unheard;
        gesture = one.calm.gesture;
        order = one.calm.order;
        windows = λ later i from. ap (λ (m : MoteState). may_ask m.noted later i) one.mote ∙ d.windows later i (omega (arith, from));
      };
      well = record {
        store = subst (StoreIsWell table) (sym one.store) w.store;
        mode = subst (λ k. ModeAgrees table y.store k) (sym one.calm.maintains) tt;
        timely = subst (λ m. Timely m (now + pace)) (sym one.mote) (record { since = t.since; requests = t.requests; packets_noted = t.packets_noted; mode = (one.calm.runs, one.calm.begun) });
      };
      store = one.store;
      id = ap (λ (m : MoteState). m.id) one.mote;
      wide = ap (λ (m : MoteState). m.wide) one.mote;
      sent = one.sent;
      turned = one.turned;
    }

pub rests : (table : List Row) (x : Spot) (now n : ℕ) → SpotIsWell table x now → Drained x now → StaysDrained table x now n
unfolding after_ticks
rests table x now zero w d = record { drained = subst (Drained x) (omega arith) d; well = subst (SpotIsWell table x) (omega arith) w; store = refl; id = refl; wide = refl }
rests table x now (suc n) w d =
    let one = stays table x now w d in
    let y = ticked x (now + pace) in
    let more = rests table y (now + pace) n one.well one.drained in
    record {
      drained = subst (Drained (after_ticks n y (now + pace))) (omega arith) more.drained;
      well = subst (SpotIsWell table (after_ticks n y (now + pace))) (omega arith) more.well;
      store = more.store ∙ one.store;
      id = more.id ∙ one.id;
      wide = more.wide ∙ one.wide;
    }

-- ---- in three ticks

newest_of_two : (f : Bool) (a : Message) (before : Option Message) → newer_of (cond (not f) None (Some a)) (newer_of (cond f None (Some a)) before) ≡ Some a
newest_of_two true a before = refl
newest_of_two false a before = refl

pub advertises : (table : List Row) (x : Spot) (now : ℕ) → SpotIsWell table x now → Drained x now → Advertises table x now
unfolding last_sent
advertises table x now w d =
    let one = stays table x now w d in
    let y = ticked x (now + pace) in
    let two = stays table y (now + pace) one.well one.drained in
    let three = stays table (ticked y (now + pace + pace)) (now + pace + pace) two.well two.drained in
    let all = rests table x now advert_ticks w d in
    let own = advert_of x.mote.id x.mote.wide x.store in
    let first = one.drained.timer.fired in
    let said : cond first None (Some (advert_of y.mote.id y.mote.wide y.store)) ≡ cond first None (Some own) = λ i. cond first None (Some (advert_of (one.id i) (one.wide i) (one.store i))) in
    let then : cond two.drained.timer.fired None (Some (advert_of (ticked y (now + pace + pace)).mote.id (ticked y (now + pace + pace)).mote.wide (ticked y (now + pace + pace)).store)) ≡ cond (not first) None (Some own) =
    λ i. cond (two.turned i) None (Some (advert_of ((two.id ∙ one.id) i) ((two.wide ∙ one.wide) i) ((two.store ∙ one.store) i))) in
    record {
      drained = all.drained;
      well = all.well;
      store = all.store;
      id = all.id;
      wide = all.wide;
      sent = λ before.
          (λ i. newer_of ((three.sent ∙ then) i) (newer_of ((two.sent ∙ said) i) (newer_of (tick_at x (now + pace)).sent before)))
          ∙ newest_of_two first own (newer_of (tick_at x (now + pace)).sent before);
    }

-- A mote is idle until something is due.
use Rattle.std.proofs.Common.{◌≡◌, ℕ, ◌<◌, Bool, true, false, refl, sym, ap, ◌∙◌, arith}
use Rattle.std.specs.Prelude.{Option, Some, None, cond, nat_lt}
use Rattle.std.proofs.lemmas.Bool.Decides.{nat_tests}
use Rattle.dg_bits.specs.Sets.{least}
use Rattle.dg_trickle.specs.Timer.{Timer}
use Rattle.dg_trickle.specs.Steps.{act_of, after_tick}
use Rattle.dg_trickle.specs.declared.Act.{Act}
use Rattle.dg_trickle.specs.declared.Act.TheVariants as act
use Rattle.dg_recv.specs.Reception.{Reception}
use Rattle.dg_recv.specs.Steps.{ask_of}
use Rattle.dg_recv.specs.declared.Ask.{Ask}
use Rattle.dg_recv.specs.declared.Ask.TheVariants as ask
use Rattle.dg_send.specs.Steps.{serve_by}
use Rattle.dg_volume.specs.Store.{Store}
use Rattle.dg_volume.specs.Start.{order_waits}
use Rattle.dg_mote.specs.Model.{MoteState, Mode, Maintain, Receive, Transmit, Receiving, Sending, reception}
use Rattle.dg_mote.specs.Ticks.{clears, idle, maintain_by, receive_by, transmit_by, mode_tick, tick_of}
use Rattle.dg_mote.specs.declared.mote.Did.TheVariants as did
use Rattle.dg_volume.specs.Trails.{clear_trail}
use Rattle.dg_recv.specs.Steps.{missing}
use Rattle.dg_recv.specs.Times.{most_requests}
use Rattle.std.specs.Prelude.{nat_le}
use Rattle.std.proofs.Common.{List, subst, ◌⊎◌, ⊎_elim, ◌≤◌, ◌+◌, ◌&&◌, not, min}
use Rattle.dg_trickle.specs.Times.{redundancy}
use Rattle.std.proofs.lemmas.Bool.{cases_lt}
use Rattle.dg_volume.specs.declared.volume.Volume.{Volume}
use Rattle.dg_mote.specs.Motes.{ModeStands}
use Rattle.dg_mote.specs.declared.mote.Mode.{Mode as ModeValue}
use Rattle.dg_mote.specs.declared.mote.Mode.TheVariants as value
use Rattle.dg_mote.specs.Dues.{clears_at, timer_due, mode_due, due_of}

less : (n d : ℕ) → n < d → nat_lt n d ≡ true
less n d l = grind (arith, nat_tests)

-- ---- by the mode

module _ (m : MoteState) (s : Store) (now word : ℕ) where
  rests_by : (a : Act) (timer after : Timer) → m.mode ≡ Maintain timer → a ≡ act.Nothing → after ≡ timer → maintain_by a (record m { mode = Maintain after }) s ≡ idle m s
  rests_by a timer after is nothing same =
      ap (λ (x : Act). maintain_by x (record m { mode = Maintain after }) s) nothing ∙ ap (λ (t : Timer). idle (record m { mode = Maintain t }) s) same ∙ ap (λ (mode : Mode). idle (record m { mode = mode }) s) (sym is)

  pub maintain_rests : (timer : Timer) → m.mode ≡ Maintain timer → order_waits s ≡ false → (act_of timer now ≡ act.Nothing) × (after_tick timer now word ≡ timer) → mode_tick m.mode m s now word ≡ idle m s
  maintain_rests timer is none waits =
      ap (λ (mode : Mode). mode_tick mode m s now word) is
      ∙ ap (λ (b : Bool). cond b (record { mote = m; trail = (idle m s).trail; sent = None; answer = did.Restart }) (maintain_by (act_of timer now) (record m { mode = Maintain (after_tick timer now word) }) s)) none
      ∙ rests_by (act_of timer now) timer (after_tick timer now word) is waits.0 waits.1

  ask_waits : (r : Reception) → now < r.due → ask_of r now ≡ ask.Wait
  ask_waits r l = ap (λ (b : Bool). cond b ask.Wait (cond (nat_le most_requests r.tries) ask.GiveUp (ask.Request (missing r)))) (less now r.due l)

  pub receive_rests : (r : Receiving) → m.mode ≡ Receive r → now < r.due → mode_tick m.mode m s now word ≡ idle m s
  receive_rests r is l = ap (λ (mode : Mode). mode_tick mode m s now word) is ∙ ap (λ (a : Ask). receive_by a m r s now word) (ask_waits (reception r) l)

  serve_waits : (o : Option ℕ) (t : Sending) → transmit_by (serve_by o true) m t s now word ≡ idle m s
  serve_waits None t = refl
  serve_waits (Some q) t = refl

  pub transmit_rests : (t : Sending) → m.mode ≡ Transmit t → now < t.owed.due → mode_tick m.mode m s now word ≡ idle m s
  transmit_rests t is l =
      ap (λ (mode : Mode). mode_tick mode m s now word) is ∙ ap (λ (b : Bool). transmit_by (serve_by (least t.owed.left) b) m t s now word) (less now t.owed.due l) ∙ serve_waits (least t.owed.left) t

  pub tick_rests : clears m s now ≡ false → mode_tick m.mode m s now word ≡ idle m s → tick_of m s now word ≡ idle m s
  unfolding tick_of
  tick_rests none rests = ap (λ (b : Bool). cond b (record { mote = m; trail = clear_trail s; sent = None; answer = did.Idle }) (mode_tick m.mode m s now word)) none ∙ rests

-- ---- when something is due

less_not : (n d : ℕ) → n < d → nat_le d n ≡ false
less_not n d l = grind (arith, nat_tests)

not_less : (n d : ℕ) → d ≤ n → nat_le d n ≡ true
not_less n d l = grind (arith, nat_tests)

early_by : (fired : Bool) (over fires moment : ℕ) (x y : Act) → moment < cond fired over fires → cond (not fired && nat_le fires moment) x (cond (fired && nat_le over moment) y act.Nothing) ≡ act.Nothing
early_by true over fires moment x y l = ap (λ (b : Bool). cond b y act.Nothing) (less_not moment over l)
early_by false over fires moment x y l = ap (λ (b : Bool). cond b x act.Nothing) (less_not moment fires l)

expired : act.Expired ≡ act.Nothing → ⊥
expired e = cc

fired_by : (b : Bool) → cond b act.Send act.Quiet ≡ act.Nothing → ⊥
fired_by true e = cc
fired_by false e = cc

late_by : (fired : Bool) (over fires moment : ℕ) (few : Bool) → cond fired over fires ≤ moment → cond (not fired && nat_le fires moment) (cond few act.Send act.Quiet) (cond (fired && nat_le over moment) act.Expired act.Nothing) ≡ act.Nothing → ⊥
late_by true over fires moment few l e = expired (sym (ap (λ (b : Bool). cond b act.Expired act.Nothing) (not_less moment over l)) ∙ e)
late_by false over fires moment few l e = fired_by few (sym (ap (λ (b : Bool). cond b (cond few act.Send act.Quiet) act.Nothing) (not_less moment fires l)) ∙ e)

-- the first time at which a timer acts is when it is due
pub due_of_timer : (t : Timer) (d : ℕ) → ((moment word : ℕ) → moment < d → (act_of t moment ≡ act.Nothing) × (after_tick t moment word ≡ t)) → ((moment : ℕ) → d ≤ moment → act_of t moment ≡ act.Nothing → ⊥) → d ≡ timer_due t
due_of_timer t d waits acts =
    let few : Bool = nat_lt t.count redundancy in
    ⊎_elim
    (λ (low : d < timer_due t). absurd (acts d (omega arith) (early_by t.fired (t.begin + t.interval) (t.begin + t.t) d (cond few act.Send act.Quiet) act.Expired low)))
    (λ (high : timer_due t ≤ d).
    ⊎_elim (λ (more : timer_due t < d). absurd (late_by t.fired (t.begin + t.interval) (t.begin + t.t) (timer_due t) few (omega arith) (waits (timer_due t) 0 more).0))
    (λ (same : d ≤ timer_due t). omega (arith, high, same))
    (cases_lt (timer_due t) d))
    (cases_lt d (timer_due t))

kept_due : (c : List ℕ) (v : Volume) (s : Store) (t : Timer) (mode : Mode) (d : ℕ) → ModeStands c v s (value.Maintain t) mode → order_waits s ≡ false → d ≡ timer_due t → d ≡ mode_due mode s
kept_due c v s t (Maintain timer) d stands none due = due ∙ ap timer_due stands.0 ∙ sym (ap (λ (b : Bool). cond b 0 (timer_due timer)) none)
kept_due c v s t (Receive r) d stands none due = absurd stands
kept_due c v s t (Transmit x) d stands none due = absurd stands

-- a mote that maintains, and has no order that waits
pub maintain_due : (c : List ℕ) (v : Volume) (s : Store) (kept : ModeValue) (t : Timer) (mode : Mode) (d : ℕ) → kept ≡ value.Maintain t → ModeStands c v s kept mode → order_waits s ≡ false → d ≡ timer_due t → d ≡ mode_due mode s
maintain_due c v s kept t mode d is stands none due = kept_due c v s t mode d (subst (λ (x : ModeValue). ModeStands c v s x mode) is stands) none due

pub due_is : (m : MoteState) (s : Store) (clearing mode : ℕ) → clearing ≡ clears_at m s → mode ≡ mode_due m.mode s → min clearing mode ≡ due_of m s
unfolding due_of
due_is m s clearing mode a b = ap (λ (k : ℕ). min k mode) a ∙ ap (λ (k : ℕ). min (clears_at m s) k) b

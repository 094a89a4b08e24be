-- A mote that maintains, as its step shows.
use Rattle.std.proofs.Common.{◌≡◌, ◌⊎◌, ⊎_elim, ℕ, Bool, true, false, cond, Some, None, refl, sym, ap, subst, ◌∙◌}
use Rattle.dg_nor.specs.Trail.{resting}
use Rattle.dg_trickle.specs.Timer.{Timer}
use Rattle.dg_trickle.specs.Steps.{act_of, after_tick}
use Rattle.dg_trickle.specs.declared.Act.{Act}
use Rattle.dg_trickle.specs.declared.Act.TheVariants as act
use Rattle.dg_volume.specs.Store.{Store}
use Rattle.dg_volume.specs.Start.{order_waits}
use Rattle.dg_frame.specs.Spelling.{frame_of}
use Rattle.dg_mote.specs.Model.{MoteState, Mode, Maintain, MoteStep}
use Rattle.dg_mote.specs.Summary.{advert_of}
use Rattle.dg_mote.specs.Ticks.{maintain_by, maintain_tick}
use Rattle.dg_mote.specs.Motes.{sent_in, IsRead}
use Rattle.dg_mote.specs.Shows.{EndsInMode}
use Rattle.dg_mote.specs.declared.mote.Did.{Did}
use Rattle.dg_mote.specs.declared.mote.Did.TheVariants.{Sent, Idle, Restart}
use Rattle.dg_mote.specs.declared.outbox.Outbox.{Outbox}

abbrev restarts : MoteState → Store → MoteStep Did
restarts m s = record { mote = m; trail = resting s 0; sent = None; answer = Restart }

abbrev ticked : MoteState → Timer → (now word : ℕ) → MoteState
ticked m timer now word = record m { mode = Maintain (after_tick timer now word) }

pub restart_shows : (m : MoteState) (s : Store) (timer new : Timer) (now word : ℕ) (out : Outbox) → m.mode ≡ Maintain timer → new ≡ timer → order_waits s ≡ true → sent_in out ≡ None
    → EndsInMode (maintain_tick m timer s now word) m s (Maintain new) out Restart
restart_shows m s timer new now word out is same waits empty =
    let e : maintain_tick m timer s now word ≡ restarts m s = ap (λ (b : Bool). cond b (restarts m s) (maintain_by (act_of timer now) (ticked m timer now word) s)) waits in
    subst (λ (t : MoteStep Did). EndsInMode t m s (Maintain new) out Restart) (sym e)
    (record { mote = ap (λ (x : Mode). record m { mode = x }) (is ∙ ap Maintain (sym same)); trail = refl; sent = empty; read = tt; answer = refl })

ticks : (m : MoteState) (s : Store) (timer : Timer) (x : Act) (now word : ℕ) → order_waits s ≡ false → x ≡ act_of timer now → maintain_tick m timer s now word ≡ maintain_by x (ticked m timer now word) s
ticks m s timer x now word waits is =
    ap (λ (b : Bool). cond b (restarts m s) (maintain_by (act_of timer now) (ticked m timer now word) s)) waits
    ∙ ap (λ (a : Act). maintain_by a (ticked m timer now word) s) (sym is)

pub advert_shows : (m : MoteState) (s : Store) (timer new : Timer) (now word : ℕ) (out : Outbox) → order_waits s ≡ false → act.Send ≡ act_of timer now → new ≡ after_tick timer now word
    → sent_in out ≡ Some (frame_of (advert_of m.id m.wide s)) → IsRead m.wide (advert_of m.id m.wide s) → EndsInMode (maintain_tick m timer s now word) m s (Maintain new) out Sent
advert_shows m s timer new now word out waits is after sent is_read =
    subst (λ (t : MoteStep Did). EndsInMode t m s (Maintain new) out Sent) (sym (ticks m s timer act.Send now word waits is))
    (record { mote = ap (λ (x : Timer). record m { mode = Maintain x }) (sym after); trail = refl; sent = sent; read = is_read; answer = refl })

not_send : (x : Act) → (x ≡ act.Quiet) ⊎ ((x ≡ act.Expired) ⊎ (x ≡ act.Nothing)) → act.Send ≡ x → ⊥
not_send x is e = ⊎_elim (λ q. cc) (λ more. ⊎_elim (λ q. cc) (λ q. cc) more) is

idle_by : (m n : MoteState) (s : Store) (mode : Mode) (x : Act) (out : Outbox) → (act.Send ≡ x → ⊥) → n ≡ record m { mode = mode } → sent_in out ≡ None → EndsInMode (maintain_by x n s) m s mode out Idle
idle_by m n s mode act.Send out other e empty = absurd (other refl)
idle_by m n s mode act.Quiet out other e empty = record { mote = e; trail = refl; sent = empty; read = tt; answer = refl }
idle_by m n s mode act.Expired out other e empty = record { mote = e; trail = refl; sent = empty; read = tt; answer = refl }
idle_by m n s mode act.Nothing out other e empty = record { mote = e; trail = refl; sent = empty; read = tt; answer = refl }

pub idle_shows : (m : MoteState) (s : Store) (timer new : Timer) (x : Act) (now word : ℕ) (out : Outbox) → order_waits s ≡ false → x ≡ act_of timer now → (x ≡ act.Quiet) ⊎ ((x ≡ act.Expired) ⊎ (x ≡ act.Nothing)) → new ≡ after_tick timer now word
    → sent_in out ≡ None → EndsInMode (maintain_tick m timer s now word) m s (Maintain new) out Idle
idle_shows m s timer new x now word out waits is other after empty =
    subst (λ (t : MoteStep Did). EndsInMode t m s (Maintain new) out Idle) (sym (ticks m s timer x now word waits is))
    (idle_by m (ticked m timer now word) s (Maintain new) x out (not_send x other) (ap (λ (y : Timer). record m { mode = Maintain y }) (sym after)) empty)

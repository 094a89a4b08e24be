-- What happens when a chip powers on.
use Rattle.std.proofs.Common.{◌≡◌, ℕ, suc, true, [], ap, sym, ◌∙◌, subst}
use Rattle.dg_nor.specs.Device.{Device}
use Rattle.dg_volume.specs.Store.{Store}
use Rattle.dg_volume.specs.declared.volume.StartCause.TheVariants as cause
use Rattle.dg_mote.specs.Effects.{Effect, reset_effect}
use Rattle.dg_node.specs.Nodes.{node_mote}
use Rattle.dg_mote.specs.Timely.{Timely}
use Rattle.dg_serial_base.specs.BaseEvents.{Base, moment_at, powered, power_effect, sent_too}
use Rattle.dg_serial_base.specs.inner.Words.{draw_at}
use Rattle.dg_serial_base.specs.inner.Standing.{IsLeft, FailedBy, IsTime, Stood}
use Rattle.dg_serial_base.specs.declared.running.Running.{Running}
use Rattle.dg_end.specs.declared.ends.End.{End}
use Rattle.dg_serial_base.proofs.RunLemmas.{run_rests}
use Rattle.dg_serial_base.proofs.StartLemmas.{reset_silent}

pub none_sent : (b : Base) (s : Store) → (powered b s).sent ≡ []
none_sent b s = ap (sent_too []) (reset_silent s b.id true (moment_at b 0) (draw_at b 0))

power_is : (b : Base) (s : Store) (now word : ℕ) → now ≡ moment_at b 0 → word ≡ draw_at b 0 → reset_effect s b.id true now word ≡ power_effect b s
power_is b s now word n w = ap (λ (x : ℕ). reset_effect s b.id true x word) n ∙ ap (λ (x : ℕ). reset_effect s b.id true (moment_at b 0) x) w

pub power_stood : (b : Base) (s : Store) (now word : ℕ) → now ≡ moment_at b 0 → word ≡ draw_at b 0 → (v : Running) (new : Device) → now ≡ v.timeline.moment → IsTime v.timeline b (suc 0)
    → IsLeft (reset_effect s b.id true now word) new.image (node_mote v.node) now → Stood b s [] v new.image (powered b s) × ((powered b s).sent ≡ [])
power_stood b s now word n w v new at time left =
    let x : IsLeft (power_effect b s) new.image (node_mote v.node) now = subst (λ (e : Effect). IsLeft e new.image (node_mote v.node) now) (power_is b s now word n w) left in (
      record {
        state = x.state;
        run = run_rests b (powered b s);
        on = x.on;
        mote = x.mote;
        timely = subst (λ (k : ℕ). Timely x.state k) at x.timely;
        time = time;
      },
      none_sent b s,
    )

pub power_fails : (b : Base) (s : Store) (why : End) (now word : ℕ) → now ≡ moment_at b 0 → word ≡ draw_at b 0 → (new : Device) → FailedBy why s (reset_effect s b.id true now word) new
    → FailedBy why s (power_effect b s) new × ((powered b s).sent ≡ [])
power_fails b s why now word n w new x = (subst (λ (e : Effect). FailedBy why s e new) (power_is b s now word n w) x, none_sent b s)

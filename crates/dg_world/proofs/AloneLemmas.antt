-- What a mote does alone at its board, as a step of the world.
use Rattle.std.proofs.Common.{◌≡◌, ℕ, ◌+◌, ◌<◌, Bool, true, List, [], length, refl, sym, subst}
use Rattle.std.specs.Prelude.{Option, Result, Ok, Err, IsErrAnd, None}
use Rattle.std.specs.List.{filter}
use Rattle.std.proofs.lemmas.Bool.{both_ways}
use Rattle.dg_nor.specs.Device.{Device, Endures}
use Rattle.dg_nor.specs.Fuse.{beneath_of}
use Rattle.dg_nor.specs.Reads.{ActStopped}
use Rattle.dg_volume.specs.Stands.{Stands}
use Rattle.dg_mote.specs.Motes.{sent_in}
use Rattle.dg_mote.specs.declared.outbox.Outbox.{Outbox}
use Rattle.dg_mote.specs.Effects.{reset_effect}
use Rattle.dg_rules.specs.World.{World as RuleWorld, site, store_at, wide_at}
use Rattle.dg_rules.specs.Events.{Does, of_effect, tick_does, hear_by, does, mote_of, dt_of}
use Rattle.dg_rules.specs.Changes.{is_reported}
use Rattle.dg_base.specs.declared.events.Event.{Event}
use Rattle.dg_base.specs.declared.events.Event.TheVariants.{Tick, Reset, Frame}
use Rattle.dg_script.specs.declared.report.Report.{Report}
use Rattle.dg_world.specs.Alone.{uncut as uncut_step, PlaysAlone, Powers}
use Rattle.dg_world.specs.inner.Outcomes.{outcome_of, halt_of, as_outcome}
use Rattle.dg_world.specs.inner.OutcomeEndings.{outcome_lines, OutcomeEnds}
use Rattle.dg_node.specs.Hosts.{host}
use Rattle.dg_world.specs.Worlds.{SiteStands}
use Rattle.dg_world.specs.declared.outcome.Fault.{Fault}
use Rattle.dg_world.specs.declared.outcome.Fault.TheVariants as fault
use Rattle.dg_world.specs.declared.outcome.Outcome.{Outcome}
use Rattle.dg_node.specs.declared.node.Node.{Node}
use Rattle.dg_world.specs.inner.EventOutcomes.{EventOutcome, Halt, Stopped, NoImage}
use Rattle.dg_world.proofs.CutLemmas.{uncut}
use Rattle.dg_world.proofs.DoneLemmas.{step_outcome}
use Rattle.dg_world.proofs.OutcomeLemmas.{frame_told}

-- ---- which event it is

abbrev pub AppliesAlone : Result EventOutcome Halt → RuleWorld → (v u : Option Node) → ℕ → Device → Device → Event → Type 0
AppliesAlone r w v u now a b event = SiteStands a v (site w (mote_of event)) → now ≡ w.moment + dt_of event → wide_at w (mote_of event) ≡ true → OutcomeEnds r w (mote_of event) (does w event) (host a v) (host b u)

module _ (r : Result EventOutcome Halt) (w : RuleWorld) (v u : Option Node) (now : ℕ) (a b : Device) where
  at_moment : (m : ℕ) (D : ℕ → Does) (moment : ℕ) → now ≡ moment → OutcomeEnds r w m (D now) (host a v) (host b u) → OutcomeEnds r w m (D moment) (host a v) (host b u)
  at_moment m D moment e ends = subst (λ (n : ℕ). OutcomeEnds r w m (D n) (host a v) (host b u)) e ends

  pub alone_ticks : (m dt word : ℕ) → (SiteStands a v (site w m) → OutcomeEnds r w m (tick_does w (store_at w m) (site w m).runs now word) (host a v) (host b u)) → AppliesAlone r w v u now a b (Tick m dt word)
  unfolding does
  alone_ticks m dt word ends = λ stands at wide. at_moment m (λ n. tick_does w (store_at w m) (site w m).runs n word) _ at (ends stands)

  pub alone_hears : (m dt word : ℕ) (bytes : List ℕ) → (SiteStands a v (site w m) → OutcomeEnds r w m (hear_by w (store_at w m) (site w m).runs now word bytes) (host a v) (host b u)) → AppliesAlone r w v u now a b (Frame m dt word bytes)
  unfolding does
  alone_hears m dt word bytes ends = λ stands at wide. at_moment m (λ n. hear_by w (store_at w m) (site w m).runs n word bytes) _ at (ends stands)

  pub alone_starts : (m dt word : ℕ) → (Stands a.image (store_at w m) → OutcomeEnds r w m (of_effect w (reset_effect (store_at w m) m true now word) None) (host a v) (host b u)) → AppliesAlone r w v u now a b (Reset m dt word)
  unfolding does
  alone_starts m dt word ends = λ stands at wide.
      let D : Bool → ℕ → Does = λ x n. of_effect w (reset_effect (store_at w m) m x n word) None in
      at_moment m (D (wide_at w m)) _ at (subst (λ (x : Bool). OutcomeEnds r w m (D x now) (host a v) (host b u)) (sym wide) (ends stands.stands))

-- ---- how it ends

pub alone_done : (t : Outcome) (w : RuleWorld) (e : Event) (v u : Option Node) (a b : Device) → mote_of e < length w.sites → SiteStands a v (site w (mote_of e)) → OutcomeEnds (Ok (outcome_of t)) w (mote_of e) (does w e) (host a v) (host b u)
    → PlaysAlone (Ok t.outbox) w e u a b
alone_done t w e v u a b known stands ends =
    let told : List Report = filter (is_reported true) (outcome_lines (mote_of e) (outcome_of t)) in
    let s = step_outcome w (uncut_step e) true v u (sent_in t.outbox) (outcome_of t) a b [] told known stands (uncut (Ok (outcome_of t)) w (mote_of e) (does w e) v u a b ends) (frame_told t) refl in
    record { ends = record { reported = told; done = s.ends }; endures = s.endures; count = s.count.faults }

pub alone_fails : (f : Fault) (t : Outcome) (w : RuleWorld) (e : Event) (v u : Option Node) (a b : Device) → OutcomeEnds (Err (halt_of f t.before)) w (mote_of e) (does w e) (host a v) (host b u) → PlaysAlone (Err f) w e u a b
alone_fails fault.Stopped t w e v u a b ends =
    let p = uncut (Err (Stopped t.before)) w (mote_of e) (does w e) v u a b ends in
    record { ends = p.ends; endures = p.endures; count = tt }
alone_fails fault.NotAVolume t w e v u a b ends = absurd ends
alone_fails fault.NoImage t w e v u a b ends =
    let p = uncut (Err NoImage) w (mote_of e) (does w e) v u a b ends in
    record { ends = p.ends; endures = p.endures; count = p.count.faults }

-- by what its call answered
pub alone_ok : (r : Result (Unit {0}) Fault) (t : Outcome) (w : RuleWorld) (e : Event) (v u : Option Node) (a b : Device) → r ≡ Ok tt → mote_of e < length w.sites → SiteStands a v (site w (mote_of e)) → OutcomeEnds (as_outcome r t) w (mote_of e) (does w e) (host a v) (host b u)
    → PlaysAlone (Ok t.outbox) w e u a b
alone_ok r t w e v u a b is known stands ends =
    alone_done t w e v u a b known stands (subst (λ x. OutcomeEnds (as_outcome x t) w (mote_of e) (does w e) (host a v) (host b u)) is ends)

pub alone_err : (r : Result (Unit {0}) Fault) (answer : Result Outbox Fault) (f : Fault) (t : Outcome) (w : RuleWorld) (e : Event) (v u : Option Node) (a b : Device) → r ≡ Err f → IsErrAnd answer (λ x. x ≡ f) → OutcomeEnds (as_outcome r t) w (mote_of e) (does w e) (host a v) (host b u)
    → PlaysAlone answer w e u a b
alone_err r (Ok out) f t w e v u a b is same ends = absurd same
alone_err r (Err x) f t w e v u a b is same ends =
    subst (λ (y : Fault). PlaysAlone (Err y) w e u a b) (sym same)
    (alone_fails f t w e v u a b (subst (λ z. OutcomeEnds (as_outcome z t) w (mote_of e) (does w e) (host a v) (host b u)) is ends))

-- ---- starts

pub stopped_endures : (a b : Device) → ActStopped a b → Endures (beneath_of a) (beneath_of b)
stopped_endures a b x = record { faults = x.faults; cause = λ stopped. x.cause; stays = λ was. x.stopped; calm = λ awake. absurd (both_ways b.stopped awake x.stopped) }

powers_with : {S T : Type 0} (f : Fault) (a b : Device) → Powers {T = S} (Err f) a b → Powers {T = T} (Err f) a b
powers_with fault.Stopped a b p = record { ends = p.ends; endures = p.endures; count = p.count }
powers_with fault.NotAVolume a b p = record { ends = p.ends; endures = p.endures; count = p.count }
powers_with fault.NoImage a b p = record { ends = p.ends; endures = p.endures; count = p.count }

-- a fault that is passed on
pub powers_on : {S T : Type 0} (r : Result T Fault) (f : Fault) (a b : Device) → IsErrAnd r (λ e. e ≡ f) → Powers {T = S} (Err f) a b → Powers r a b
powers_on (Ok x) f a b is p = absurd is
powers_on {S} {T} (Err e) f a b is p = subst (λ (y : Fault). Powers {T = T} (Err y) a b) (sym is) (powers_with f a b p)

pub powers_done : {S T : Type 0} (x : S) (y : T) (a b : Device) → Powers (Ok x) a b → Powers (Ok y) a b
powers_done x y a b p = record { ends = p.ends; endures = p.endures; count = p.count }

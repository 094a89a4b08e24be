-- What an event did, from its outcome.
use Rattle.std.proofs.Common.{◌≡◌, ℕ, Bool, true, false, List, refl, ap, sym, ◌∙◌, subst}
use Rattle.std.proofs.lemmas.Bool.{false≢true}
use Rattle.std.specs.Prelude.{Option, Some, None, Result, Ok, Err, IsErrAnd}
use Rattle.dg_nor.specs.Device.{Device}
use Rattle.dg_mote.specs.Motes.{sent_in}
use Rattle.dg_rules.specs.World.{World as RuleWorld}
use Rattle.dg_rules.specs.Events.{Does}
use Rattle.dg_script.specs.declared.report.Cause.{Cause}
use Rattle.dg_world.specs.inner.EventOutcomes.{EventOutcome, Refused, Unreported, Changes, Starts}
use Rattle.dg_world.specs.inner.OutcomeEndings.{outcome_frame, outcome_sent, OutcomeEnds}
use Rattle.dg_node.specs.Hosts.{host}
use Rattle.dg_world.specs.inner.Untold.{is_untold}
use Rattle.dg_world.specs.inner.Outcomes.{outcome_by, outcome_of, halt_of, as_outcome}
use Rattle.dg_node.specs.declared.report.ChipReport.{ChipReport}
use Rattle.dg_node.specs.declared.answers.StartedImage.{StartedImage}
use Rattle.dg_world.specs.declared.outcome.Outcome.{Outcome}
use Rattle.dg_world.specs.declared.outcome.Fault.{Fault}
use Rattle.dg_node.specs.declared.node.Node.{Node}

-- ---- which outcome it is

pub is_refused : (o : Option (List ℕ)) (why : Cause) (x : Option StartedImage) (a b : Option ChipReport) → o ≡ None → outcome_by o (Some why) x a b ≡ Refused why
is_refused None why x a b e = refl
is_refused (Some bytes) why x a b e = absurd cc

pub is_started : (o : Option (List ℕ)) (why : Option Cause) (x : StartedImage) (a b : Option ChipReport) → o ≡ None → why ≡ None → outcome_by o why (Some x) a b ≡ Starts x
is_started None None x a b e f = refl
is_started None (Some why) x a b e f = absurd cc
is_started (Some bytes) why x a b e f = absurd cc

pub is_changed : (o : Option (List ℕ)) (why : Option Cause) (x : Option StartedImage) (a b : ChipReport) → o ≡ None → why ≡ None → x ≡ None → outcome_by o why x (Some a) (Some b) ≡ Changes a b
is_changed None None None a b e f g = refl
is_changed None None (Some x) a b e f g = absurd cc
is_changed None (Some why) x a b e f g = absurd cc
is_changed (Some bytes) why x a b e f g = absurd cc

-- what was reported before is known, and nothing of what is reported after
pub is_begun : (o : Option (List ℕ)) (why : Option Cause) (x : Option StartedImage) (a : ChipReport) (b : Option ChipReport) → o ≡ None → why ≡ None → x ≡ None → b ≡ None → outcome_by o why x (Some a) b ≡ Unreported
is_begun None None None a None e f g h = refl
is_begun None None None a (Some b) e f g h = absurd cc
is_begun None None (Some x) a b e f g h = absurd cc
is_begun None (Some why) x a b e f g h = absurd cc
is_begun (Some bytes) why x a b e f g h = absurd cc

pub is_sent : (o : Option (List ℕ)) (why : Option Cause) (x : Option StartedImage) (a b : Option ChipReport) → why ≡ None → x ≡ None → a ≡ None → outcome_by o why x a b ≡ outcome_sent o
is_sent (Some bytes) why x a b e f g = refl
is_sent None None None None b e f g = refl
is_sent None None None (Some a) b e f g = absurd cc
is_sent None None (Some x) a b e f g = absurd cc
is_sent None (Some why) x a b e f g = absurd cc

pub changes_of : (t : Outcome) (a b : ChipReport) → sent_in t.outbox ≡ None → t.refused ≡ None → t.started ≡ None → t.before ≡ Some a → t.after ≡ Some b → outcome_of t ≡ Changes a b
changes_of t a b sent refused started before after =
    ap (λ (x : Option ChipReport). outcome_by (sent_in t.outbox) t.refused t.started x t.after) before
    ∙ ap (λ (x : Option ChipReport). outcome_by (sent_in t.outbox) t.refused t.started (Some a) x) after
    ∙ is_changed (sent_in t.outbox) t.refused t.started a b sent refused started

-- ---- nothing is reported

pub untold_none : (why : Option Cause) (a b : Option ChipReport) (x : Option StartedImage) (o : Option Bool) → is_untold why a b x o ≡ true → (why ≡ None) × (a ≡ None) × (b ≡ None) × (x ≡ None) × (o ≡ None)
untold_none None None None None None e = (refl, refl, refl, refl, refl)
untold_none (Some why) a b x o e = absurd (false≢true e)
untold_none None (Some a) b x o e = absurd (false≢true e)
untold_none None None (Some b) x o e = absurd (false≢true e)
untold_none None None None (Some x) o e = absurd (false≢true e)
untold_none None None None None (Some o) e = absurd (false≢true e)

pub unreported_of : (t : Outcome) → t.is_told ≡ false → sent_in t.outbox ≡ None → outcome_of t ≡ Unreported
unreported_of t untold sent =
    let n = untold_none t.refused t.before t.after t.started t.orderly (t.untold untold) in
    is_sent (sent_in t.outbox) t.refused t.started t.before t.after n.0 n.3 n.1 ∙ ap outcome_sent sent

-- its frame is that of the outbox
frame_by : (o : Option (List ℕ)) (why : Option Cause) (x : Option StartedImage) (a b : Option ChipReport) → o ≡ outcome_frame (outcome_by o why x a b)
frame_by (Some bytes) why x a b = refl
frame_by None (Some why) x a b = refl
frame_by None None (Some x) a b = refl
frame_by None None None (Some a) (Some b) = refl
frame_by None None None (Some a) None = refl
frame_by None None None None b = refl

pub frame_told : (t : Outcome) → sent_in t.outbox ≡ outcome_frame (outcome_of t)
frame_told t = frame_by (sent_in t.outbox) t.refused t.started t.before t.after

-- ---- how it ends

module _ (w : RuleWorld) (m : ℕ) (does : Does) (v u : Option Node) (a b : Device) where
  pub told_as : (t x : EventOutcome) → t ≡ x → OutcomeEnds (Ok x) w m does (host a v) (host b u) → OutcomeEnds (Ok t) w m does (host a v) (host b u)
  told_as t x e ends = subst (λ (y : EventOutcome). OutcomeEnds (Ok y) w m does (host a v) (host b u)) (sym e) ends

  pub halts_as : (f : Fault) (p q : Option ChipReport) → p ≡ q → OutcomeEnds (Err (halt_of f q)) w m does (host a v) (host b u) → OutcomeEnds (Err (halt_of f p)) w m does (host a v) (host b u)
  halts_as f p q e ends = subst (λ (x : Option ChipReport). OutcomeEnds (Err (halt_of f x)) w m does (host a v) (host b u)) (sym e) ends

  -- a fault that is passed on
  pub as_outcome_err : {T : Type 0} (r : Result T Fault) (f : Fault) (t : Outcome) (before : Option ChipReport) → IsErrAnd r (λ e. e ≡ f) → t.before ≡ before → OutcomeEnds (Err (halt_of f before)) w m does (host a v) (host b u) → OutcomeEnds (as_outcome r t) w m does (host a v) (host b u)
  as_outcome_err (Ok x) f t before is none ends = absurd is
  as_outcome_err (Err e) f t before is none ends =
      subst (λ (x : Fault). OutcomeEnds (Err (halt_of x t.before)) w m does (host a v) (host b u)) (sym is) (halts_as f t.before before none ends)

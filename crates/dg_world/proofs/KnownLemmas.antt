-- Whether an event sees that its chip is orderly, and what it reads.
use Rattle.std.proofs.Common.{◌≡◌, ◌⊎◌, ℕ, ◌+◌, ◌*◌, ◌≤◌, ◌||◌, Bool, true, false, List, refl, sym, ap, ◌∙◌, subst, inl, inr, ⊎_elim, arith}
use Rattle.std.specs.Prelude.{Option, Some, None, Result, Ok, Err, OnOk, OnErr, IfSome, ◌↔◌, is_none}
use Rattle.dg_nor.specs.Device.{Device, Took, RisesAtMost}
use Rattle.dg_nor.proofs.TakenLemmas.{Took-same, Took_then, Took-more}
use Rattle.dg_control.specs.Store.{IsOrderlyChip}
use Rattle.dg_control.specs.Sizes.{place_size}
use Rattle.dg_control.specs.Mounted.{IsControlOf}
use Rattle.dg_volume.specs.Remount.{RemountBytes}
use Rattle.dg_volume.specs.Stands.{control_of, IsVolume}
use Rattle.dg_rules.specs.World.{World as RuleWorld, Running}
use Rattle.dg_rules.specs.Events.{EventEffect, Does, Refuses, Goes, does}
use Rattle.dg_volume.specs.Store.{Store}
use Rattle.dg_mote.specs.Motes.{volume_of, sent_in}
use Rattle.std.proofs.lemmas.Option.{same_Some}
use Rattle.dg_base.specs.declared.events.Cut.{Cut as PowerCut}
use Rattle.dg_base.specs.declared.events.Event.TheVariants.{Tick, Hear, Last, Reset, Inject, Order as OrderEvent, Frame}
use Rattle.dg_world.specs.Worlds.{MoteStands}
use Rattle.dg_world.specs.inner.EventOutcomes.{EventOutcome, Refused, Unreported, Sends, Changes, Starts, Whole}
use Rattle.dg_world.specs.inner.OutcomeEndings.{OutcomeEnds}
use Rattle.dg_world.specs.inner.CutEnds.{PlayEnds, ended}
use Rattle.dg_node.specs.Hosts.{host}
use Rattle.dg_world.specs.inner.Outcomes.{outcome_by, outcome_of, halt_of, as_outcome, ended_as}
use Rattle.dg_node.specs.declared.report.ChipReport.{ChipReport}
use Rattle.dg_node.specs.declared.answers.StartedImage.{StartedImage}
use Rattle.dg_world.specs.declared.outcome.Power.{Power}
use Rattle.dg_world.specs.declared.outcome.Power.TheVariants as power
use Rattle.dg_script.specs.declared.report.Cause.{Cause}
use Rattle.dg_script.specs.declared.report.Cause.TheVariants as cause
use Rattle.dg_world.specs.inner.Sees.{InjectReads, EventSees, EventReads, StepSees, SeesCut, SeesInjected, IsUndeclared, KnownAfter}
use Rattle.dg_world.specs.Known.{beyond, IsInject, IsOrder, OrderTakes, InjectTakes}
use Rattle.dg_shared.specs.LookedInto.{IsLookedInto, MakesKnown}
use Rattle.dg_node.specs.Known.{IsKnownChip, OrderReads}
use Rattle.dg_base.specs.declared.events.Event.{Event}
use Rattle.dg_world.specs.declared.outcome.Outcome.{Outcome}
use Rattle.dg_node.specs.declared.node.Node.{Node}
use Rattle.dg_world.specs.declared.outcome.Fault.{Fault}
use Rattle.dg_world.specs.declared.outcome.Fault.TheVariants as fault

-- ---- whether a chip that was only read is orderly

-- ---- what was read

took_within : (n k : ℕ) (a b : Device) → n ≤ k → Took n a b → Took k a b
took_within n k a b l h = Took-more l h

-- a board that was only mounted
pub mount_reads : (known : Bool) (a m : Device) → ((c : List ℕ) (p q : ℕ) → RemountBytes c p → RemountBytes c q → p ≡ q) → (known ≡ true → (n : ℕ) → RemountBytes a.image n → Took n a m) → m.image ≡ a.image → OrderReads known a m
mount_reads known a m one took image = record {
  took = took;
  stays = λ is. subst (λ (c : List ℕ). IsKnownChip c) (sym image) is;
  bytes = λ p q here after. let e : p ≡ q = one a.image p q here (subst (λ (c : List ℕ). RemountBytes c q) image after) in omega (arith, e);
}

-- ---- each event

pub sees_at : {T : Type 0} (r : Result T Fault) (t : Outcome) (u : Option Node) (c d : List ℕ) (e f : Event) → e ≡ f → OnOk r (EventSees f t u c d) → OnOk r (EventSees e t u c d)
sees_at r t u c d e f is sees = subst (λ (x : Event). OnOk r (EventSees x t u c d)) (sym is) sees

pub reads_at : (known : Bool) (done : Type 0) (o : Option Cause) (a b : Device) (e f : Event) → e ≡ f → EventReads f known done o a b → EventReads e known done o a b
reads_at known done o a b e f is reads = subst (λ (x : Event). EventReads x known done o a b) (sym is) reads

pub when_ok : {T X : Type 0} (r : Result T Fault) → OnOk r X → OnErr r ⊥ → X
when_ok (Ok y) x ok = x
when_ok (Err f) x ok = absurd ok

-- ---- what a step sees

undeclared : (outcome : EventOutcome) (D : Does) → IsUndeclared outcome → ((why : Cause) → outcome ≡ Refused why → D ≡ Refuses why) → IsLookedInto D → ⊥
undeclared (Refused cause.Image) D x refused made = made.declared (refused cause.Image refl)
undeclared (Refused cause.Reserved) D x refused made = made.not_reserved (refused cause.Reserved refl)
undeclared (Refused cause.Off) D x refused made = x
undeclared (Refused cause.Frame) D x refused made = x
undeclared (Refused cause.Link) D x refused made = x
undeclared (Refused cause.Empty) D x refused made = x
undeclared (Refused (cause.TooLarge length)) D x refused made = x
undeclared (Refused (cause.Stale version)) D x refused made = x
undeclared (Refused cause.Taken) D x refused made = x
undeclared (Refused (cause.Worn room)) D x refused made = x
undeclared (Refused (cause.OldOrder number)) D x refused made = x
undeclared Unreported D x refused made = x
undeclared (Sends bytes) D x refused made = x
undeclared (Changes old new) D x refused made = x
undeclared (Starts line) D x refused made = x

module _ (w : RuleWorld) (known : Bool) (u : Option Node) (c d : List ℕ) where
  inject_sees : (m image version dt word : ℕ) (o : Option Bool) (outcome : EventOutcome) → SeesInjected o outcome c d → ((why : Cause) → outcome ≡ Refused why → does w (Inject m image version dt word) ≡ Refuses why) → StepSees w (Inject m image version dt word) known o u c d
  inject_sees m image version dt word (Some o) outcome x refused = x
  inject_sees m image version dt word None outcome x refused = λ off. (λ is. x.0, λ made. undeclared outcome (does w (Inject m image version dt word)) x.1 refused made)

  order_sees : (m number image version dt word : ℕ) (o : Option Bool) (outcome : EventOutcome) → SeesInjected o outcome c d → ((why : Cause) → outcome ≡ Refused why → does w (OrderEvent m number image version dt word) ≡ Refuses why) → StepSees w (OrderEvent m number image version dt word) known o u c d
  order_sees m number image version dt word (Some o) outcome x refused = x
  order_sees m number image version dt word None outcome x refused = λ off. (λ is. x.0, λ made. undeclared outcome (does w (OrderEvent m number image version dt word)) x.1 refused made)

  pub step_sees : (e : Event) (t : Outcome) → EventSees e t u c d → ((why : Cause) → outcome_of t ≡ Refused why → does w e ≡ Refuses why) → StepSees w e known t.orderly u c d
  step_sees (Tick m dt word) t x refused = subst (λ (o : Option Bool). StepSees w (Tick m dt word) known o u c d) (sym x.untold) (λ off. (λ is. x.off off, λ made. made))
  step_sees (Hear m dt word frame) t x refused = subst (λ (o : Option Bool). StepSees w (Hear m dt word frame) known o u c d) (sym x.untold) (λ off. (λ is. x.off off, λ made. made))
  step_sees (Last from to dt word) t x refused = subst (λ (o : Option Bool). StepSees w (Last from to dt word) known o u c d) (sym x.untold) (λ off. (λ is. x.off off, λ made. made))
  step_sees (Frame m dt word bytes) t x refused = subst (λ (o : Option Bool). StepSees w (Frame m dt word bytes) known o u c d) (sym x.untold) (λ off. (λ is. x.off off, λ made. made))
  step_sees (Reset m dt word) t x refused = subst (λ (o : Option Bool). StepSees w (Reset m dt word) known o u c d) (sym x.untold) (λ off. absurd (x.on off))
  step_sees (Inject m image version dt word) t x refused = inject_sees m image version dt word t.orderly (outcome_of t) x refused
  step_sees (OrderEvent m number image version dt word) t x refused = order_sees m number image version dt word t.orderly (outcome_of t) x refused

  -- after a cut that fired: the board was looked at, or was neither known nor made known
  pub cut_sees : (e : Event) (o : Option Bool) → SeesCut w e known o d → StepSees w e known o u c d
  cut_sees e (Some o) x = x
  cut_sees e None x = λ off. (λ is. absurd (x.0 is), x.1)

-- which outcome a refusal is
pub outcome_refused : (w : RuleWorld) (m : ℕ) (D : Does) (v u : Option Node) (a b : Device) (outcome : EventOutcome) → OutcomeEnds (Ok outcome) w m D (host a v) (host b u) → (why : Cause) → outcome ≡ Refused why → D ≡ Refuses why
outcome_refused w m D v u a b outcome ends why is = let x : OutcomeEnds (Ok (Refused why)) w m D (host a v) (host b u) = subst (λ (y : EventOutcome). OutcomeEnds (Ok y) w m D (host a v) (host b u)) is ends in x.0

pub play_refused : (w : RuleWorld) (m : ℕ) (D : Does) (cut : Option PowerCut) (v u : Option Node) (a b : Device) (outcome : EventOutcome) → PlayEnds (Ok (Whole outcome)) w m D cut (host a v) (host b u) → (why : Cause) → outcome ≡ Refused why → D ≡ Refuses why
play_refused w m D cut v u a b outcome ends why is = let x : PlayEnds (Ok (Whole (Refused why))) w m D cut (host a v) (host b u) = subst (λ (y : EventOutcome). PlayEnds (Ok (Whole y)) w m D cut (host a v) (host b u)) is ends in x.0

pub refuses_goes : (A : Type 0) (D : Does) (why : Cause) → (d : EventEffect) → D ≡ Goes d → D ≡ Refuses why → A
refuses_goes A D why d goes refuses = let e : Goes d ≡ Refuses why = sym goes ∙ refuses in absurd cc

same_refusal : (x y : Cause) → Refuses x ≡ Refuses y → x ≡ y
same_refusal x y e = cc

pub refused_outcome : (w : RuleWorld) (m : ℕ) (D : Does) (v u : Option Node) (a b : Device) (outcome : EventOutcome) → OutcomeEnds (Ok outcome) w m D (host a v) (host b u) → (why : Cause) → D ≡ Refuses why → outcome ≡ Refused why
refused_outcome w m D v u a b (Refused x) ends why is = ap Refused (same_refusal x why (sym ends.0 ∙ is))
refused_outcome w m D v u a b Unreported ends why is = refuses_goes _ D why ends.effect ends.goes is
refused_outcome w m D v u a b (Sends bytes) ends why is = refuses_goes _ D why ends.effect ends.goes is
refused_outcome w m D v u a b (Changes p q) ends why is = refuses_goes _ D why ends.effect ends.goes is
refused_outcome w m D v u a b (Starts x) ends why is = refuses_goes _ D why ends.effect ends.goes is

pub refused_play : (w : RuleWorld) (m : ℕ) (D : Does) (cut : Option PowerCut) (v u : Option Node) (a b : Device) (outcome : EventOutcome) → PlayEnds (Ok (Whole outcome)) w m D cut (host a v) (host b u) → (why : Cause) → D ≡ Refuses why → outcome ≡ Refused why
refused_play w m D cut v u a b (Refused x) ends why is = ap Refused (same_refusal x why (sym ends.0 ∙ is))
refused_play w m D cut v u a b Unreported ends why is = refuses_goes _ D why ends.effect ends.goes is
refused_play w m D cut v u a b (Sends bytes) ends why is = refuses_goes _ D why ends.effect ends.goes is
refused_play w m D cut v u a b (Changes p q) ends why is = refuses_goes _ D why ends.effect ends.goes is
refused_play w m D cut v u a b (Starts x) ends why is = refuses_goes _ D why ends.effect ends.goes is

told_by : (o : Option (List ℕ)) (r : Option Cause) (x : Option StartedImage) (a b : Option ChipReport) (why : Cause) → outcome_by o r x a b ≡ Refused why → r ≡ Some why
told_by (Some bytes) r x a b why e = absurd cc
told_by None (Some y) x a b why e = cc
told_by None None (Some x) a b why e = absurd cc
told_by None None None (Some p) (Some q) why e = absurd cc
told_by None None None (Some p) None why e = absurd cc
told_by None None None None b why e = absurd cc

pub refused_told : (t : Outcome) (why : Cause) → outcome_of t ≡ Refused why → t.refused ≡ Some why
refused_told t why e = told_by (sent_in t.outbox) t.refused t.started t.before t.after why e

-- ---- what a step reads

reads_inject : (e : Event) (known : Bool) (done : Type 0) (o : Option Cause) (a b : Device) → IsInject e → EventReads e known done o a b → done → InjectReads known o a b
reads_inject (Tick m dt word) known done o a b is x d = absurd is
reads_inject (Hear m dt word frame) known done o a b is x d = absurd is
reads_inject (Last from to dt word) known done o a b is x d = absurd is
reads_inject (Frame m dt word bytes) known done o a b is x d = absurd is
reads_inject (Reset m dt word) known done o a b is x d = absurd is
reads_inject (Inject m image version dt word) known done o a b is x d = x d
reads_inject (OrderEvent m number image version dt word) known done o a b is x d = absurd is

pub reads_order : (e : Event) (known : Bool) (done : Type 0) (o : Option Cause) (a b : Device) → IsOrder e → EventReads e known done o a b → OrderReads known a b
reads_order (Tick m dt word) known done o a b is x = absurd is
reads_order (Hear m dt word frame) known done o a b is x = absurd is
reads_order (Last from to dt word) known done o a b is x = absurd is
reads_order (Frame m dt word bytes) known done o a b is x = absurd is
reads_order (Reset m dt word) known done o a b is x = absurd is
reads_order (Inject m image version dt word) known done o a b is x = absurd is
reads_order (OrderEvent m number image version dt word) known done o a b is x = x

pub inject_takes : (w : RuleWorld) (e : Event) (known : Bool) (done : Type 0) (o : Option Cause) (a b : Device) → known ≡ true → done → EventReads e known done o a b → ((why : Cause) → does w e ≡ Refuses why → o ≡ Some why) → InjectTakes w e a b
inject_takes w e known done o a b is d x told = record { took = λ inject n why refuses remount. reads_inject e known done o a b inject x d is n why remount (told why refuses) }

pub order_takes : (e : Event) (known : Bool) (done : Type 0) (o : Option Cause) (a b : Device) → known ≡ true → EventReads e known done o a b → OrderTakes e a b
order_takes e known done o a b is x = record { took = λ order n remount. took_within n (2 * n + place_size) a b (omega arith) ((reads_order e known done o a b order x).took is n remount) }

pub order_again : (e : Event) (known : Bool) (done : Type 0) (o : Option Cause) (a m b : Device) → ((c : List ℕ) → IsVolume c → (n : ℕ) × RemountBytes c n) → known ≡ true → IsKnownChip a.image → EventReads e known done o a m → (known ≡ true → IsOrder e → (n : ℕ) → RemountBytes m.image n → Took n m b) → OrderTakes e a b
order_again e known done o a m b some is chip x look = record {
  took = λ order n remount.
      let r = reads_order e known done o a m order x in
      let k = some m.image (r.stays chip).volume in
      let less = r.bytes n k.0 remount k.1 in
      took_within (n + k.0) (2 * n + place_size) a b (omega (arith, less)) (Took_then {b = m} (r.took is n remount) (look is order k.0 k.1));
}

-- ---- over a fuse

took_over : (n : ℕ) (x y a b : Device) → x.taken ≡ a.taken → y.taken ≡ b.taken → Took n x y → Took n a b
took_over n x y a b e f t = record { rise = subst (λ (p : Option ℕ). RisesAtMost n p b.taken) e (subst (λ (p : Option ℕ). RisesAtMost n x.taken p) f t.rise) }

pub reads_over : (e : Event) (known : Bool) (p q : Type 0) (o : Option Cause) (x y a b : Device) → (q → p) → x.image ≡ a.image → y.image ≡ b.image → x.taken ≡ a.taken → y.taken ≡ b.taken → EventReads e known p o x y → EventReads e known q o a b
reads_over (Tick m dt word) known p q o x y a b done is js e f r = tt
reads_over (Hear m dt word frame) known p q o x y a b done is js e f r = tt
reads_over (Last from to dt word) known p q o x y a b done is js e f r = tt
reads_over (Frame m dt word bytes) known p q o x y a b done is js e f r = tt
reads_over (Reset m dt word) known p q o x y a b done is js e f r = tt
reads_over (Inject m image version dt word) known p q o x y a b done is js e f r =
    λ d k n why remount some. took_over (n + beyond why) x y a b e f (r (done d) k n why (subst (λ (c : List ℕ). RemountBytes c n) (sym is) remount) some)
reads_over (OrderEvent m number image version dt word) known p q o x y a b done is js e f r = record {
  took = λ k n remount. took_over n x y a b e f (r.took k n (subst (λ (c : List ℕ). RemountBytes c n) (sym is) remount));
  stays = λ chip. subst (λ (c : List ℕ). IsKnownChip c) js (r.stays (subst (λ (c : List ℕ). IsKnownChip c) (sym is) chip));
  bytes = λ n k here after. r.bytes n k (subst (λ (c : List ℕ). RemountBytes c n) (sym is) here) (subst (λ (c : List ℕ). RemountBytes c k) (sym js) after);
}

stays_by : (f : Fault) (b : Bool) (before : Option ChipReport) (outcome : EventOutcome) → Ok (Whole outcome) ≡ ended b (Err (halt_of f before)) → ⊥
stays_by fault.Stopped true before outcome e = cc
stays_by fault.Stopped false before outcome e = cc
stays_by fault.NotAVolume b before outcome e = cc
stays_by fault.NoImage b before outcome e = cc

-- if power stays on, the event was done
pub stays_done : (r : Result Power Fault) (done : Result (Unit {0}) Fault) (b : Bool) (t : Outcome) → ended_as r t ≡ ended b (as_outcome done t) → r ≡ Ok power.Stays → OnErr done ⊥
stays_done r (Ok y) b t e is = tt
stays_done r (Err f) b t e is = stays_by f b t.before (outcome_of t) (sym (ap (λ (q : Result Power Fault). ended_as q t) is) ∙ e)

-- ---- what is known afterwards

watches : (known makes : Bool) → ((known || makes) ≡ true) ↔ ((known ≡ true) ⊎ (makes ≡ true))
watches true makes = (λ is. inl refl, λ x. refl)
watches false makes = (λ is. inr is, λ x. ⊎_elim (λ h. absurd cc) (λ h. h) x)

pub on_control : (c : List ℕ) (u : Option Node) (s : Store) (o : Option Running) → MoteStands c u s o → IfSome u (λ r. IsControlOf c (control_of (volume_of r.mote)))
on_control c None s o stands = tt
on_control c (Some v) s None stands = absurd stands
on_control c (Some v) s (Some r) stands = stands.1.mounted.control

module _ (w : RuleWorld) (e : Event) (known makes result : Bool) (a b : Device) (made : (makes ≡ true) ↔ MakesKnown w e) (was : known ≡ true → IsOrderlyChip a.image) where
  watched : (known || makes) ≡ true → (known ≡ true) ⊎ MakesKnown w e
  watched is = ⊎_elim (λ h. inl h) (λ h. inr (made.0 h)) ((watches known makes).0 is)

  to_watch : (known ≡ true) ⊎ MakesKnown w e → (known || makes) ≡ true
  to_watch x = (watches known makes).1 (⊎_elim (λ h. inl h) (λ h. inr (made.1 h)) x)

  pub known_then : (seen : Option Bool) (u : Option Node) → StepSees w e known seen u a.image b.image → KnownAfter (known || makes) seen u b.image result → IfSome u (λ r. IsControlOf b.image (control_of (volume_of r.mote)))
      → (result ≡ true) ↔ (IsOrderlyChip b.image × ((known ≡ true) ⊎ MakesKnown w e))
  known_then seen (Some r) sees after control = let x = after control in (λ is. let y = x.0 is in (y.1, watched y.0), λ y. x.1 (to_watch y.1, y.0))
  known_then (Some o) None sees after control = (λ is. let y = after.0 is in (sees.0 y.1, watched y.0), λ y. after.1 (to_watch y.1, sees.1 y.0))
  known_then None None sees after control =
      let x = sees refl in (
        λ is. let y = watched (sym after ∙ is) in (⊎_elim (λ h. subst (λ (c : List ℕ). IsOrderlyChip c) (sym (x.0 h)) (was h)) (λ h. absurd (x.1 h)) y, y),
        λ y. after ∙ to_watch y.1,
      )

-- ---- small facts

pub no_value : {A : Type 0} (o : Option A) → is_none o ≡ true → o ≡ None
no_value None e = refl
no_value (Some x) e = absurd cc

-- a board that was not used
pub same_takes : (e : Event) (a b : Device) (o : Option Device) → o ≡ Some a → o ≡ Some b → OrderTakes e a b
same_takes e a b o old new = record { took = λ order n remount. subst (λ (d : Device). Took (2 * n + place_size) a d) (same_Some a b (sym old ∙ new)) (Took-same (2 * n + place_size) refl) }

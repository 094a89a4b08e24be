-- Events that are refused without a look at the chip.
use Rattle.std.proofs.Common.{◌≡◌, ℕ, zero, suc, Bool, true, false, List, [], ◌∷◌, subst, refl, sym, ap, ◌∙◌}
use Rattle.std.specs.Prelude.{if◌then◌else◌, is_none, slice_get, slice_set, Option, Some, None, Result, Ok, Err, OnErr}
use Rattle.dg_nor.specs.Device.{Device}
use Rattle.dg_control.specs.declared.snapshot.Order.{Order}
use Rattle.dg_volume.specs.Store.{Store}
use Rattle.dg_rules.specs.World.{World as RuleWorld, Running, site, store_at, wide_at, frame_at, linked, last_frame}
use Rattle.dg_rules.specs.Events.{Does, Refuses, tick_does, hear_by, heard_sent, heard_last, unless_off, knows, injects, orders, does}
use Rattle.dg_base.specs.declared.events.Event.{Event}
use Rattle.dg_base.specs.declared.events.Event.TheVariants.{Tick, Hear, Last, Reset, Inject, Order as OrderEvent, Frame}
use Rattle.dg_script.specs.declared.report.Cause.TheVariants as cause
use Rattle.dg_shared.specs.Shareds.{IsShared}
use Rattle.dg_world.specs.Worlds.{MoteStands, SiteStands}
use Rattle.dg_shared.specs.Unseen.{RefusesUnseen}
use Rattle.dg_world.specs.inner.EventOutcomes.{Whole, Cut}
use Rattle.dg_world.specs.inner.CutEnds.{ended}
use Rattle.dg_world.specs.inner.Outcomes.{outcome_of, halt_of, as_outcome, ended_as}
use Rattle.dg_world.specs.inner.Contexts.{AppliesIn}
use Rattle.dg_shared.specs.declared.context.EventContext.{EventContext}
use Rattle.dg_world.specs.declared.outcome.Fault.{Fault}
use Rattle.dg_world.specs.declared.outcome.Power.{Power}
use Rattle.dg_world.specs.declared.outcome.Power.TheVariants as power
use Rattle.dg_world.specs.declared.outcome.Outcome.{Outcome}
use Rattle.dg_node.specs.declared.node.Node.{Node}

-- ---- the mote is on

-- what a mote does that is on
pub on_unseen : {A : Type 0} (D : Option Running → Does) (x : Node) (v : Option Node) (c : List ℕ) (s : Store) (o : Option Running) → v ≡ Some x → MoteStands c v s o → ((r : Running) → RefusesUnseen (D (Some r)) → ⊥) → RefusesUnseen (D o) → A
on_unseen D x v c s o is stands none unseen = by_running o (subst (λ (y : Option Node). MoteStands c y s o) is stands) unseen
  where
    by_running : {A : Type 0} (y : Option Running) → MoteStands c (Some x) s y → RefusesUnseen (D y) → A
    by_running None stands unseen = absurd stands
    by_running (Some r) stands unseen = absurd (none r unseen)

pub unless_unseen : (D : Does) (v : Option Node) (c : List ℕ) (s : Store) (o : Option Running) → MoteStands c v s o → is_none v ≡ false → RefusesUnseen (unless_off o D) → RefusesUnseen D
unless_unseen D None c s o stands on unseen = absurd cc
unless_unseen D (Some x) c s None stands on unseen = absurd stands
unless_unseen D (Some x) c s (Some r) stands on unseen = unseen

-- which frame is heard
pub unseen_at : {A : Type 0} (D : A → Does) (x y : A) → x ≡ y → RefusesUnseen (D x) → RefusesUnseen (D y)
unseen_at D x y e unseen = subst (λ z. RefusesUnseen (D z)) e unseen

-- an image that the mote knows
pub known_unseen : (D : Does) (x known : Bool) → x ≡ known → known ≡ true → RefusesUnseen (if x then D else Refuses cause.Image) → RefusesUnseen D
known_unseen D x known same is unseen = subst (λ (y : Bool). RefusesUnseen (if y then D else Refuses cause.Image)) (same ∙ is) unseen

-- ---- each event

-- what is known of an event that is refused unseen: its board is unchanged, and nothing stopped
abbrev pub Unused : {N E : Type 0} (r : Result (Unit {0}) E) (old new : N) → Type 0
Unused r old new = (new ≡ old) × OnErr r ⊥

-- what the clause `unseen` of `apply_apart` says
abbrev pub StaysUnused : {N E : Type 0} → Result (Unit {0}) E → (old new : N) → RuleWorld → EventContext → Device → Option Node → Event → Type 0
StaysUnused r old new w o a v event = AppliesIn o w event a v → RefusesUnseen (does w event) → Unused r old new

module _ {N E : Type 0} (r : Result (Unit {0}) E) (old new : N) (w : RuleWorld) (o : EventContext) (a : Device) (v : Option Node) where
  -- at the moment of the event
  at_moment : (D : ℕ → Does) (moment : ℕ) → o.moment ≡ moment → RefusesUnseen (D moment) → RefusesUnseen (D o.moment)
  at_moment D moment e unseen = subst (λ (n : ℕ). RefusesUnseen (D n)) (sym e) unseen

  -- at its mote too
  placed : (m moment : ℕ) (D : ℕ → ℕ → Does) → o.mote ≡ m → o.moment ≡ moment
      → (SiteStands a v (site w o.mote) → RefusesUnseen (D o.mote o.moment) → Unused r old new) → SiteStands a v (site w m) → RefusesUnseen (D m moment) → Unused r old new
  placed m moment D here at stays =
      subst (λ (k : ℕ). SiteStands a v (site w k) → RefusesUnseen (D k moment) → Unused r old new) here
      (subst (λ (n : ℕ). SiteStands a v (site w o.mote) → RefusesUnseen (D o.mote n) → Unused r old new) at stays)

  pub tick_unseen : (m dt word : ℕ) → (SiteStands a v (site w m) → RefusesUnseen (tick_does w (store_at w m) (site w m).runs o.moment word) → Unused r old new) → StaysUnused r old new w o a v (Tick m dt word)
  unfolding does
  tick_unseen m dt word stays = λ on unseen. stays on.stands (at_moment (λ n. tick_does w (store_at w m) (site w m).runs n word) _ on.moment unseen)

  pub hear_unseen : (m dt word number : ℕ) → o.mote ≡ m
      → (IsShared o.shared.now w → SiteStands a v (site w o.mote) → RefusesUnseen (unless_off (site w o.mote).runs (heard_sent w o.mote o.moment word (frame_at w number))) → Unused r old new)
      → StaysUnused r old new w o a v (Hear m dt word number)
  unfolding does
  hear_unseen m dt word number here stays = λ on unseen.
      placed m _ (λ k n. unless_off (site w k).runs (heard_sent w k n word (frame_at w number))) here on.moment (stays on.shared) on.stands unseen

  pub last_unseen : (from to dt word : ℕ) → o.mote ≡ to
      → (IsShared o.shared.now w → SiteStands a v (site w o.mote)
      → RefusesUnseen (unless_off (site w o.mote).runs (if linked w from o.mote then heard_last w from o.mote o.moment word (last_frame w from) else Refuses cause.Link)) → Unused r old new)
      → StaysUnused r old new w o a v (Last from to dt word)
  unfolding does
  last_unseen from to dt word here stays = λ on unseen.
      placed to _ (λ k n. unless_off (site w k).runs (if linked w from k then heard_last w from k n word (last_frame w from) else Refuses cause.Link)) here on.moment (stays on.shared) on.stands unseen

  pub frame_unseen : (m dt word : ℕ) (bytes : List ℕ) → (SiteStands a v (site w m) → RefusesUnseen (hear_by w (store_at w m) (site w m).runs o.moment word bytes) → Unused r old new) → StaysUnused r old new w o a v (Frame m dt word bytes)
  unfolding does
  frame_unseen m dt word bytes stays = λ on unseen. stays on.stands (at_moment (λ n. hear_by w (store_at w m) (site w m).runs n word bytes) _ on.moment unseen)

  pub reset_unseen : (m dt word : ℕ) → StaysUnused r old new w o a v (Reset m dt word)
  unfolding does
  reset_unseen m dt word = λ on unseen. absurd unseen

  pub inject_unseen : (m image version dt word : ℕ) → o.mote ≡ m
      → (IsShared o.shared.now w → RefusesUnseen (if knows (wide_at w o.mote) image then injects w o.mote image version o.moment word else Refuses cause.Image) → Unused r old new)
      → StaysUnused r old new w o a v (Inject m image version dt word)
  unfolding does
  inject_unseen m image version dt word here stays = λ on unseen.
      placed m _ (λ k n. if knows (wide_at w k) image then injects w k image version n word else Refuses cause.Image) here on.moment (λ stands. stays on.shared) on.stands unseen

  pub order_unseen : (m number image version dt word : ℕ) → o.mote ≡ m
      → (IsShared o.shared.now w → RefusesUnseen (if knows (wide_at w o.mote) image then orders w o.mote (record { number = number; image = image; version = version }) o.moment word else Refuses cause.Image) → Unused r old new)
      → StaysUnused r old new w o a v (OrderEvent m number image version dt word)
  unfolding does
  order_unseen m number image version dt word here stays = λ on unseen.
      let order : Order = record { number = number; image = image; version = version } in
      placed m _ (λ k n. if knows (wide_at w k) image then orders w k order n word else Refuses cause.Image) here on.moment (λ stands. stays on.shared) on.stands unseen

-- ---- over a fuse

-- where nothing stopped, no power was cut
pub ended_on : (r : Result Power Fault) (done : Result (Unit {0}) Fault) (b : Bool) (t : Outcome) → ended_as r t ≡ ended b (as_outcome done t) → OnErr done ⊥ → r ≡ Ok power.Stays
ended_on (Ok power.Stays) (Ok u) b t e on = refl
ended_on (Ok power.Cut) (Ok u) b t e on = absurd (let f : Ok (Cut t.before) ≡ Ok (Whole (outcome_of t)) = e in cc)
ended_on (Err f) (Ok u) b t e on = absurd (let f : Err (halt_of f t.before) ≡ Ok (Whole (outcome_of t)) = e in cc)
ended_on r (Err f) b t e on = absurd on

-- which arm of a step it is not
pub not_err : {A E : Type 0} (r : Result (Unit {0}) E) (f : E) → r ≡ Err f → OnErr r ⊥ → A
not_err (Ok u) f e on = absurd cc
not_err (Err f) g e on = absurd on

pub not_stays : {A : Type 0} (r : Result Power Fault) (f : Fault) → r ≡ Err f → r ≡ Ok power.Stays → A
not_stays r f e on = let g : Err f ≡ Ok power.Stays = sym e ∙ on in absurd cc

pub not_cut : {A : Type 0} (r : Result Power Fault) → r ≡ Ok power.Cut → r ≡ Ok power.Stays → A
not_cut r e on = let g : Ok power.Cut ≡ Ok power.Stays = sym e ∙ on in absurd cc

-- ---- the boards

-- an unchanged board is put back
pub put_back : {A : Type 0} (xs : List A) (i : ℕ) (x y : A) → slice_get xs i ≡ Some x → y ≡ x → slice_set xs i y ≡ xs
put_back [] i x y at same = cc
put_back (z ∷ zs) zero x y at same = let here : z ≡ x = cc in ap (λ v. v ∷ zs) (same ∙ sym here)
put_back (z ∷ zs) (suc i) x y at same = ap (λ vs. z ∷ vs) (put_back zs i x y at same)

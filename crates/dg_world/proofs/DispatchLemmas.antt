-- What each event does at the board of its mote.
use Rattle.std.proofs.Common.{◌≡◌, ℕ, Bool, true, false, List, sym, subst, refl, ap, ◌∙◌}
use Rattle.std.specs.Prelude.{if◌then◌else◌, is_none, is_some, not, Option, Some, None, Result, Ok}
use Rattle.dg_nor.specs.Device.{Device}
use Rattle.dg_nor.specs.Reads.{Looked}
use Rattle.dg_control.specs.declared.snapshot.Order.{Order}
use Rattle.dg_volume.specs.Store.{Store}
use Rattle.dg_volume.specs.Stands.{Stands}
use Rattle.dg_mote.specs.Effects.{reset_effect}
use Rattle.dg_rules.specs.World.{World as RuleWorld, Running, site, store_at, wide_at, frame_at, linked, last_frame}
use Rattle.dg_rules.specs.Events.{Does, Refuses, of_effect, tick_does, hear_by, heard_sent, heard_last, unless_off, knows, injects, orders, does, mote_of}
use Rattle.dg_base.specs.declared.events.Event.{Event}
use Rattle.dg_base.specs.declared.events.Event.TheVariants.{Tick, Hear, Last, Reset, Inject, Order as OrderEvent, Frame}
use Rattle.dg_script.specs.declared.report.Cause.{Cause}
use Rattle.dg_script.specs.declared.report.Cause.TheVariants as cause
use Rattle.dg_shared.specs.Shareds.{IsShared}
use Rattle.dg_world.specs.Worlds.{MoteStands, SiteStands}
use Rattle.dg_world.specs.inner.OutcomeEndings.{OutcomeEnds}
use Rattle.dg_node.specs.Hosts.{host}
use Rattle.dg_world.specs.inner.Contexts.{AppliesIn}
use Rattle.dg_shared.specs.declared.context.EventContext.{EventContext}
use Rattle.dg_node.specs.declared.node.Node.{Node}
use Rattle.dg_world.specs.inner.EventOutcomes.{EventOutcome, Halt, Refused}

-- what `apply_apart` ensures
abbrev pub ApplyEnsures : Result EventOutcome Halt → RuleWorld → EventContext → (v u : Option Node) → Device → Device → Event → Type 0
ApplyEnsures r w o v u a b event = AppliesIn o w event a v → OutcomeEnds r w (mote_of event) (does w event) (host a v) (host b u)

module _ (r : Result EventOutcome Halt) (w : RuleWorld) (o : EventContext) (v u : Option Node) (a b : Device) where
  -- at the mote and the moment of the event
  placed : (m moment : ℕ) (D : ℕ → ℕ → Does) → o.mote ≡ m → o.moment ≡ moment
      → (SiteStands a v (site w o.mote) → OutcomeEnds r w o.mote (D o.mote o.moment) (host a v) (host b u)) → SiteStands a v (site w m) → OutcomeEnds r w m (D m moment) (host a v) (host b u)
  placed m moment D here at ends =
      subst (λ (k : ℕ). SiteStands a v (site w k) → OutcomeEnds r w k (D k moment) (host a v) (host b u)) here
      (subst (λ (n : ℕ). SiteStands a v (site w o.mote) → OutcomeEnds r w o.mote (D o.mote n) (host a v) (host b u)) at ends)

  -- at the moment of the event
  at_moment : (m : ℕ) (D : ℕ → Does) (moment : ℕ) → o.moment ≡ moment → OutcomeEnds r w m (D o.moment) (host a v) (host b u) → OutcomeEnds r w m (D moment) (host a v) (host b u)
  at_moment m D moment e ends = subst (λ (n : ℕ). OutcomeEnds r w m (D n) (host a v) (host b u)) e ends

  pub tick_applies : (m dt word : ℕ) → (SiteStands a v (site w m) → OutcomeEnds r w m (tick_does w (store_at w m) (site w m).runs o.moment word) (host a v) (host b u)) → ApplyEnsures r w o v u a b (Tick m dt word)
  unfolding does
  tick_applies m dt word ends = λ on. at_moment m (λ n. tick_does w (store_at w m) (site w m).runs n word) _ on.moment (ends on.stands)

  pub hear_applies : (m dt word number : ℕ) → o.mote ≡ m
      → (IsShared o.shared.now w → SiteStands a v (site w o.mote) → OutcomeEnds r w o.mote (unless_off (site w o.mote).runs (heard_sent w o.mote o.moment word (frame_at w number))) (host a v) (host b u))
      → ApplyEnsures r w o v u a b (Hear m dt word number)
  unfolding does
  hear_applies m dt word number here ends = λ on.
      placed m _ (λ k n. unless_off (site w k).runs (heard_sent w k n word (frame_at w number))) here on.moment (ends on.shared) on.stands

  pub last_applies : (from to dt word : ℕ) → o.mote ≡ to
      → (IsShared o.shared.now w → SiteStands a v (site w o.mote)
      → OutcomeEnds r w o.mote (unless_off (site w o.mote).runs (if linked w from o.mote then heard_last w from o.mote o.moment word (last_frame w from) else Refuses cause.Link)) (host a v) (host b u))
      → ApplyEnsures r w o v u a b (Last from to dt word)
  unfolding does
  last_applies from to dt word here ends = λ on.
      placed to _ (λ k n. unless_off (site w k).runs (if linked w from k then heard_last w from k n word (last_frame w from) else Refuses cause.Link)) here on.moment (ends on.shared) on.stands

  pub frame_applies : (m dt word : ℕ) (bytes : List ℕ) → (SiteStands a v (site w m) → OutcomeEnds r w m (hear_by w (store_at w m) (site w m).runs o.moment word bytes) (host a v) (host b u)) → ApplyEnsures r w o v u a b (Frame m dt word bytes)
  unfolding does
  frame_applies m dt word bytes ends = λ on. at_moment m (λ n. hear_by w (store_at w m) (site w m).runs n word bytes) _ on.moment (ends on.stands)

  pub reset_applies : (m dt word : ℕ) → o.mote ≡ m
      → (IsShared o.shared.now w → Stands a.image (store_at w o.mote)
      → OutcomeEnds r w o.mote (of_effect w (reset_effect (store_at w o.mote) o.mote (wide_at w o.mote) o.moment word) None) (host a v) (host b u))
      → ApplyEnsures r w o v u a b (Reset m dt word)
  unfolding does
  reset_applies m dt word here ends = λ on.
      placed m _ (λ k n. of_effect w (reset_effect (store_at w k) k (wide_at w k) n word) None) here on.moment (λ stands. ends on.shared stands.stands) on.stands

  pub inject_applies : (m image version dt word : ℕ) → o.mote ≡ m
      → (IsShared o.shared.now w → SiteStands a v (site w o.mote) → OutcomeEnds r w o.mote (if knows (wide_at w o.mote) image then injects w o.mote image version o.moment word else Refuses cause.Image) (host a v) (host b u))
      → ApplyEnsures r w o v u a b (Inject m image version dt word)
  unfolding does
  inject_applies m image version dt word here ends = λ on.
      placed m _ (λ k n. if knows (wide_at w k) image then injects w k image version n word else Refuses cause.Image) here on.moment (ends on.shared) on.stands

  pub order_applies : (m number image version dt word : ℕ) → o.mote ≡ m
      → (let order : Order = record { number = number; image = image; version = version } in
      IsShared o.shared.now w → SiteStands a v (site w o.mote) → OutcomeEnds r w o.mote (if knows (wide_at w o.mote) image then orders w o.mote order o.moment word else Refuses cause.Image) (host a v) (host b u))
      → ApplyEnsures r w o v u a b (OrderEvent m number image version dt word)
  unfolding does
  order_applies m number image version dt word here ends = λ on.
      let order : Order = record { number = number; image = image; version = version } in
      placed m _ (λ k n. if knows (wide_at w k) image then orders w k order n word else Refuses cause.Image) here on.moment (ends on.shared) on.stands

  -- a mote that is on does what is asked of it
  pub not_off : (m : ℕ) (D : Does) (c : List ℕ) (s : Store) (y : Option Running) → MoteStands c v s y → is_none v ≡ false → OutcomeEnds r w m D (host a v) (host b u) → OutcomeEnds r w m (unless_off y D) (host a v) (host b u)
  not_off m D c s y stands on ends = subst (λ (x : Does). OutcomeEnds r w m x (host a v) (host b u)) (sym (is_on v y stands on)) ends
    where
      is_on : (x : Option Node) (y : Option Running) → MoteStands c x s y → is_none x ≡ false → unless_off y D ≡ D
      is_on None y stands on = absurd cc
      is_on (Some x) None stands on = absurd stands
      is_on (Some x) (Some y) stands on = refl

-- one that is off refuses it
pub is_off : (w : RuleWorld) (m : ℕ) (D : Does) (v : Option Node) (c : List ℕ) (s : Store) (o : Option Running) (a : Device) → MoteStands c v s o → is_none v ≡ true → Looked a a → OutcomeEnds (Ok (Refused cause.Off)) w m (unless_off o D) (host a v) (host a v)
is_off w m D None c s None a stands off looked = (refl, looked, refl)
is_off w m D None c s (Some r) a stands off looked = absurd stands
is_off w m D (Some v) c s o a stands off looked = absurd cc

-- which frame is heard
pub refuses_at : {A : Type 0} (D : A → Does) (x y : A) (why : Cause) (w : RuleWorld) (m : ℕ) (v : Option Node) (a : Device) → x ≡ y → D y ≡ Refuses why → Looked a a → OutcomeEnds (Ok (Refused why)) w m (D x) (host a v) (host a v)
refuses_at D x y why w m v a e is looked = (ap D e ∙ is, looked, refl)

pub ends_at : {A : Type 0} (D : A → Does) (x y : A) (r : Result EventOutcome Halt) (w : RuleWorld) (m : ℕ) (v u : Option Node) (a b : Device) → x ≡ y → OutcomeEnds r w m (D y) (host a v) (host b u) → OutcomeEnds r w m (D x) (host a v) (host b u)
ends_at D x y r w m v u a b e ends = subst (λ z. OutcomeEnds r w m (D z) (host a v) (host b u)) (sym e) ends

-- what is reported of a mote that is off
pub none_told : {A : Type 0} (o : Option A) (result b : Bool) → is_some o ≡ not result → result ≡ b → is_none o ≡ b
none_told o result b told is = ap not told ∙ twice result ∙ is
  where
    twice : (x : Bool) → not (not x) ≡ x
    twice true = refl
    twice false = refl

-- ---- images that a narrow mote does not know

-- what it knows is done, and all else is refused
pub known_ends : (D : Does) (r : Result EventOutcome Halt) (w : RuleWorld) (m : ℕ) (v u : Option Node) (a b : Device) (x known : Bool) → x ≡ known → known ≡ true → OutcomeEnds r w m D (host a v) (host b u)
    → OutcomeEnds r w m (if x then D else Refuses cause.Image) (host a v) (host b u)
known_ends D r w m v u a b x known same is ends = subst (λ (y : Bool). OutcomeEnds r w m (if y then D else Refuses cause.Image) (host a v) (host b u)) (sym (same ∙ is)) ends

pub unknown_ends : (D : Does) (w : RuleWorld) (m : ℕ) (v : Option Node) (a : Device) (x known : Bool) → x ≡ known → known ≡ false → Looked a a → OutcomeEnds (Ok (Refused cause.Image)) w m (if x then D else Refuses cause.Image) (host a v) (host a v)
unknown_ends D w m v a x known same is looked = (ap (λ (y : Bool). if y then D else Refuses cause.Image) (same ∙ is), looked, refl)

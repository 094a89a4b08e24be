-- A step of the world where the board and the mote of one place changed.
use Rattle.std.proofs.Common.{◌≡◌, ◌≢◌, ◌⊎◌, ℕ, zero, suc, ◌+◌, ◌^◌, ◌<◌, Bool, true, false, List, [], ◌∷◌, length, get_or, set, map, refl, ap, sym, ◌∙◌, subst, inl, inr, ⊎_elim, arith, eqb-true, eq-eqb}
use Rattle.std.specs.Prelude.{◌↔◌, ◌≤◌, ◌++◌, ◌==◌, IfSome, Result, slice_get, slice_index_or, Option, Some, None, Ok, Err}
use Rattle.std.proofs.Math.ListN.{length-set}
use Rattle.std.proofs.lemmas.List.{get_or-set_same, get_or-set_other, get_or_read}
use Rattle.std.proofs.lemmas.Option.{same_Some}
use Rattle.std.proofs.lemmas.Bool.{both_ways}
use Rattle.dg_nor.specs.Device.{Device, Endures, MadeMore}
use Rattle.dg_nor.specs.Fuse.{beneath_of}
use Rattle.dg_nor.proofs.DeviceLemmas.{Endures-same}
use Rattle.dg_nor.specs.Trail.{last}
use Rattle.dg_control.specs.Store.{IsOrderlyChip}
use Rattle.dg_world.specs.Known.{known_of}
use Rattle.dg_shared.specs.LookedInto.{MakesKnown}
use Rattle.dg_node.specs.Known.{IsKnownChip}
use Rattle.dg_world.specs.Knows.{KnowsThen}
use Rattle.dg_base.specs.declared.events.Event.{Event}
use Rattle.dg_slot.specs.Pages.{program}
use Rattle.dg_volume.specs.Store.{Store}
use Rattle.dg_volume.specs.Stands.{Stands}
use Rattle.dg_rules.specs.Sizes.{most_events}
use Rattle.dg_mote.specs.Timely.{Timely}
use Rattle.dg_mote.proofs.TimelyLemmas.{timely_later}
use Rattle.dg_rules.specs.World.{World as RuleWorld, Running, Site, Sent, no_site, site, store_at}
use Rattle.dg_rules.specs.Premises.{WorldTimely}
use Rattle.dg_rules.specs.Events.{does, mote_of, dt_of}
use Rattle.dg_rules.specs.Steps.{cut_world, WorldStep}
use Rattle.dg_rules.specs.Made.{made_in}
use Rattle.dg_base.specs.declared.events.Step.{Step}
use Rattle.dg_script.specs.declared.report.Report.{Report}
use Rattle.dg_object.specs.Object.{Row}
use Rattle.dg_shared.specs.Airs.{Carries, sent_now}
use Rattle.dg_shared.specs.Images.{Declares}
use Rattle.dg_shared.specs.Shareds.{IsShared}
use Rattle.dg_shared.specs.declared.links.Links.{Links}
use Rattle.dg_shared.specs.Neighbours.{KnowsLinks}
use Rattle.dg_world.specs.Worlds.{MoteStands, SiteStands, MayRun, IsWorld}
use Rattle.dg_world.specs.Counts.{AreSteady, IsSteady}
use Rattle.dg_world.proofs.CountLemmas.{steady_same}
use Rattle.dg_world.specs.Applied.{MadeOn, OneBoard, Applied, FlashAt, RunEnded}
use Rattle.dg_world.specs.inner.Outcomes.{fault_of}
use Rattle.dg_world.specs.Deployments.{Deployment, deployed}
use Rattle.dg_world.specs.Cuts.{IsStopped, StepFoundNoImage}
use Rattle.dg_world.specs.Stepped.{StepDone, board_state}
use Rattle.dg_world.specs.inner.Steps.{Stepped}
use Rattle.dg_shared.specs.declared.air.Air.{Air}
use Rattle.dg_shared.specs.declared.images.Images.{Images}
use Rattle.dg_world.specs.declared.world.WorldFault.{WorldFault}
use Rattle.dg_world.specs.declared.world.WorldFault.TheVariants as world_fault
use Rattle.dg_world.specs.declared.world.World.{World}
use Rattle.dg_node.specs.declared.node.Node.{Node}
use Rattle.dg_world.specs.inner.EventOutcomes.{Halt, Stopped, NotAVolume, NoImage}

-- ---- lists by their indices

same_or : (b : Bool) (k i : ℕ) → (k == i) ≡ b → (k ≡ i) ⊎ (k ≢ i)
same_or true k i e = inl (eqb-true k i e)
same_or false k i e = inr (λ h. both_ways (k == i) e (eq-eqb k i h))

pub is_or : (k i : ℕ) → (k ≡ i) ⊎ (k ≢ i)
is_or k i = same_or (k == i) k i refl

get_set_same : {A : Type 0} (xs : List A) (i : ℕ) (y : A) → i < length xs → slice_get (set xs i y) i ≡ Some y
get_set_same [] i y h = absurd (omega arith)
get_set_same (x ∷ xs) zero y h = refl
get_set_same (x ∷ xs) (suc i) y h = get_set_same xs i y (omega arith)

get_set_other : {A : Type 0} (xs : List A) (i k : ℕ) (y : A) → k ≢ i → slice_get (set xs i y) k ≡ slice_get xs k
get_set_other [] i k y other = refl
get_set_other (x ∷ xs) zero zero y other = absurd (other refl)
get_set_other (x ∷ xs) zero (suc k) y other = refl
get_set_other (x ∷ xs) (suc i) zero y other = refl
get_set_other (x ∷ xs) (suc i) (suc k) y other = get_set_other xs i k y (λ e. other (ap suc e))

-- ---- one board

same_of : {A : Type 0} (o : Option A) (p q : A) → o ≡ Some p → o ≡ Some q → p ≡ q
same_of o p q e f = same_Some p q (sym e ∙ f)

pub one_board : (bs : List Device) (i : ℕ) (a b : Device) → i < length bs → slice_get bs i ≡ Some a → Endures (beneath_of a) (beneath_of b) → OneBoard i bs (set bs i b)
one_board bs i a b known here kept =
    let all : (k : ℕ) (p q : Device) → slice_get bs k ≡ Some p → slice_get (set bs i b) k ≡ Some q → Endures (beneath_of p) (beneath_of q) =
    λ k p q old new.
    ⊎_elim
    (λ is.
    let ep : p ≡ a = same_of (slice_get bs i) p a (sym (ap (slice_get bs) is) ∙ old) here in
    let eq : q ≡ b = same_of (slice_get (set bs i b) i) q b (sym (ap (slice_get (set bs i b)) is) ∙ new) (get_set_same bs i b known) in
    subst (λ (d : Device). Endures (beneath_of p) (beneath_of d)) (sym eq) (subst (λ (d : Device). Endures (beneath_of d) (beneath_of b)) (sym ep) kept))
    (λ other.
    let e : p ≡ q = same_of (slice_get bs k) p q old (sym (get_set_other bs i k b other) ∙ new) in
    subst (λ (d : Device). Endures (beneath_of p) (beneath_of d)) e (Endures-same (beneath_of p)))
    (is_or k i)
    in
    record {
      count = length-set bs i b;
      others = λ k other. get_set_other bs i k b other;
      counts = λ k p q old new. (all k p q old new).faults;
      endures = all;
    }

-- where that board goes on, all do
pub calm_board : (bs : List Device) (i : ℕ) (a b : Device) → i < length bs → slice_get bs i ≡ Some a → IsSteady a b → AreSteady bs (set bs i b)
calm_board bs i a b known here kept = λ k p q old new.
    ⊎_elim
    (λ is.
    let ep : p ≡ a = same_of (slice_get bs i) p a (sym (ap (slice_get bs) is) ∙ old) here in
    let eq : q ≡ b = same_of (slice_get (set bs i b) i) q b (sym (ap (slice_get (set bs i b)) is) ∙ new) (get_set_same bs i b known) in
    subst (λ (d : Device). IsSteady p d) (sym eq) (subst (λ (d : Device). IsSteady d b) (sym ep) kept))
    (λ other. subst (λ (d : Device). IsSteady p d) (same_of (slice_get bs k) p q old (sym (get_set_other bs i k b other) ∙ new)) (steady_same p))
    (is_or k i)

-- what was made on that board
made_board : (bs : List Device) (i n : ℕ) (a b : Device) → i < length bs → slice_get bs i ≡ Some a → MadeMore n a.made b.made → MadeOn i n bs (set bs i b)
made_board bs i n a b known here made = λ p q old new.
    let ep : p ≡ a = same_of (slice_get bs i) p a old here in
    let eq : q ≡ b = same_of (slice_get (set bs i b) i) q b new (get_set_same bs i b known) in
    subst (λ (d : Device). MadeMore n p.made d.made) (sym eq) (subst (λ (d : Device). MadeMore n d.made b.made) (sym ep) made)

-- ---- the world afterwards

-- the code's world after a step
pub record Moves (v u : World) (i : ℕ) (moment : ℕ) (runs : Option Node) (frame : Option (List ℕ)) : Type 0 where
  pub moment_then : u.moment ≡ moment
  pub events : u.events ≡ v.events + 1
  pub images : u.shared.images ≡ v.shared.images
  pub links : u.shared.links ≡ v.shared.links
  pub narrow : u.shared.narrow ≡ v.shared.narrow
  pub sends : (before : List Sent) → Carries v.shared.air before → Carries u.shared.air (before ++ sent_now i frame)
  pub motes : u.motes.items ≡ set v.motes.items i runs

-- which boards are known afterwards: that of the step may be, if it is orderly, and the others are if they were
pub record KnownKeeps (v u : World) (i : ℕ) (b : Device) : Type 0 where
  pub others : (k : ℕ) → k ≢ i → known_of u k ≡ known_of v k
  pub here : known_of u i ≡ true → IsOrderlyChip b.image

module _ (v u : World) (bs : List Device) (w : RuleWorld) (x : Step) (reported : Bool) (i : ℕ) (runs : Option Node) (frame : Option (List ℕ)) (b : Device) (start end : List Report) (is : IsWorld v bs w) (at : i ≡ mote_of x.event) (known : i < length w.sites) (moves : Moves v u i (w.moment + dt_of x.event) runs frame) (keeps : KnownKeeps v u i b) (s : StepDone w x reported frame start (board_state b runs end)) where
  sites_are : s.world.sites ≡ set w.sites i s.here
  sites_are = s.sites ∙ ap (λ (j : ℕ). set w.sites j s.here) (sym at)

  sites_count : length s.world.sites ≡ length w.sites
  sites_count = ap length sites_are ∙ length-set w.sites i s.here

  site_then : (k : ℕ) (d : Device) → k < length s.world.sites → slice_get (set bs i b) k ≡ Some d → SiteStands d (slice_index_or u.motes.items k None) (site s.world k)
  site_then k d within here =
      let wide : i < length bs = omega (arith, known, is.boards_enough) in
      let many : i < length v.motes.items = omega (arith, known, is.motes) in
      let P : Device → Option Node → Site → Type 0 = λ e o y. SiteStands e o y in
      ⊎_elim
      (λ same.
      let ed : d ≡ b = same_of (slice_get (set bs i b) i) d b (sym (ap (slice_get (set bs i b)) same) ∙ here) (get_set_same bs i b wide) in
      let eo : slice_index_or u.motes.items k None ≡ runs = ap (λ (xs : List (Option Node)). get_or xs k None) moves.motes ∙ ap (λ (j : ℕ). get_or (set v.motes.items i runs) j None) same ∙ get_or-set_same v.motes.items i runs None many in
      let ey : site s.world k ≡ s.here = ap (λ (xs : List Site). get_or xs k no_site) sites_are ∙ ap (λ (j : ℕ). get_or (set w.sites i s.here) j no_site) same ∙ get_or-set_same w.sites i s.here no_site known in
      let here_stands : SiteStands b runs s.here = record { stands = s.stands; mote = s.mote } in
      subst (λ (e : Device). P e (slice_index_or u.motes.items k None) (site s.world k)) (sym ed)
      (subst (λ (o : Option Node). P b o (site s.world k)) (sym eo) (subst (P b runs) (sym ey) here_stands)))
      (λ other.
      let eo : slice_index_or u.motes.items k None ≡ slice_index_or v.motes.items k None = ap (λ (xs : List (Option Node)). get_or xs k None) moves.motes ∙ get_or-set_other v.motes.items i k runs None other in
      let ey : site s.world k ≡ site w k = ap (λ (xs : List Site). get_or xs k no_site) sites_are ∙ get_or-set_other w.sites i k s.here no_site other in
      let before = is.sites k d (omega (arith, within, sites_count)) (sym (get_set_other bs i k b other) ∙ here) in
      subst (λ (o : Option Node). P d o (site s.world k)) (sym eo) (subst (P d (slice_index_or v.motes.items k None)) (sym ey) before))
      (is_or k i)

  orderly_then : (k : ℕ) (d : Device) → k < length s.world.sites → slice_get (set bs i b) k ≡ Some d → known_of u k ≡ true → IsOrderlyChip d.image
  orderly_then k d within here is_known =
      let wide : i < length bs = omega (arith, known, is.boards_enough) in
      ⊎_elim
      (λ same.
      let ed : d ≡ b = same_of (slice_get (set bs i b) i) d b (sym (ap (slice_get (set bs i b)) same) ∙ here) (get_set_same bs i b wide) in
      subst (λ (e : Device). IsOrderlyChip e.image) (sym ed) (keeps.here (sym (ap (λ (j : ℕ). known_of u j) same) ∙ is_known)))
      (λ other. is.orderly k d (omega (arith, within, sites_count)) (sym (get_set_other bs i k b other) ∙ here) (sym (keeps.others k other) ∙ is_known))
      (is_or k i)

  shared_then : IsShared u.shared s.world
  shared_then =
      let P : Images → List Row → Type 0 = λ images rows. Declares images rows in
      let Q : List Sent → Type 0 = λ sent. Carries u.shared.air sent in
      record {
        declared = subst (λ (y : Images). P y s.world.declared) (sym moves.images) (subst (P v.shared.images) (sym s.declared) is.shared.declared);
        links = subst (λ (l : Links). KnowsLinks l.neighbours s.world.links) (sym moves.links) (subst (KnowsLinks v.shared.links.neighbours) (sym s.links) is.shared.links);
        narrow = s.narrow ∙ is.shared.narrow ∙ sym moves.narrow;
        sent = subst Q (ap (λ (j : ℕ). w.sent ++ sent_now j frame) at ∙ sym s.sent) (moves.sends w.sent is.shared.sent);
      }

  pub world_then : v.events < most_events → dt_of x.event < 2 ^ 32 → WorldTimely s.world → IsWorld u (set bs i b) s.world
  world_then few short timely = record {
    moment = moves.moment_then ∙ sym s.moment;
    events = moves.events ∙ ap (λ (n : ℕ). n + 1) is.events ∙ sym s.events;
    shared = shared_then;
    motes = sites_count ∙ is.motes ∙ sym (ap length moves.motes ∙ length-set v.motes.items i runs);
    few_motes = omega (arith, sites_count, is.few_motes);
    boards_enough = omega (arith, sites_count, is.boards_enough, length-set bs i b);
    few_events = omega (arith, s.events, few, is.events);
    early = omega (arith, s.moment, s.events, is.early, short);
    timely = timely;
    sites = site_then;
    orderly = orderly_then;
  }

  pub applied : (a : Device) → v.events < most_events → dt_of x.event < 2 ^ 32 → WorldTimely s.world → slice_get bs i ≡ Some a → Endures (beneath_of a) (beneath_of b) → IsSteady a b → MadeMore (made_in w x) a.made b.made → Applied w x reported (deployed v bs start) (deployed u (set bs i b) end)
  applied a few short timely here endures stays made =
      let wide : i < length bs = omega (arith, known, is.boards_enough) in
      record {
        world = s.world;
        reports = s.reports;
        step = s.step;
        stood = world_then few short timely;
        report_now = s.report_now;
        boards = subst (λ (j : ℕ). OneBoard j bs (set bs i b)) at (one_board bs i a b wide here endures);
        calm = calm_board bs i a b wide here stays;
        made = subst (λ (j : ℕ). MadeOn j (made_in w x) bs (set bs i b)) at (made_board bs i (made_in w x) a b wide here made);
        memory = λ d r e goes whole some there.
            let eb : e ≡ b = same_of (slice_get (set bs i b) i) e b (ap (slice_get (set bs i b)) at ∙ there) (get_set_same bs i b wide) in
            subst (λ (y : Device). program y.image (length r.pages) ≡ r.pages) (sym eb) (s.memory d r goes whole some);
      }

pub flashed : (v : World) (bs : List Device) (w : RuleWorld) (x : Step) (i : ℕ) (a b : Device) → IsWorld v bs w → i ≡ mote_of x.event → i < length w.sites → slice_get bs i ≡ Some a → Endures (beneath_of a) (beneath_of b)
    → IsStopped w (mote_of x.event) (does w x.event) x.cut b → FlashAt w x i bs (set bs i b)
flashed v bs w x i a b is at known here endures s =
    let wide : i < length bs = omega (arith, known, is.boards_enough) in
    record {
      at = at;
      before = a;
      after = b;
      was = here;
      is = get_set_same bs i b wide;
      stopped = s.stopped;
      cause = endures.cause s.stopped;
      done = s.done;
      within = s.within;
      uncut = s.uncut;
      leaves = s.leaves;
      boards = one_board bs i a b wide here endures;
    }

pub lacked : (v : World) (bs : List Device) (w : RuleWorld) (x : Step) (i : ℕ) (a b : Device) → IsWorld v bs w → i ≡ mote_of x.event → i < length w.sites → slice_get bs i ≡ Some a → Endures (beneath_of a) (beneath_of b) → IsSteady a b → MadeMore (made_in w x) a.made b.made
    → StepFoundNoImage (does w x.event) x.cut b.image → RunEnded w x bs (set bs i b)
lacked v bs w x i a b is at known here endures stays made s =
    let wide : i < length bs = omega (arith, known, is.boards_enough) in
    let m = mote_of x.event in
    let then_site : Site = record { store = last s.effect.trail; runs = None } in
    let world = cut_world w m (dt_of x.event) s.effect (last s.effect.trail) in
    let sites : world.sites ≡ set w.sites i then_site = ap (λ (j : ℕ). set w.sites j then_site) (sym at) in
    record {
      world = world;
      ends = record { effect = s.effect; goes = s.goes; whole = s.whole; none = s.none; world = refl };
      stood = λ k d within there.
          ⊎_elim
          (λ same.
          let ed : d ≡ b = same_of (slice_get (set bs i b) i) d b (sym (ap (slice_get (set bs i b)) same) ∙ there) (get_set_same bs i b wide) in
          let ey : store_at world k ≡ last s.effect.trail = ap (λ (xs : List Site). (get_or xs k no_site).store) sites ∙ ap (λ (j : ℕ). (get_or (set w.sites i then_site) j no_site).store) same ∙ ap (λ (y : Site). y.store) (get_or-set_same w.sites i then_site no_site known) in
          let P : Device → Store → Type 0 = λ e t. Stands e.image t in
          subst (λ (e : Device). P e (store_at world k)) (sym ed) (subst (P b) (sym ey) s.stands))
          (λ other.
          let ey : store_at world k ≡ store_at w k = ap (λ (xs : List Site). (get_or xs k no_site).store) sites ∙ ap (λ (y : Site). y.store) (get_or-set_other w.sites i k then_site no_site other) in
          let count : length world.sites ≡ length w.sites = ap length sites ∙ length-set w.sites i then_site in
          let before = is.sites k d (omega (arith, within, count)) (sym (get_set_other bs i k b other) ∙ there) in
          let P : Store → Type 0 = λ t. Stands d.image t in
          subst P (sym ey) before.stands)
          (is_or k i);
      boards = subst (λ (j : ℕ). OneBoard j bs (set bs i b)) at (one_board bs i a b wide here endures);
      calm = calm_board bs i a b wide here stays;
      made = subst (λ (j : ℕ). MadeOn j (made_in w x) bs (set bs i b)) at (made_board bs i (made_in w x) a b wide here made);
    }

pub got_or : {N : Type 0} (f : N → Device) (xs : List N) (i : ℕ) (d : N) → i < length xs → slice_get (map f xs) i ≡ Some (f (get_or xs i d))
got_or f [] i d h = absurd (omega arith)
got_or f (y ∷ ys) zero d h = refl
got_or f (y ∷ ys) (suc i) d h = got_or f ys i d (omega arith)

pub stands_at : (v : World) (bs : List Device) (w : RuleWorld) (i m : ℕ) (a : Device) (runs : Option Node) → IsWorld v bs w → i ≡ m → i < length w.sites → slice_get bs i ≡ Some a → runs ≡ get_or v.motes.items i runs → SiteStands a runs (site w m)
stands_at v bs w i m a runs is at known here read =
    let s = is.sites i a known here in
    let many : i < length v.motes.items = omega (arith, known, is.motes) in
    let same : slice_index_or v.motes.items i None ≡ runs = sym (get_or_read v.motes.items i runs many read None) in
    subst (λ (j : ℕ). SiteStands a runs (site w j)) at (subst (λ (o : Option Node). SiteStands a o (site w i)) same s)

-- its mote may run
may_run : (c : List ℕ) (v : Option Node) (s : Store) (o : Option Running) (moment now : ℕ) → moment ≤ now → MoteStands c v s o → IfSome o (λ r. Timely r.mote moment) → MayRun c now v
may_run c None s o moment now later stands timely = tt
may_run c (Some x) s None moment now later stands timely = absurd stands
may_run c (Some x) s (Some r) moment now later stands timely = (r.mote, s, stands.1, timely_later r.mote moment now later timely)

pub runs_at : (v : World) (bs : List Device) (w : RuleWorld) (i now : ℕ) (a : Device) (runs : Option Node) → IsWorld v bs w → i < length w.sites → slice_get bs i ≡ Some a → runs ≡ get_or v.motes.items i runs → v.moment ≤ now → MayRun a.image now runs
runs_at v bs w i now a runs is known here read later =
    let s = stands_at v bs w i i a runs is refl known here read in
    may_run a.image runs (site w i).store (site w i).runs w.moment now (omega (arith, later, is.moment)) s.mote (is.timely i known)

-- what a step that was begun answers
abbrev pub ApplyEnds : Result (Unit {0}) WorldFault → RuleWorld → Step → (reported : Bool) → (a b : Deployment) → Type 0
ApplyEnds (Ok u) w x reported a b = Applied w x reported a b
ApplyEnds (Err (world_fault.Flash board)) w x reported a b = FlashAt w x board a.boards b.boards × (b.reported ≡ a.reported)
ApplyEnds (Err world_fault.NoImage) w x reported a b = RunEnded w x a.boards b.boards × (b.reported ≡ a.reported)
ApplyEnds (Err world_fault.NotAVolume) w x reported a b = ⊥
ApplyEnds (Err world_fault.Memory) w x reported a b = ⊥
ApplyEnds (Err world_fault.TooMany) w x reported a b = ⊥

pub halts_at : (h : Halt) (f : WorldFault) (v u : World) (bs : List Device) (w : RuleWorld) (x : Step) (reported : Bool) (was runs : Option Node) (i mote : ℕ) (a b : Device) (start end : List Report) → f ≡ fault_of h mote → i ≡ mote → IsWorld v bs w → i ≡ mote_of x.event → i < length w.sites
    → slice_get bs i ≡ Some a → Stepped (Err h) w x reported (board_state a was start) (board_state b runs end) → ApplyEnds (Err f) w x reported (deployed v bs start) (deployed u (set bs i b) end)
halts_at (Stopped k) f v u bs w x reported was runs i mote a b start end is_fault same is at known here s =
    let P : WorldFault → Type 0 = λ y. ApplyEnds (Err y) w x reported (deployed v bs start) (deployed u (set bs i b) end) in
    subst P (sym is_fault) (subst (λ (j : ℕ). FlashAt w x j bs (set bs i b)) same (flashed v bs w x i a b is at known here s.endures s.ends.0), s.ends.1)
halts_at NotAVolume f v u bs w x reported was runs i mote a b start end is_fault same is at known here s = absurd s.ends
halts_at NoImage f v u bs w x reported was runs i mote a b start end is_fault same is at known here s =
    let P : WorldFault → Type 0 = λ y. ApplyEnds (Err y) w x reported (deployed v bs start) (deployed u (set bs i b) end) in
    subst P (sym is_fault) (lacked v bs w x i a b is at known here s.endures s.count s.made s.ends.0, s.ends.1)

-- the same over boards that are given by an equation
pub applied_at : (v u : World) (bs cs : List Device) (w : RuleWorld) (x : Step) (reported : Bool) (i : ℕ) (was runs : Option Node) (frame : Option (List ℕ)) (a b : Device) (start end : List Report) → cs ≡ set bs i b → IsWorld v bs w → i ≡ mote_of x.event → i < length w.sites → v.events < most_events → dt_of x.event < 2 ^ 32
    → Moves v u i (w.moment + dt_of x.event) runs frame → KnownKeeps v u i b → slice_get bs i ≡ Some a → (s : Stepped (Ok frame) w x reported (board_state a was start) (board_state b runs end)) → ((z : RuleWorld) (reports : List Report) → WorldStep w x z reports → WorldTimely z) → Applied w x reported (deployed v bs start) (deployed u cs end)
applied_at v u bs cs w x reported i was runs frame a b start end e is at known few short moves keeps here s timely =
    subst (λ (ds : List Device). Applied w x reported (deployed v bs start) (deployed u ds end)) (sym e)
    (applied v u bs w x reported i runs frame b start end is at known moves keeps s.ends a few short (timely s.ends.world s.ends.reports s.ends.step) here s.endures s.count s.made)

pub halts_there : (h : Halt) (f : WorldFault) (v u : World) (bs cs : List Device) (w : RuleWorld) (x : Step) (reported : Bool) (was runs : Option Node) (i mote : ℕ) (a b : Device) (start end : List Report) → cs ≡ set bs i b → f ≡ fault_of h mote → i ≡ mote → IsWorld v bs w → i ≡ mote_of x.event → i < length w.sites
    → slice_get bs i ≡ Some a → Stepped (Err h) w x reported (board_state a was start) (board_state b runs end) → ApplyEnds (Err f) w x reported (deployed v bs start) (deployed u cs end)
halts_there h f v u bs cs w x reported was runs i mote a b start end e is_fault same is at known here s =
    subst (λ (ds : List Device). ApplyEnds (Err f) w x reported (deployed v bs start) (deployed u ds end)) (sym e) (halts_at h f v u bs w x reported was runs i mote a b start end is_fault same is at known here s)

pub sent_at : (m i : ℕ) (frame : Option (List ℕ)) (before : List Sent) (air : Air) → i ≡ m → Carries air (before ++ sent_now m frame) → Carries air (before ++ sent_now i frame)
sent_at m i frame before air same carries = subst (λ (j : ℕ). Carries air (before ++ sent_now j frame)) (sym same) carries

-- capacity for a frame changes nothing
pub reserved : (v : World) (air : Air) (bs : List Device) (w : RuleWorld) → ((sent : List Sent) → Carries v.shared.air sent → Carries air sent) → IsWorld v bs w → IsWorld (record v { shared = record v.shared { air = air } }) bs w
reserved v air bs w same is = record {
  moment = is.moment;
  events = is.events;
  shared = record { declared = is.shared.declared; links = is.shared.links; narrow = is.shared.narrow; sent = same w.sent is.shared.sent };
  motes = is.motes;
  few_motes = is.few_motes;
  boards_enough = is.boards_enough;
  few_events = is.few_events;
  early = is.early;
  timely = is.timely;
  sites = is.sites;
  orderly = is.orderly;
}

-- ---- which boards are known

pub chip_at : (v : World) (bs : List Device) (w : RuleWorld) (i m : ℕ) (a : Device) → IsWorld v bs w → i ≡ m → i < length w.sites → slice_get bs i ≡ Some a → known_of v m ≡ true → IsKnownChip a.image
chip_at v bs w i m a is same within here is_known =
    record { volume = ((site w i).store, (is.sites i a within here).stands); orderly = is.orderly i a within here (ap (λ (j : ℕ). known_of v j) same ∙ is_known) }

pub knows_at : (v u : World) (bs cs : List Device) (w : RuleWorld) (e : Event) (i : ℕ) (b : Device) → cs ≡ set bs i b → IsWorld v bs w → i ≡ mote_of e → i < length w.sites → ((k : ℕ) → k ≢ i → known_of u k ≡ known_of v k)
    → (known_of u i ≡ true) ↔ (IsOrderlyChip b.image × ((known_of v i ≡ true) ⊎ MakesKnown w e)) → KnowsThen w e v u cs
knows_at v u bs cs w e i b all is at within others now =
    let wide : i < length bs = omega (arith, within, is.boards_enough) in
    record {
      exactly = λ k d inside there.
          let here : slice_get (set bs i b) k ≡ Some d = sym (ap (λ (ds : List Device). slice_get ds k) all) ∙ there in
          ⊎_elim
          (λ same.
          let ed : d ≡ b = same_of (slice_get (set bs i b) i) d b (sym (ap (slice_get (set bs i b)) same) ∙ here) (get_set_same bs i b wide) in
          let there_is : mote_of e ≡ k = sym at ∙ sym same in (
            λ is_known.
                let x = now.0 (sym (ap (λ (j : ℕ). known_of u j) same) ∙ is_known) in (
                  subst (λ (f : Device). IsOrderlyChip f.image) (sym ed) x.0,
                  ⊎_elim (λ was. inl (ap (λ (j : ℕ). known_of v j) same ∙ was)) (λ made. inr (there_is, made)) x.1,
                ),
            λ x.
                ap (λ (j : ℕ). known_of u j) same
                ∙ now.1 (
                  subst (λ (f : Device). IsOrderlyChip f.image) ed x.0,
                  ⊎_elim (λ was. inl (sym (ap (λ (j : ℕ). known_of v j) same) ∙ was)) (λ made. inr made.1) x.1,
                ),
          ))
          (λ other. (
            λ is_known. let was = sym (others k other) ∙ is_known in (is.orderly k d inside (sym (get_set_other bs i k b other) ∙ here) was, inl was),
            λ x. ⊎_elim (λ was. others k other ∙ was) (λ made. absurd (other (sym made.0 ∙ sym at))) x.1,
          ))
          (is_or k i);
    }

-- what holds of the device of a step holds of the board there
pub said_at : (P : Device → Device → Type 0) (bs cs : List Device) (i m : ℕ) (a b p q : Device) → cs ≡ set bs i b → i < length bs → slice_get bs i ≡ Some a → i ≡ m → slice_get bs m ≡ Some p → slice_get cs m ≡ Some q → P a b → P p q
said_at P bs cs i m a b p q all wide here same old new said =
    let ep : p ≡ a = same_of (slice_get bs i) p a (ap (slice_get bs) same ∙ old) here in
    let eq : q ≡ b = same_of (slice_get (set bs i b) i) q b (ap (slice_get (set bs i b)) same ∙ sym (ap (λ (ds : List Device). slice_get ds m) all) ∙ new) (get_set_same bs i b wide) in
    subst (λ (d : Device). P p d) (sym eq) (subst (λ (d : Device). P d b) (sym ep) said)

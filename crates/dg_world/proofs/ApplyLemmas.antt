-- What a step answers if it is not begun, and if it is.
use Rattle.std.proofs.Common.{◌≡◌, ℕ, ◌<◌, ◌≤◌, Bool, true, List, length, refl, subst, ⊎_elim, arith}
use Rattle.std.specs.Prelude.{Result, Some, Ok, Err, OnOk, OnErr, slice_get}
use Rattle.dg_nor.specs.Device.{Device}
use Rattle.dg_object.specs.Object.{Row}
use Rattle.dg_base.specs.declared.events.Step.{Step}
use Rattle.dg_script.specs.declared.report.Report.{Report}
use Rattle.dg_rules.specs.Sizes.{most_events}
use Rattle.dg_rules.specs.World.{World as RuleWorld, Sent}
use Rattle.dg_rules.specs.Events.{does, mote_of}
use Rattle.dg_rules.specs.Steps.{WorldStep}
use Rattle.dg_script.specs.Ranges.{StepInRange, EventInRange}
use Rattle.dg_rules.specs.Consistency.{WorldConsistent, StopsConsistent}
use Rattle.dg_shared.specs.Airs.{Carries}
use Rattle.dg_world.specs.Deployments.{Deployment}
use Rattle.dg_world.specs.Applied.{Applied, FlashAt}
use Rattle.dg_world.specs.Applying.{IsOf, ApplyDone}
use Rattle.dg_world.specs.Known.{known_of, OrderTakes, InjectTakes}
use Rattle.dg_world.specs.Knows.{KnowsThen}
use Rattle.dg_shared.specs.Unseen.{RefusesUnseen}
use Rattle.dg_shared.specs.declared.air.Air.{Air}
use Rattle.dg_world.specs.declared.world.WorldFault.{WorldFault}
use Rattle.dg_world.specs.declared.world.WorldFault.TheVariants.{Memory, Flash, TooMany, NotAVolume, NoImage}
use Rattle.dg_world.proofs.KnownLemmas.{same_takes}
use Rattle.dg_world.proofs.PlaceLemmas.{ApplyEnds, reserved}
use Rattle.dg_world.proofs.SoundLemmas.{same_count, applied_consistent, flash_consistent}

-- equal errors hold equal faults
other : {A : Type 0} (e f : WorldFault) → ◌≡◌ {A = Result (Unit {0}) WorldFault} (Err e) (Err f) → (e ≡ f → A) → A
other e f same go = go (let g : e ≡ f = cc in g)

-- What a step that was begun made of a, which is b afterwards. There is room for all that it needs, so that it is refused
-- neither for lack of memory nor for lack of events.
pub record ApplyMade (r : Result (Unit {0}) WorldFault) (x : Step) (reported : Bool) (a b : Deployment) : Type 0 where
  pub ends : (w : RuleWorld) → IsOf a w → StepInRange (length w.sites) x → ApplyEnds r w x reported a b
  pub known : OnOk r ((w : RuleWorld) → IsOf a w → StepInRange (length w.sites) x → KnowsThen w x.event a.world b.world b.boards)
  pub order_reads : (w : RuleWorld) (m : ℕ) (old new : Device) → IsOf a w → m ≡ mote_of x.event → known_of a.world m ≡ true
      → slice_get a.boards m ≡ Some old → slice_get b.boards m ≡ Some new → OrderTakes x.event old new
  pub inject_reads : OnOk r ((w : RuleWorld) (m : ℕ) (old new : Device) → IsOf a w → m ≡ mote_of x.event
      → known_of a.world m ≡ true → slice_get a.boards m ≡ Some old → slice_get b.boards m ≡ Some new
      → InjectTakes w x.event old new)
  pub unseen : (w : RuleWorld) → IsOf a w → StepInRange (length w.sites) x → RefusesUnseen (does w x.event)
      → (b.boards ≡ a.boards) × OnErr r ⊥

-- A world that has applied all its events applies no more.
pub full_done : (x : Step) (reported : Bool) (a : Deployment) → most_events ≤ a.world.events → ApplyDone (Err TooMany) x reported a a
full_done x reported a most =
    record {
      applied = tt;
      too_many = λ e w is. omega (arith, most, is.events, is.few_events);
      full = λ w is e. refl;
      unchanged = λ e. (λ w is. is, refl);
      known_kept = λ e m. refl;
      unreported = refl;
      flash = λ board e. absurd (other TooMany (Flash board) e (λ f. cc));
      no_image = λ e. absurd (other TooMany NoImage e (λ f. cc));
      a_volume = λ e. other TooMany NotAVolume e (λ f. cc);
      known = tt;
      order_reads = λ w m old new is here known first last. same_takes x.event old new _ first last;
      inject_reads = tt;
      unseen = λ w is unseen. (refl, λ board e. other TooMany (Flash board) e (λ f. cc));
      consistent = tt;
      stops_consistent = λ golden board e. absurd (other TooMany (Flash board) e (λ f. cc));
    }

-- Out of memory: nothing is done.
pub lacking_done : (x : Step) (reported : Bool) (a b : Deployment) → a.world.events < most_events → b.boards ≡ a.boards → b.reported ≡ a.reported → ((w : RuleWorld) → IsOf a w → IsOf b w)
    → ((m : ℕ) → known_of b.world m ≡ known_of a.world m) → ApplyDone (Err Memory) x reported a b
lacking_done x reported a b few boards told kept known =
    record {
      applied = tt;
      too_many = λ e. absurd (other Memory TooMany e (λ f. cc));
      full = λ w is e. absurd (omega (arith, few, is.events, e));
      unchanged = λ e. (kept, boards);
      known_kept = λ e. known;
      unreported = told;
      flash = λ board e. absurd (other Memory (Flash board) e (λ f. cc));
      no_image = λ e. absurd (other Memory NoImage e (λ f. cc));
      a_volume = λ e. other Memory NotAVolume e (λ f. cc);
      known = tt;
      order_reads = λ w m old new is here known first last. same_takes x.event old new _ first (rw (← boards) last);
      inject_reads = tt;
      unseen = λ w is unseen. (boards, λ board e. other Memory (Flash board) e (λ f. cc));
      consistent = tt;
      stops_consistent = λ golden board e. absurd (other Memory (Flash board) e (λ f. cc));
    }

-- A step that was begun does what its event and its board specify.
module _ (x : Step) (reported : Bool) (a b : Deployment) (air : Air) (z : RuleWorld) (is : IsOf a z) (fits : StepInRange (length z.sites) x) (few : a.world.events < most_events)
    (carries : (sent : List Sent) → Carries a.world.shared.air sent → Carries air sent)
    (stepped : (golden : Row) (y v : RuleWorld) (reports : List Report) → WorldConsistent golden y → StepInRange (length y.sites) x → WorldStep y x v reports → WorldConsistent golden v)
    (stopped : (golden : Row) (y : RuleWorld) → WorldConsistent golden y → EventInRange (length y.sites) x.event → StopsConsistent golden y x.event) where
  -- with capacity for a frame
  abbrev Roomy : Deployment
  Roomy = record a { world = record a.world { shared = record a.world.shared { air = air } } }

  roomy : (w : RuleWorld) → IsOf a w → IsOf Roomy w
  roomy w at = reserved a.world air a.boards w carries at

  fits_in : (w : RuleWorld) → IsOf a w → StepInRange (length w.sites) x
  fits_in w at = subst (λ (n : ℕ). StepInRange n x) (same_count a.world a.boards z w is at) fits

  not_full : (w : RuleWorld) → IsOf a w → w.events ≡ most_events → ⊥
  not_full w at full = omega (arith, few, at.events, full)

  was_applied : ApplyMade (Ok tt) x reported Roomy b → ApplyDone (Ok tt) x reported a b
  was_applied m =
      record {
        applied = λ w at. given w (m.ends w (roomy w at) (fits_in w at));
        too_many = λ e. absurd (no_fault TooMany e);
        full = λ w at full. absurd (not_full w at full);
        unchanged = λ e. absurd (⊎_elim (λ y. no_fault TooMany y) (λ y. no_fault Memory y) e);
        known_kept = λ e. absurd (⊎_elim (λ y. no_fault TooMany y) (λ y. no_fault Memory y) e);
        unreported = tt;
        flash = λ board e. absurd (no_fault (Flash board) e);
        no_image = λ e. absurd (no_fault NoImage e);
        a_volume = λ e. no_fault NotAVolume e;
        known = λ w at. record { exactly = (m.known w (roomy w at) (fits_in w at)).exactly };
        order_reads = λ w k old new at. m.order_reads w k old new (roomy w at);
        inject_reads = λ w k old new at. m.inject_reads w k old new (roomy w at);
        unseen = λ w at unseen. ((m.unseen w (roomy w at) (fits_in w at) unseen).0, λ board e. no_fault (Flash board) e);
        consistent = λ golden here.
            applied_consistent golden a b z x reported is fits here (stepped golden) (given here.world (m.ends here.world (roomy here.world here.stands) (fits_in here.world here.stands)));
        stops_consistent = λ golden board e. absurd (no_fault (Flash board) e);
      }
    where
      no_fault : (f : WorldFault) → ◌≡◌ {A = Result (Unit {0}) WorldFault} (Ok tt) (Err f) → ⊥
      no_fault f e = cc

      given : (w : RuleWorld) → Applied w x reported Roomy b → Applied w x reported a b
      given w y = record { world = y.world; reports = y.reports; step = y.step; stood = y.stood; report_now = y.report_now; boards = y.boards; calm = y.calm; made = y.made; memory = y.memory }

  was_stopped : (n : ℕ) → ApplyMade (Err (Flash n)) x reported Roomy b → ApplyDone (Err (Flash n)) x reported a b
  was_stopped n m =
      record {
        applied = tt;
        too_many = λ e. absurd (other (Flash n) TooMany e (λ f. cc));
        full = λ w at full. absurd (not_full w at full);
        unchanged = λ e. absurd (⊎_elim (λ y. other (Flash n) TooMany y (λ f. cc)) (λ y. other (Flash n) Memory y (λ f. cc)) e);
        known_kept = λ e. absurd (⊎_elim (λ y. other (Flash n) TooMany y (λ f. cc)) (λ y. other (Flash n) Memory y (λ f. cc)) e);
        unreported = (m.ends z (roomy z is) fits).1;
        flash = flash_at;
        no_image = λ e. absurd (other (Flash n) NoImage e (λ f. cc));
        a_volume = λ e. other (Flash n) NotAVolume e (λ f. cc);
        known = tt;
        order_reads = λ w k old new at. m.order_reads w k old new (roomy w at);
        inject_reads = tt;
        unseen = λ w at unseen. let y = m.unseen w (roomy w at) (fits_in w at) unseen in (y.0, λ board e. y.1);
        consistent = tt;
        stops_consistent = λ golden board e here. flash_consistent golden a.world a.boards b.boards z x board is fits here (stopped golden) (flash_at board e here.world here.stands);
      }
    where
      flash_at : (board : ℕ) → ◌≡◌ {A = Result (Unit {0}) WorldFault} (Err (Flash n)) (Err (Flash board)) → (w : RuleWorld) → IsOf a w → FlashAt w x board a.boards b.boards
      flash_at board e w at = let same : n ≡ board = cc in subst (λ (k : ℕ). FlashAt w x k a.boards b.boards) same (m.ends w (roomy w at) (fits_in w at)).0

  had_no_image : ApplyMade (Err NoImage) x reported Roomy b → ApplyDone (Err NoImage) x reported a b
  had_no_image m =
      record {
        applied = tt;
        too_many = λ e. absurd (other NoImage TooMany e (λ f. cc));
        full = λ w at full. absurd (not_full w at full);
        unchanged = λ e. absurd (⊎_elim (λ y. other NoImage TooMany y (λ f. cc)) (λ y. other NoImage Memory y (λ f. cc)) e);
        known_kept = λ e. absurd (⊎_elim (λ y. other NoImage TooMany y (λ f. cc)) (λ y. other NoImage Memory y (λ f. cc)) e);
        unreported = (m.ends z (roomy z is) fits).1;
        flash = λ board e. absurd (other NoImage (Flash board) e (λ f. cc));
        no_image = λ e w at. (m.ends w (roomy w at) (fits_in w at)).0;
        a_volume = λ e. other NoImage NotAVolume e (λ f. cc);
        known = tt;
        order_reads = λ w k old new at. m.order_reads w k old new (roomy w at);
        inject_reads = tt;
        unseen = λ w at unseen. ((m.unseen w (roomy w at) (fits_in w at) unseen).0, λ board e. other NoImage (Flash board) e (λ f. cc));
        consistent = tt;
        stops_consistent = λ golden board e. absurd (other NoImage (Flash board) e (λ f. cc));
      }

  pub made_done : (r : Result (Unit {0}) WorldFault) → ApplyMade r x reported Roomy b → ApplyDone r x reported a b
  made_done (Ok u) m = was_applied m
  made_done (Err (Flash n)) m = was_stopped n m
  made_done (Err NoImage) m = had_no_image m
  made_done (Err NotAVolume) m = absurd (m.ends z (roomy z is) fits)
  made_done (Err Memory) m = absurd (m.ends z (roomy z is) fits)
  made_done (Err TooMany) m = absurd (m.ends z (roomy z is) fits)

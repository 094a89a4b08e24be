-- What an event makes of the course of a rehearsal.
use Rattle.std.proofs.Common.{◌≡◌, ℕ, zero, suc, ◌+◌, ◌-◌, ◌*◌, ◌^◌, ◌≤◌, ◌<◌, min, cond, Bool, true, false, List, [], ◌∷◌, ◌++◌, length, Option, Some, None, refl, sym, ap, subst, ◌∙◌, arith}
use Rattle.std.specs.Prelude.{nat_le, nat_lt, is_some, ◌&&◌}
use Rattle.std.specs.List.{filter}
use Rattle.dg_base.specs.declared.events.Cut.{Cut}
use Rattle.dg_base.specs.declared.events.Event.{Event}
use Rattle.dg_base.specs.declared.events.Event.TheVariants.{Hear, Reset, Inject, Order}
use Rattle.dg_base.specs.declared.events.Step.{Step}
use Rattle.dg_nor.specs.Device.{Device}
use Rattle.dg_nor.specs.Trail.{operations}
use Rattle.dg_netcfg.specs.declared.profile.NetProfile.{NetProfile}
use Rattle.dg_volume.specs.Store.{Store}
use Rattle.dg_script.specs.Places.{is_linked}
use Rattle.dg_script.specs.declared.line.Line.TheVariants.{Cut as CutLine, Happens}
use Rattle.dg_script.specs.declared.report.Report.{Report}
use Rattle.dg_script.specs.declared.report.Report.TheVariants.{Off}
use Rattle.dg_rules.specs.Changes.{changes, is_reported}
use Rattle.dg_rules.specs.Events.{EventEffect, Does, Refuses, Goes, does, mote_of, dt_of}
use Rattle.dg_rules.specs.Sizes.{most_events}
use Rattle.dg_rules.specs.Steps.{WorldStep, StepDoes, Ended, blows, done_world, done_reports, cut_world}
use Rattle.dg_rules.specs.World.{World, store_at}
use Rattle.dg_world.specs.Alone.{uncut}
use Rattle.dg_world.specs.Applied.{Applied}
use Rattle.dg_world.specs.Applying.{step_of}
use Rattle.dg_world.specs.Deployments.{deployed}
use Rattle.dg_world.specs.Due.{due_at}
use Rattle.dg_world.specs.Worlds.{IsWorld}
use Rattle.dg_world.specs.declared.world.World.{World as KeptWorld}
use Rattle.dg_rehearse.specs.Courses.{Agenda, Course, Scene, StepOutcome, IsCourse, IsStagedWorld, IsStepMade, Moves, and_step, event_course, cut_course, cut_outcome, drawn_course, drawn_word, noted_event, past_draw, started_runs, whole_outcome}
use Rattle.dg_rehearse.specs.Rehearsed.{Staging, base_chip, rehearsed_lines, written, written_lines}
use Rattle.dg_rehearse.specs.declared.plan.Plan.{Plan}
use Rattle.dg_rehearse.proofs.WrittenLemmas.{event_written, cut_written}
use Rattle.dg_rehearse.proofs.PlayLemmas.{moment_next}
use Rattle.dg_rehearse.proofs.StepLemmas.{Next, step_next}

-- ---- the outcome of a step

whole_did : (d : Does) (w : World) (e : Event) (v : World) (r : List Report) → StepDoes d w (uncut e) v r → (v ≡ (whole_outcome d w e).world) × (r ≡ (whole_outcome d w e).reports)
whole_did (Refuses why) w e v r step = step
whole_did (Goes d) w e v r (runs, found, world, told) = (world ∙ ap (λ o. done_world w (mote_of e) (dt_of e) d (started_runs o)) (sym found), told)

pub whole_made : (w : World) (e : Event) (v : World) (r : List Report) → WorldStep w (uncut e) v r → (v ≡ (whole_outcome (does w e) w e).world) × (r ≡ (whole_outcome (does w e) w e).reports)
unfolding WorldStep
whole_made w e v r step = whole_did (does w e) w e v r step

abbrev cut_short : World → Event → EventEffect → Store → StepOutcome
cut_short w e d left = record { world = cut_world w (mote_of e) (dt_of e) d left; reports = changes (mote_of e) (store_at w (mote_of e)) left ++ Off (mote_of e) ∷ [] }

cut_by : (fires : Bool) (d : EventEffect) (w : World) (e : Event) (cut : Cut) (v : World) (r : List Report) → Ended fires w (step_of e (Some cut)) d v r
    → (left : Store) × ((v ≡ (cond fires (cut_short w e d left) (whole_outcome (Goes d) w e)).world) × (r ≡ (cond fires (cut_short w e d left) (whole_outcome (Goes d) w e)).reports))
cut_by true d w e cut v r c = (c.store, (c.world, c.report))
cut_by false d w e cut v r (runs, found, world, told) = (base_chip, (world ∙ ap (λ o. done_world w (mote_of e) (dt_of e) d (started_runs o)) (sym found), told))

cut_did : (d : Does) (w : World) (e : Event) (cut : Cut) (v : World) (r : List Report) → StepDoes d w (step_of e (Some cut)) v r → (left : Store) × ((v ≡ (cut_outcome d w e cut left).world) × (r ≡ (cut_outcome d w e cut left).reports))
cut_did (Refuses why) w e cut v r step = (base_chip, step)
cut_did (Goes d) w e cut v r step = cut_by (nat_le cut.after (operations d.trail)) d w e cut v r step

pub cut_made : (w : World) (e : Event) (cut : Cut) (v : World) (r : List Report) → WorldStep w (step_of e (Some cut)) v r → (left : Store) × ((v ≡ (cut_outcome (does w e) w e cut left).world) × (r ≡ (cut_outcome (does w e) w e cut left).reports))
unfolding WorldStep
cut_made w e cut v r step = cut_did (does w e) w e cut v r step

-- ---- a step in the code

abbrev pub At : KeptWorld → List Device → List ℕ → ℕ → Staging
At kept boards script moment = record { kept = kept; boards = boards; script = script; moment = moment }

-- a step was applied, and its lines were written
made : (n : NetProfile) (p : Plan) (x : Step) (kept kept2 : KeptWorld) (boards boards2 : List Device) (script script2 : List ℕ) (moment moment2 : ℕ) (r r2 : List Report) (w : World) (o : StepOutcome) → IsStagedWorld n (At kept boards script moment) w
    → (a : Applied w x false (deployed kept boards r) (deployed kept2 boards2 r2)) → r ≡ [] → (a.world ≡ o.world) × (a.reports ≡ o.reports)
    → ((steps : List Step) → script ≡ written_lines (rehearsed_lines n p steps) → script2 ≡ written_lines (rehearsed_lines n p (steps ++ x ∷ []))) → moment2 ≡ min (moment + dt_of x.event) (2 ^ 64 - 1)
    → IsStepMade n p x (At kept boards script moment) (At kept2 boards2 script2 moment2) r2 o
made n p x kept kept2 boards boards2 script script2 moment moment2 r r2 w o at a none same wrote later =
    let next : Next w x a.world = step_next w x a.world a.reports a.step in
    record {
      is = subst (λ (v : World). IsWorld kept2 boards2 v) same.0 a.stood;
      moment = moment_next w.moment (dt_of x.event) a.world.moment a.world.events moment2 (later ∙ ap (λ (k : ℕ). min (k + dt_of x.event) (2 ^ 64 - 1)) at.moment) next.moment a.stood.early a.stood.few_events ∙ ap (λ (v : World). v.moment) same.0;
      count = ap (λ (v : World). length v.sites) (sym same.0) ∙ next.count ∙ at.count;
      lines = a.report_now ∙ ap (λ (l : List Report). l ++ filter (is_reported false) a.reports) none ∙ ap (λ (l : List Report). filter (is_reported false) l) same.1;
      spelled = wrote;
    }

pub event_step : (n : NetProfile) (p : Plan) (e : Event) (kept kept2 : KeptWorld) (boards boards2 : List Device) (script script2 : List ℕ) (moment moment2 : ℕ) (r r2 : List Report)
    → ((w : World) → IsWorld kept boards w → Applied w (uncut e) false (deployed kept boards r) (deployed kept2 boards2 r2)) → r ≡ []
    → script2 ≡ script ++ written (Happens e) → moment2 ≡ min (moment + dt_of e) (2 ^ 64 - 1)
    → (w : World) → IsStagedWorld n (At kept boards script moment) w → IsStepMade n p (uncut e) (At kept boards script moment) (At kept2 boards2 script2 moment2) r2 (whole_outcome (does w e) w e)
event_step n p e kept kept2 boards boards2 script script2 moment moment2 r r2 applied none wrote later w at =
    let a = applied w at.is in
    made n p (uncut e) kept kept2 boards boards2 script script2 moment moment2 r r2 w (whole_outcome (does w e) w e) at a none (whole_made w e a.world a.reports a.step)
    (λ steps is. event_written n p steps e script script2 is wrote) later

pub cut_step : (n : NetProfile) (p : Plan) (cut : Cut) (e : Event) (kept kept2 : KeptWorld) (boards boards2 : List Device) (script between script2 : List ℕ) (moment moment2 : ℕ) (r r2 : List Report)
    → ((w : World) → IsWorld kept boards w → Applied w (step_of e (Some cut)) false (deployed kept boards r) (deployed kept2 boards2 r2)) → r ≡ []
    → between ≡ script ++ written (CutLine cut) → script2 ≡ between ++ written (Happens e) → moment2 ≡ min (moment + dt_of e) (2 ^ 64 - 1)
    → (w : World) → IsStagedWorld n (At kept boards script moment) w → (left : Store) × IsStepMade n p (step_of e (Some cut)) (At kept boards script moment) (At kept2 boards2 script2 moment2) r2 (cut_outcome (does w e) w e cut left)
cut_step n p cut e kept kept2 boards boards2 script between script2 moment moment2 r r2 applied none first second later w at =
    let a = applied w at.is in
    let m = cut_made w e cut a.world a.reports a.step in (
      m.0,
      made n p (step_of e (Some cut)) kept kept2 boards boards2 script script2 moment moment2 r r2 w (cut_outcome (does w e) w e cut m.0) at a none m.1
          (λ steps is. cut_written n p steps cut e script between script2 is first second) later,
    )

-- ---- the course goes on

abbrev pub Placed : Agenda → Staging → Scene
Placed a s = record { agenda = a; staging = s }

pub moves_none : (n : NetProfile) (p : Plan) (x : Scene) → Moves (λ c. c) n p x x
moves_none n p x = λ c is. is

pub moves_then : (f g : Course → Course) (n : NetProfile) (p : Plan) (x y z : Scene) → Moves f n p x y → Moves g n p y z → Moves (λ c. g (f c)) n p x z
moves_then f g n p x y z a b = λ c is. b (f c) (a c is)

pub staged_world : (n : NetProfile) (p : Plan) (x : Scene) (c : Course) → IsCourse n p x c → IsStagedWorld n x.staging c.world
staged_world n p x c k = record { is = k.is; moment = k.moment; count = k.count }

-- one more step, and what is noted of it
noted_course : (n : NetProfile) (p : Plan) (x : Step) (a b : Agenda) (s t : Staging) (reports : List Report) (o : StepOutcome) (c : Course) → IsCourse n p (Placed a s) c → IsStepMade n p x s t reports o
    → ((w : World) → IsStagedWorld n t w → b ≡ noted_event p (mote_of x.event) reports w a) → IsCourse n p (Placed b t) (and_step p x o c)
noted_course n p x a b s t reports o c k m noted = record {
  agenda = noted o.world (record { is = m.is; moment = m.moment; count = m.count }) ∙ ap (λ (l : List Report). noted_event p (mote_of x.event) l o.world a) m.lines
      ∙ ap (λ (y : Agenda). noted_event p (mote_of x.event) (filter (is_reported false) o.reports) o.world y) k.agenda;
  is = m.is;
  moment = m.moment;
  count = m.count;
  spelled = m.spelled c.steps k.spelled;
}

pub event_moves : (n : NetProfile) (p : Plan) (e : Event) (m : ℕ) (a b : Agenda) (s t : Staging) (reports : List Report) → m ≡ mote_of e
    → ((w : World) → IsStagedWorld n s w → IsStepMade n p (uncut e) s t reports (whole_outcome (does w e) w e))
    → ((w : World) → IsStagedWorld n t w → b ≡ noted_event p m reports w a) → Moves (event_course p e) n p (Placed a s) (Placed b t)
unfolding event_course
event_moves n p e m a b s t reports at made noted = λ c k.
    noted_course n p (uncut e) a b s t reports (whole_outcome (does c.world e) c.world e) c k (made c.world (staged_world n p (Placed a s) c k))
    (λ w is. noted w is ∙ ap (λ (i : ℕ). noted_event p i reports w a) at)

pub cut_moves : (n : NetProfile) (p : Plan) (cut : Cut) (e : Event) (m : ℕ) (a b : Agenda) (s t : Staging) (reports : List Report) → m ≡ mote_of e
    → ((w : World) → IsStagedWorld n s w → (left : Store) × IsStepMade n p (step_of e (Some cut)) s t reports (cut_outcome (does w e) w e cut left))
    → ((w : World) → IsStagedWorld n t w → b ≡ noted_event p m reports w a) → (c : Course) → IsCourse n p (Placed a s) c → (left : Store) × IsCourse n p (Placed b t) (cut_course p cut e left c)
unfolding cut_course
cut_moves n p cut e m a b s t reports at made noted = λ c k.
    let step = made c.world (staged_world n p (Placed a s) c k) in (
      step.0,
      noted_course n p (step_of e (Some cut)) a b s t reports (cut_outcome (does c.world e) c.world e cut step.0) c k step.1
          (λ w is. noted w is ∙ ap (λ (i : ℕ). noted_event p i reports w a) at),
    )

-- ---- draws

pub agenda_moves : (f : Agenda → Agenda) (n : NetProfile) (p : Plan) (a b : Agenda) (s : Staging) → b ≡ f a → Moves (λ c. record c { agenda = f c.agenda }) n p (Placed a s) (Placed b s)
agenda_moves f n p a b s e = λ c k. record { agenda = e ∙ ap f k.agenda; is = k.is; moment = k.moment; count = k.count; spelled = k.spelled }

-- an event whose word is drawn
pub word_moves : (F : ℕ → Event) (n : NetProfile) (p : Plan) (a b : Agenda) (s : Staging) (y : Scene) (word : ℕ) → word ≡ drawn_word a → b ≡ past_draw a
    → Moves (event_course p (F word)) n p (Placed b s) y → Moves (λ c. event_course p (F (drawn_word c.agenda)) (drawn_course c)) n p (Placed a s) y
word_moves F n p a b s y word drawn past moves = λ c k.
    subst (λ (v : ℕ). IsCourse n p y (event_course p (F v) (drawn_course c))) (drawn ∙ ap drawn_word k.agenda) (moves (drawn_course c) (agenda_moves past_draw n p a b s past c k))

-- Where the course of a rehearsal begins, and its whole.
use Rattle.std.proofs.Common.{◌≡◌, ℕ, ◌%◌, Bool, false, List, length, replicate, refl, sym, ap, subst, ◌∙◌}
use Rattle.rand_pcg.specs.Lcg.{Lcg}
use Rattle.rand_pcg.specs.Pcg.{pcg32}
use Rattle.dg_netcfg.specs.declared.profile.NetProfile.{NetProfile}
use Rattle.dg_object.specs.Object.{pages_for}
use Rattle.dg_script.specs.Sizes.{most_motes}
use Rattle.dg_seed.specs.Draws.{first_generator}
use Rattle.dg_volume.specs.Store.{Store}
use Rattle.dg_rehearse.specs.Clocked.{EndsAfter, IsByClock, PlaysOut, opening_course}
use Rattle.dg_rehearse.specs.Courses.{Agenda, Course, Scene, IsCourse}
use Rattle.dg_rehearse.specs.Rehearsed.{Staging}
use Rattle.dg_rehearse.specs.Turns.{Begins, between_cuts, first_agenda, first_course, opened_course}
use Rattle.dg_rehearse.specs.declared.plan.Ending.{Ending}
use Rattle.dg_rehearse.specs.declared.plan.Plan.{Plan}
use Rattle.dg_rehearse.specs.declared.plan.Rehearsal.{Rehearsal}
use Rattle.dg_rehearse.proofs.BeginLemmas.{first_count}
use Rattle.dg_rehearse.proofs.CourseLemmas.{Placed}

first_is : (n : NetProfile) (p : Plan) (a : Agenda) (s : Staging) → a ≡ first_agenda p → Begins n p s → IsCourse n p (Placed a s) (first_course n p)
first_is n p a s e b = record { agenda = e; is = b.is; moment = b.moment; count = first_count n p; spelled = b.spelled }

pub clocked : (n : NetProfile) (p : Plan) (e : Ending) (a : Agenda) (s : Staging) (y : Scene) (r : Rehearsal) → a ≡ first_agenda p → Begins n p s
    → ((c : Course) → IsCourse n p (Placed a s) c → PlaysOut n p (opened_course n p c) e y) → r.ending ≡ e → r.script.items ≡ y.staging.script → r.moment ≡ y.staging.moment → (left : List Store) × IsByClock n p left r
clocked n p e a s y r is begins plays ending script moment =
    let out = plays (first_course n p) (first_is n p a s is begins) in
    (out.left, record { ends = subst (λ (x : Ending). EndsAfter n p (opening_course n p) out.left x) (sym ending) out.ends; script = script ∙ out.is.spelled; moment = moment ∙ out.is.moment })

-- the first agenda
abbrev pub first_by : Plan → List ℕ → ℕ → List Bool → List Bool → Lcg → ℕ → Agenda
first_by p turns pages whole runs h k = record { generator = h; turns = turns; pages = pages; whole = whole; runs = runs; cuts = p.cuts; next_cut = k }

abbrev Drawn : Plan → List ℕ → ℕ → List Bool → List Bool → (ℕ × Lcg) → Agenda
Drawn p turns pages whole runs x = record { generator = x.1; turns = turns; pages = pages; whole = whole; runs = runs; cuts = p.cuts; next_cut = x.0 % between_cuts }

pub first_drawn : (p : Plan) (pages : ℕ) (turns : List ℕ) (whole runs : List Bool) (g h : Lcg) (word : ℕ) → turns ≡ replicate most_motes 0 → pages ≡ pages_for (length p.content) → whole ≡ replicate most_motes false → runs ≡ replicate most_motes false
    → g ≡ first_generator p.seed → ◌≡◌ {A = ℕ × Lcg} (word, h) (pcg32 g) → Drawn p turns pages whole runs (word, h) ≡ first_agenda p
first_drawn p pages turns whole runs g h word t s w r e step =
    ap (Drawn p turns pages whole runs) (step ∙ ap pcg32 e) ∙ ap (λ (l : List ℕ). Drawn p l pages whole runs (pcg32 (first_generator p.seed))) t ∙ ap (λ (k : ℕ). Drawn p (replicate most_motes 0) k whole runs (pcg32 (first_generator p.seed))) s
    ∙ ap (λ (l : List Bool). Drawn p (replicate most_motes 0) (pages_for (length p.content)) l runs (pcg32 (first_generator p.seed))) w
    ∙ ap (λ (l : List Bool). Drawn p (replicate most_motes 0) (pages_for (length p.content)) (replicate most_motes false) l (pcg32 (first_generator p.seed))) r

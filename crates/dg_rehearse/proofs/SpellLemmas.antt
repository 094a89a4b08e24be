-- What is written is a script.
use Rattle.std.proofs.Common.{◌≡◌, ◌≢◌, ℕ, suc, ◌+◌, ◌<◌, ◌≤◌, true, false, List, [], ◌∷◌, ◌++◌, length, map, append-nil, refl, ap, sym, subst, ◌∙◌, arith}
use Rattle.std.specs.Prelude.{AllPairs, None, codes}
use Rattle.std.specs.List.{AllByRecursion, flat_map}
use Rattle.std.proofs.lemmas.List.Elements.{recursion_from_All}
use Rattle.dg_base.specs.declared.events.Step.{Step}
use Rattle.dg_nor.specs.Device.{Device}
use Rattle.dg_netcfg.specs.Readings.{IsAllowed}
use Rattle.dg_netcfg.specs.declared.profile.NetProfile.{NetProfile}
use Rattle.dg_script.specs.Fitting.{FitsLine}
use Rattle.dg_script.specs.Places.{first_place}
use Rattle.dg_script.specs.Ranges.{AreTwo}
use Rattle.dg_script.specs.Sizes.{most_motes}
use Rattle.dg_script.specs.declared.line.Line.{Line}
use Rattle.dg_trial.specs.Playing.{FitsStep}
use Rattle.dg_rehearse.specs.Rehearsed.{IsPlanned, IsRehearsedStep, IsStaged, Rehearsed, Staging, SpellsScript, step_lines, opening_lines, rehearsed_lines, written_lines}
use Rattle.dg_rehearse.specs.declared.plan.Plan.{Plan}
use Rattle.dg_rehearse.proofs.BeginLemmas.{image_said}
use Rattle.dg_rehearse.proofs.PlayLemmas.{fits_of}
use Rattle.dg_rehearse.proofs.ScriptLemmas.{Apart, Pairs, Reads, behind_head, all_both, head_fits, head_read, image_read, steps_fit_lines, steps_read, written_script}

-- ---- links

pairs_of : (ls : List (ℕ × ℕ)) → AllPairs Apart ls → Pairs ls
unfolding Pairs
pairs_of [] h = tt
pairs_of (l ∷ ls) h = (recursion_from_All (Apart l) ls (λ k d less. h 0 (suc k) d (omega arith) (omega (arith, less))), pairs_of ls (λ i j d before within. h (suc i) (suc j) d (omega (arith, before)) (omega (arith, within))))

abbrev Joins : ℕ → ℕ × ℕ → Type 0
Joins motes l = (l.0 < motes) × (l.1 < motes) × (l.0 ≢ l.1)

twos : (motes : ℕ) (ls : List (ℕ × ℕ)) → AllByRecursion (Joins motes) ls → AllByRecursion (λ l. AreTwo motes l.0 l.1) ls
twos motes [] h = tt
twos motes (l ∷ ls) h = (record { first = h.0.0; second = h.0.1; two = h.0.2 }, twos motes ls h.1)

-- ---- the whole script

fitting : (motes : ℕ) (steps : List Step) → AllByRecursion (IsRehearsedStep motes) steps → AllByRecursion (FitsStep motes) steps
fitting motes [] h = tt
fitting motes (x ∷ xs) h = (record { event = fits_of motes x.event h.0.event; cut = h.0.cut }, fitting motes xs h.1)

lines_read : (n : NetProfile) (p : Plan) (steps : List Step) → IsAllowed n → IsPlanned n.motes p → AllByRecursion (FitsStep n.motes) steps → Reads first_place (rehearsed_lines n p steps)
lines_read n p steps allowed planned fits =
    let motes = n.motes in
    let some = allowed.motes.0 in
    let few = allowed.motes.1 in
    let rest = flat_map step_lines steps in
    head_read motes n.links (image_said p ∷ []) rest some few (twos motes n.links (recursion_from_All (Joins motes) n.links allowed.links)) (pairs_of n.links allowed.once)
    (λ links. image_read motes false links p.image p.version p.name p.content rest some planned.fits planned.declared
    (subst (λ (ls : List Line). Reads (behind_head motes false None links) ls) (append-nil rest) (steps_read motes false links steps [] some few fits (λ e. refl))))

lines_fit : (n : NetProfile) (p : Plan) (steps : List Step) → IsAllowed n → IsPlanned n.motes p → AllByRecursion (FitsStep n.motes) steps → AllByRecursion (FitsLine most_motes) (rehearsed_lines n p steps)
lines_fit n p steps allowed planned fits =
    let few = allowed.motes.1 in
    all_both (FitsLine most_motes) (opening_lines n p) (flat_map step_lines steps)
    (head_fits n.motes n.links (image_said p ∷ []) allowed.motes.0 few (twos n.motes n.links (recursion_from_All (Joins n.motes) n.links allowed.links)) (planned.declared, tt))
    (steps_fit_lines n.motes steps few fits)

pub spells : (n : NetProfile) (p : Plan) (steps : List Step) (script : List ℕ) → IsAllowed n → IsPlanned n.motes p → AllByRecursion (IsRehearsedStep n.motes) steps → script ≡ written_lines (rehearsed_lines n p steps)
    → SpellsScript script (rehearsed_lines n p steps)
spells n p steps script allowed planned rehearsed is =
    let fits = fitting n.motes steps rehearsed in
    subst (λ (bytes : List ℕ). SpellsScript bytes (rehearsed_lines n p steps)) (sym is) (written_script (rehearsed_lines n p steps) (lines_fit n p steps allowed planned fits) (lines_read n p steps allowed planned fits))

-- the links of a profile join two of its motes
pub links_fit : (n : NetProfile) → IsAllowed n → AllByRecursion (λ l. AreTwo n.motes l.0 l.1) n.links
links_fit n allowed = twos n.motes n.links (recursion_from_All (Joins n.motes) n.links allowed.links)

-- what was staged is a rehearsal
abbrev pub rehearsed : (n : NetProfile) (p : Plan) (s : Staging) (initial : List Device) → IsAllowed n → IsPlanned n.motes p → IsStaged n p initial s → Rehearsed n p initial s.boards s.script
rehearsed n p s initial allowed planned t =
    record {
      steps = t.steps;
      world = t.world;
      run = t.run;
      spells = spells n p t.steps s.script allowed planned t.run.fits t.spelled;
      stands = t.stands;
    }

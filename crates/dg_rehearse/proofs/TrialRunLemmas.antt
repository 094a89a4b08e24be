-- The script of a trial runs as the trial does.
use Rattle.std.proofs.Common.{lit<, lit≤, ◌≡◌, ◌⊎◌, ⊎_elim, inl, inr, ℕ, zero, suc, ◌+◌, ◌-◌, ◌*◌, ◌<◌, ◌≤◌, Bool, true, false, List, [], ◌∷◌, ◌++◌, length, map, append-nil, append_assoc, refl, ap, sym, subst, ◌∙◌, arith}
use Rattle.std.proofs.lemmas.List.{map-append}
use Rattle.std.specs.Prelude.{IfSome, Option, Some, None, Result, Ok, Err, codes}
use Rattle.std.specs.List.{AllByRecursion, filter, flat_map}
use Rattle.dg_base.specs.declared.events.Cut.{Cut}
use Rattle.dg_base.specs.declared.events.Event.{Event}
use Rattle.dg_base.specs.declared.events.Event.TheVariants.{Reset, Inject}
use Rattle.dg_base.specs.declared.events.Step.{Step}
use Rattle.dg_end.specs.declared.ends.End.{End}
use Rattle.dg_end.specs.declared.ends.End.TheVariants as ends
use Rattle.dg_netcfg.specs.Readings.{IsSameLink}
use Rattle.dg_nor.specs.Device.{Device}
use Rattle.dg_object.specs.Object.{Row}
use Rattle.dg_rounds.specs.Rounds.{times, sweep}
use Rattle.rand_pcg.specs.Pcg.{pcg32}
use Rattle.dg_seed.specs.Draws.{first_generator}
use Rattle.dg_script.specs.Fitting.{FitsEvent, FitsLine}
use Rattle.dg_script.specs.Items.{Item, Declares, Applies, items_of, items_behind, unreported}
use Rattle.dg_script.specs.Places.{first_place}
use Rattle.dg_script.specs.Ranges.{AreTwo}
use Rattle.dg_script.specs.Sizes.{most_motes, most_sweeps}
use Rattle.dg_script.specs.declared.line.Line.{Line}
use Rattle.dg_script.specs.declared.line.Line.TheVariants.{Motes, Golden, Image, Cut as CutLine, Happens as EventLine, Sweeps}
use Rattle.dg_rules.specs.Changes.{is_reported}
use Rattle.dg_rules.specs.Runs.{Played, Plays}
use Rattle.dg_rules.specs.World.{World}
use Rattle.dg_world.specs.Alone.{uncut}
use Rattle.dg_world.specs.Boards.{WorldStands}
use Rattle.dg_replay.specs.Items.{Beginning, StartState, begin_behind, beginning_of, no_start_state}
use Rattle.dg_replay.specs.inner.Words.{golden_world}
use Rattle.dg_replay.specs.Replayed.{item_played, RunsTo}
use Rattle.dg_replay.proofs.ItemLemmas.{plays_append}
use Rattle.dg_trial.specs.Schedule.{SchedulePart, always, line_links, resets, row_of_seed, opening, shaking, rest_events, schedule, sweep_count}
use Rattle.dg_trial.specs.Playing.{FitsStep, LeadsTo, LeadsBy, PartsBegun, StopsInPart}
use Rattle.dg_trial.specs.Trials.{trial_start, RecordEnds, TrialRecorded, Unplayed}
use Rattle.dg_trial.specs.declared.recording.TrialRecord.{TrialRecord}
use Rattle.dg_trial.proofs.FitLemmas.{line_fits}
use Rattle.dg_trial.proofs.InjectionLemmas.{at_most, trial_declared}
use Rattle.dg_trial.proofs.RecordLemmas.{by_to, by_then, by_events}
use Rattle.dg_trial.proofs.RunLemmas.{leads_apart, leads_then}
use Rattle.dg_trial.proofs.ScheduleLemmas.{events_more}
use Rattle.dg_rehearse.specs.Rehearsed.{SpellsScript, cut_lines, step_lines, written_lines}
use Rattle.dg_rehearse.specs.TrialScripts.{CanBeWritten, LinesLead, RunsAsTrial, TrialWriteEnds, TrialWritten, event_lines, head_of_trial, lines_of_trial, link_lines, step_of_item, steps_of_lines, stop_by, trial_lines}
use Rattle.dg_rehearse.specs.declared.stop.Stop.{Stop}
use Rattle.dg_rehearse.specs.declared.stop.Stop.TheVariants as stops
use Rattle.dg_rehearse.proofs.ScriptLemmas.{Apart, Pairs, Reads, all_both, behind_head, events_fit_lines, events_read, golden_fits, head_read, image_read, link_line, steps_fit_lines, steps_read, sweeps_read, written_script}

abbrev pub opening_events : ℕ → List Event
opening_events motes = resets motes ++ Inject 0 1 1 0 0 ∷ []

-- ---- its items

abbrev applies : Bool → Step → Item
applies reported x = Applies x reported

-- R is what the lines after them have, wherever they stand
Behind : (motes : ℕ) → List (ℕ × ℕ) → List Line → List Item → Type 0
Behind motes links rest R = (e : Bool) → items_behind (behind_head motes e None links) rest ≡ R

events_items : (motes : ℕ) (links : List (ℕ × ℕ)) (es : List Event) (rest : List Line) (R : List Item) → Behind motes links rest R → Behind motes links (event_lines es ++ rest) (map (applies true) (map uncut es) ++ R)
unfolding Behind items_behind
events_items motes links [] rest R more = more
events_items motes links (e ∷ es) rest R more = λ b. ap (λ (l : List Item). Applies (uncut e) true ∷ l) (events_items motes links es rest R more true)

step_items : (motes : ℕ) (b : Bool) (links : List (ℕ × ℕ)) (cut : Option Cut) (event : Event) (rest : List Line)
    → items_behind (behind_head motes b None links) ((cut_lines cut ++ EventLine event ∷ []) ++ rest) ≡ Applies (record { event = event; cut = cut }) true ∷ items_behind (behind_head motes true None links) rest
unfolding items_behind
step_items motes b links None event rest = refl
step_items motes b links (Some cut) event rest = refl

steps_items : (motes : ℕ) (links : List (ℕ × ℕ)) (xs : List Step) (rest : List Line) (R : List Item) → Behind motes links rest R → Behind motes links (flat_map step_lines xs ++ rest) (map (applies true) xs ++ R)
unfolding Behind
steps_items motes links [] rest R more = more
steps_items motes links (x ∷ xs) rest R more = λ b.
    ap (λ (ls : List Line). items_behind (behind_head motes b None links) ls) (append_assoc (step_lines x) (flat_map step_lines xs) rest)
    ∙ step_items motes b links x.cut x.event (flat_map step_lines xs ++ rest)
    ∙ ap (λ (l : List Item). Applies x true ∷ l) (steps_items motes links xs rest R more true)

links_items : (motes : ℕ) (before ls : List (ℕ × ℕ)) (rest : List Line) → items_behind (behind_head motes false None before) (link_lines ls ++ rest) ≡ items_behind (behind_head motes false None (before ++ ls)) rest
unfolding items_behind
links_items motes before [] rest = ap (λ (ls : List (ℕ × ℕ)). items_behind (behind_head motes false None ls) rest) (sym (append-nil before))
links_items motes before (l ∷ ls) rest =
    links_items motes (before ++ l ∷ []) ls rest ∙ ap (λ (ms : List (ℕ × ℕ)). items_behind (behind_head motes false None ms) rest) (append_assoc before (l ∷ []) ls)

sweeps_items : (motes : ℕ) (links : List (ℕ × ℕ)) (n : ℕ) → Behind motes links (Sweeps n ∷ []) (unreported (times n (sweep links)))
unfolding Behind items_behind
sweeps_items motes links n = λ b. append-nil (unreported (times n (sweep links)))

-- the items after the image
abbrev run_items : (motes pages : ℕ) → List Step → List Item
run_items motes pages disturbed =
    map (applies true) (map uncut (opening_events motes)) ++ (map (applies true) disturbed ++ (map (applies true) (map uncut (resets motes)) ++ unreported (times (sweep_count motes pages) (sweep (line_links motes)))))

head_items : (motes pages seed : ℕ) (rest : List Line) → items_of (head_of_trial motes (line_links motes) (row_of_seed pages seed).bytes ++ rest) ≡ Declares (row_of_seed pages seed) ∷ items_behind (behind_head motes false None (line_links motes)) rest
unfolding items_behind
head_items motes pages seed rest =
    let image : List Line = Image 1 1 (codes "trial") (row_of_seed pages seed).bytes ∷ [] in
    ap (λ (ls : List Line). items_behind (behind_head motes false None []) ls) (append_assoc (link_lines (line_links motes)) image rest) ∙ links_items motes [] (line_links motes) (image ++ rest)

trial_items : (motes pages seed : ℕ) (disturbed : List Step) → items_of (trial_lines motes pages seed disturbed) ≡ Declares (row_of_seed pages seed) ∷ run_items motes pages disturbed
unfolding Behind
trial_items motes pages seed disturbed =
    let links = line_links motes in
    let swept : List Line = Sweeps (sweep_count motes pages) ∷ [] in
    let restarted : List Line = event_lines (resets motes) ++ swept in
    let shaken : List Line = flat_map step_lines disturbed ++ restarted in
    head_items motes pages seed (event_lines (opening_events motes) ++ shaken)
    ∙ ap (λ (l : List Item). Declares (row_of_seed pages seed) ∷ l)
    (events_items motes links (opening_events motes) shaken _ (steps_items motes links disturbed restarted _ (events_items motes links (resets motes) swept _ (sweeps_items motes links (sweep_count motes pages)))) false)

-- ---- its steps

steps_then : (b : Bool) (xs : List Step) (R : List Item) → flat_map step_of_item (map (applies b) xs ++ R) ≡ xs ++ flat_map step_of_item R
steps_then b [] R = refl
steps_then b (x ∷ xs) R = ap (λ (l : List Step). x ∷ l) (steps_then b xs R)

unreported_are : (es : List Event) → unreported es ≡ map (applies false) (map uncut es)
unreported_are [] = refl
unreported_are (e ∷ es) = ap (λ (l : List Item). Applies (uncut e) false ∷ l) (unreported_are es)

unreported_steps : (es : List Event) → flat_map step_of_item (unreported es) ≡ map uncut es
unreported_steps [] = refl
unreported_steps (e ∷ es) = ap (λ (l : List Step). uncut e ∷ l) (unreported_steps es)

-- the steps of a trial, whose disturbances are these
abbrev run_steps : (motes pages : ℕ) → List Step → List Step
run_steps motes pages disturbed = map uncut (opening_events motes) ++ (disturbed ++ map uncut (rest_events motes pages))

trial_steps : (motes pages seed : ℕ) (disturbed : List Step) → steps_of_lines (trial_lines motes pages seed disturbed) ≡ run_steps motes pages disturbed
trial_steps motes pages seed disturbed =
    let swept = times (sweep_count motes pages) (sweep (line_links motes)) in
    let restarted : List Item = map (applies true) (map uncut (resets motes)) ++ unreported swept in
    ap (λ (l : List Item). flat_map step_of_item l) (trial_items motes pages seed disturbed)
    ∙ steps_then true (map uncut (opening_events motes)) (map (applies true) disturbed ++ restarted)
    ∙ ap (λ (l : List Step). map uncut (opening_events motes) ++ l)
    (steps_then true disturbed restarted
    ∙ ap (λ (l : List Step). disturbed ++ l)
    (steps_then true (map uncut (resets motes)) (unreported swept) ∙ ap (λ (l : List Step). map uncut (resets motes) ++ l) (unreported_steps swept) ∙ sym (map-append uncut (resets motes) swept)))

-- ---- where it begins

events_inside : (g : StartState) (b : Beginning) (es : List Event) (rest : List Line) → begin_behind g b (event_lines es ++ rest) ≡ begin_behind g b rest
unfolding begin_behind
events_inside g b [] rest = refl
events_inside g b (e ∷ es) rest = events_inside g b es rest

step_inside : (g : StartState) (b : Beginning) (cut : Option Cut) (event : Event) (rest : List Line) → begin_behind g b ((cut_lines cut ++ EventLine event ∷ []) ++ rest) ≡ begin_behind g b rest
unfolding begin_behind
step_inside g b None event rest = refl
step_inside g b (Some cut) event rest = refl

steps_inside : (g : StartState) (b : Beginning) (xs : List Step) (rest : List Line) → begin_behind g b (flat_map step_lines xs ++ rest) ≡ begin_behind g b rest
steps_inside g b [] rest = refl
steps_inside g b (x ∷ xs) rest = ap (λ (ls : List Line). begin_behind g b ls) (append_assoc (step_lines x) (flat_map step_lines xs) rest) ∙ step_inside g b x.cut x.event (flat_map step_lines xs ++ rest) ∙ steps_inside g b xs rest

links_begun : (g : StartState) (motes : ℕ) (w : World) (before ls : List (ℕ × ℕ)) (rest : List Line)
    → begin_behind g (record { motes = motes; world = Some (record w { links = before }) }) (link_lines ls ++ rest) ≡ begin_behind g (record { motes = motes; world = Some (record w { links = before ++ ls }) }) rest
unfolding begin_behind
links_begun g motes w before [] rest = ap (λ (ls : List (ℕ × ℕ)). begin_behind g (record { motes = motes; world = Some (record w { links = ls }) }) rest) (sym (append-nil before))
links_begun g motes w before (l ∷ ls) rest =
    links_begun g motes w (before ++ l ∷ []) ls rest ∙ ap (λ (ms : List (ℕ × ℕ)). begin_behind g (record { motes = motes; world = Some (record w { links = ms }) }) rest) (append_assoc before (l ∷ []) ls)

-- the world of a trial before its image is declared
abbrev undeclared : (motes pages seed : ℕ) → World
undeclared motes pages seed = record (trial_start motes pages seed) { declared = [] }

trial_begins : (motes pages seed : ℕ) (disturbed : List Step) → (beginning_of no_start_state (trial_lines motes pages seed disturbed)).world ≡ Some (undeclared motes pages seed)
unfolding begin_behind
trial_begins motes pages seed disturbed =
    let links = line_links motes in
    let g = no_start_state in
    let b : Beginning = record { motes = motes; world = Some (undeclared motes pages seed) } in
    let swept : List Line = Sweeps (sweep_count motes pages) ∷ [] in
    let restarted : List Line = event_lines (resets motes) ++ swept in
    let shaken : List Line = flat_map step_lines disturbed ++ restarted in
    let rest : List Line = event_lines (opening_events motes) ++ shaken in
    let image : List Line = Image 1 1 (codes "trial") (row_of_seed pages seed).bytes ∷ [] in
    let world : Beginning → Option World = λ x. x.world in
    ap (λ (ls : List Line). (begin_behind g (record { motes = motes; world = Some (golden_world motes (codes "base") 0 (codes "A")) }) ls).world) (append_assoc (link_lines links) image rest)
    ∙ ap world (links_begun g motes (golden_world motes (codes "base") 0 (codes "A")) [] links (image ++ rest) ∙ events_inside g b (opening_events motes) shaken ∙ steps_inside g b disturbed restarted ∙ events_inside g b (resets motes) swept)

-- ---- runs

-- a run by steps is one of the items that apply them
plays_by : (b : Bool) (w v : World) (ps : List SchedulePart) (xs : List Step) → LeadsBy w ps xs v → (played : List Played) × (map item_played played ≡ map (applies b) xs) × Plays w played v
unfolding LeadsBy Plays
plays_by b w v [] [] e = ([], refl, e)
plays_by b w v [] (x ∷ xs) e = absurd e
plays_by b w v (p ∷ ps) [] e = absurd e
plays_by b w v (p ∷ ps) (x ∷ xs) e =
    let rest = plays_by b e.1 v ps xs e.4 in
    let here : Played = record { item = Applies x b; before = w; after = e.1; reports = filter (is_reported b) e.2 } in
    (here ∷ rest.0, ap (λ (l : List Item). Applies x b ∷ l) rest.1, (refl, (e.2, e.3, refl), rest.2))

declared_plays : (motes pages seed : ℕ) (v : World) (played : List Played) → Plays (trial_start motes pages seed) played v
    → Plays (undeclared motes pages seed) (record { item = Declares (row_of_seed pages seed); before = undeclared motes pages seed; after = trial_start motes pages seed; reports = [] } ∷ played) v
unfolding Plays
declared_plays motes pages seed v played plays = (refl, record { world = refl; told = refl }, plays)

opens_by : (motes pages seed : ℕ) (opened : World) → LeadsTo (trial_start motes pages seed) (opening motes) opened → LeadsBy (trial_start motes pages seed) (opening motes) (map uncut (opening_events motes)) opened
opens_by motes pages seed opened e =
    let same : map always (opening_events motes) ≡ opening motes = events_more (resets motes) (Inject 0 1 1 0 0) in
    let w = trial_start motes pages seed in
    subst (λ (ps : List SchedulePart). LeadsBy w ps (map uncut (opening_events motes)) opened) same
    (by_events w opened (opening_events motes) (subst (λ (ps : List SchedulePart). LeadsTo w ps opened) (sym same) e))

-- a run of the items after the image
pub record ItemsRun (w v : World) (items : List Item) : Type 0 where
  pub played : List Played
  pub are : map item_played played ≡ items
  pub plays : Plays w played v

items_run : (b : Bool) (w v : World) (ps : List SchedulePart) (xs : List Step) → LeadsBy w ps xs v → ItemsRun w v (map (applies b) xs)
items_run b w v ps xs e = let p = plays_by b w v ps xs e in record { played = p.0; are = p.1; plays = p.2 }

items_then : (w u v : World) (xs ys : List Item) → ItemsRun w u xs → ItemsRun u v ys → ItemsRun w v (xs ++ ys)
items_then w u v xs ys a b = record {
  played = a.played ++ b.played;
  are = map-append item_played a.played b.played ∙ ap (λ (l : List Item). l ++ map item_played b.played) a.are ∙ ap (λ (l : List Item). xs ++ l) b.are;
  plays = plays_append w u v a.played b.played a.plays b.plays;
}

pub runs_as_trial : (motes pages seed : ℕ) (disturbed : List Step) (opened last v : World) → LeadsTo (trial_start motes pages seed) (opening motes) opened → LeadsBy opened (shaking motes seed) disturbed last → LeadsTo last (map always (rest_events motes pages)) v
    → RunsAsTrial motes pages seed (trial_lines motes pages seed disturbed) v
runs_as_trial motes pages seed disturbed opened last v opens shakes rests =
    let start = trial_start motes pages seed in
    let ls = trial_lines motes pages seed disturbed in
    let swept = times (sweep_count motes pages) (sweep (line_links motes)) in
    let first = opens_by motes pages seed opened opens in
    let rest_by = by_events last v (rest_events motes pages) rests in
    let apart = leads_apart last v (map always (resets motes)) (map always swept) (subst (λ (ps : List SchedulePart). LeadsTo last ps v) (map-append always (resets motes) swept) rests) in
    let steps : LeadsBy start (schedule motes pages seed) (run_steps motes pages disturbed) v =
    by_then start opened v (opening motes) (shaking motes seed ++ map always (rest_events motes pages)) (map uncut (opening_events motes)) (disturbed ++ map uncut (rest_events motes pages)) first
    (by_then opened last v (shaking motes seed) (map always (rest_events motes pages)) disturbed (map uncut (rest_events motes pages)) shakes rest_by) in
    let swept_run : ItemsRun apart.0 v (unreported swept) = subst (λ (l : List Item). ItemsRun apart.0 v l) (sym (unreported_are swept)) (items_run false apart.0 v (map always swept) (map uncut swept) (by_events apart.0 v swept apart.2)) in
    let run : ItemsRun start v (run_items motes pages disturbed) =
    items_then start opened v _ _ (items_run true start opened (opening motes) (map uncut (opening_events motes)) first)
    (items_then opened last v _ _ (items_run true opened last (shaking motes seed) disturbed shakes)
    (items_then last apart.0 v _ _ (items_run true last apart.0 (map always (resets motes)) (map uncut (resets motes)) (by_events last apart.0 (resets motes) apart.1)) swept_run)) in
    let declared : Played = record { item = Declares (row_of_seed pages seed); before = undeclared motes pages seed; after = start; reports = [] } in
    record {
      trial = subst (λ (xs : List Step). LeadsBy start (schedule motes pages seed) xs v) (sym (trial_steps motes pages seed disturbed)) steps;
      script = (
        declared ∷ run.played,
        ap (λ (l : List Item). Declares (row_of_seed pages seed) ∷ l) run.are ∙ sym (trial_items motes pages seed disturbed),
        subst (λ (w : Option World). RunsTo w (declared ∷ run.played) (Some v)) (sym (trial_begins motes pages seed disturbed)) (v, refl, declared_plays motes pages seed v run.played run.plays),
      );
    }

-- The script of a trial: it is read as its lines, and runs as the trial does.
use Rattle.std.proofs.Common.{lit<, lit≤, ◌≡◌, ◌⊎◌, ⊎_elim, inl, inr, ℕ, zero, suc, ◌+◌, ◌-◌, ◌*◌, ◌<◌, ◌≤◌, Bool, true, false, List, [], ◌∷◌, ◌++◌, length, map, append-nil, append_assoc, refl, ap, sym, subst, ◌∙◌, arith}
use Rattle.std.proofs.lemmas.List.{map-append}
use Rattle.std.specs.Prelude.{IfSome, Option, Some, None, Result, Ok, Err, codes}
use Rattle.std.specs.List.{AllByRecursion, filter, flat_map}
use Rattle.dg_base.specs.declared.events.Cut.{Cut}
use Rattle.dg_base.specs.declared.events.Event.{Event}
use Rattle.dg_base.specs.declared.events.Event.TheVariants.{Reset, Inject}
use Rattle.dg_base.specs.declared.events.Step.{Step}
use Rattle.dg_end.specs.declared.ends.End.{End}
use Rattle.dg_end.specs.declared.ends.End.TheVariants as ends
use Rattle.dg_netcfg.specs.Readings.{IsSameLink}
use Rattle.dg_nor.specs.Device.{Device}
use Rattle.dg_object.specs.Object.{Row}
use Rattle.dg_rounds.specs.Rounds.{times, sweep}
use Rattle.rand_pcg.specs.Pcg.{pcg32}
use Rattle.dg_seed.specs.Draws.{first_generator}
use Rattle.dg_script.specs.Fitting.{FitsEvent, FitsLine}
use Rattle.dg_script.specs.Items.{Item, Declares, Applies, items_of, items_behind, unreported}
use Rattle.dg_script.specs.Places.{first_place}
use Rattle.dg_script.specs.Ranges.{AreTwo}
use Rattle.dg_script.specs.Sizes.{most_motes, most_sweeps}
use Rattle.dg_script.specs.declared.line.Line.{Line}
use Rattle.dg_script.specs.declared.line.Line.TheVariants.{Motes, Golden, Image, Cut as CutLine, Happens as EventLine, Sweeps}
use Rattle.dg_rules.specs.Changes.{is_reported}
use Rattle.dg_rules.specs.Runs.{Played, Plays}
use Rattle.dg_rules.specs.World.{World}
use Rattle.dg_world.specs.Alone.{uncut}
use Rattle.dg_world.specs.Boards.{WorldStands}
use Rattle.dg_replay.specs.Items.{Beginning, StartState, begin_behind, beginning_of, no_start_state}
use Rattle.dg_replay.specs.inner.Words.{golden_world}
use Rattle.dg_replay.specs.Replayed.{item_played, RunsTo}
use Rattle.dg_replay.proofs.ItemLemmas.{plays_append}
use Rattle.dg_trial.specs.Schedule.{SchedulePart, always, line_links, resets, row_of_seed, opening, shaking, rest_events, schedule, sweep_count}
use Rattle.dg_trial.specs.Playing.{FitsStep, LeadsTo, LeadsBy, PartsBegun, StopsInPart}
use Rattle.dg_trial.specs.Trials.{trial_start, RecordEnds, TrialRecorded, Unplayed}
use Rattle.dg_trial.specs.declared.recording.TrialRecord.{TrialRecord}
use Rattle.dg_trial.proofs.FitLemmas.{line_fits}
use Rattle.dg_trial.proofs.InjectionLemmas.{at_most, trial_declared}
use Rattle.dg_trial.proofs.RecordLemmas.{by_to, by_then, by_events}
use Rattle.dg_trial.proofs.ScheduleLemmas.{resets_more}
use Rattle.dg_trial.proofs.RunLemmas.{leads_apart, leads_then}
use Rattle.dg_trial.proofs.ScheduleLemmas.{events_more}
use Rattle.dg_rehearse.specs.Rehearsed.{SpellsScript, cut_lines, step_lines, written_lines}
use Rattle.dg_rehearse.specs.TrialScripts.{CanBeWritten, LinesLead, RunsAsTrial, TrialWriteEnds, TrialWritten, event_lines, head_of_trial, lines_of_trial, link_lines, step_of_item, steps_of_lines, stop_by, trial_lines}
use Rattle.dg_rehearse.specs.declared.stop.Stop.{Stop}
use Rattle.dg_rehearse.specs.declared.stop.Stop.TheVariants as stops
use Rattle.dg_rehearse.proofs.TrialRunLemmas.{opening_events, runs_as_trial}
use Rattle.dg_rehearse.proofs.ScriptLemmas.{Apart, Pairs, Reads, all_both, behind_head, events_fit_lines, events_read, golden_fits, head_read, image_read, link_line, steps_fit_lines, steps_read, sweeps_read, written_script}

-- ---- its lines may be written

resets_fit : (motes n : ℕ) → n ≤ motes → AllByRecursion (FitsEvent motes) (resets n)
unfolding resets
resets_fit motes zero h = tt
resets_fit motes (suc n) h = all_both (FitsEvent motes) (resets n) (Reset n 0 0 ∷ []) (resets_fit motes n (omega arith)) ((omega arith, record { dt = lit< tt; word = lit< tt }), tt)

opening_fits : (motes : ℕ) → 2 ≤ motes → AllByRecursion (FitsEvent motes) (opening_events motes)
opening_fits motes some =
    all_both (FitsEvent motes) (resets motes) (Inject 0 1 1 0 0 ∷ []) (resets_fit motes motes (omega arith))
    (((omega arith, record { image = lit≤ tt; version = lit≤ tt }), (record { dt = lit< tt; word = lit< tt }, lit< tt)), tt)

can_events : (es : List Event) → AllByRecursion (FitsLine most_motes) (event_lines es) → AllByRecursion CanBeWritten (event_lines es)
can_events [] h = tt
can_events (e ∷ es) h = (record { fits = h.0; short = tt }, can_events es h.1)

can_step : (cut : Option Cut) (event : Event) → AllByRecursion (FitsLine most_motes) (cut_lines cut ++ EventLine event ∷ []) → AllByRecursion CanBeWritten (cut_lines cut ++ EventLine event ∷ [])
can_step None event h = (record { fits = h.0; short = tt }, tt)
can_step (Some cut) event h = (record { fits = h.0; short = tt }, (record { fits = h.1.0; short = tt }, tt))

can_steps : (xs : List Step) → AllByRecursion (FitsLine most_motes) (flat_map step_lines xs) → AllByRecursion CanBeWritten (flat_map step_lines xs)
can_steps [] h = tt
can_steps (x ∷ xs) h =
    let parts = all_parts (FitsLine most_motes) (step_lines x) (flat_map step_lines xs) h in
    all_both CanBeWritten (step_lines x) (flat_map step_lines xs) (can_step x.cut x.event parts.0) (can_steps xs parts.1)
  where
    all_parts : {A : Type 0} (P : A → Type 0) (us vs : List A) → AllByRecursion P (us ++ vs) → AllByRecursion P us × AllByRecursion P vs
    all_parts P [] vs h = (tt, h)
    all_parts P (u ∷ us) vs h = let rest = all_parts P us vs h.1 in ((h.0, rest.0), rest.1)

can_links : (motes : ℕ) (ls : List (ℕ × ℕ)) → motes ≤ most_motes → AllByRecursion (λ l. AreTwo motes l.0 l.1) ls → AllByRecursion CanBeWritten (link_lines ls)
can_links motes [] few h = tt
can_links motes (l ∷ ls) few h = (record { fits = record { first = omega (arith, h.0.first, few); second = omega (arith, h.0.second, few); two = h.0.two }; short = tt }, can_links motes ls few h.1)

-- the first word of a seed
abbrev first_word : ℕ → ℕ
first_word seed = (pcg32 (first_generator seed)).0

pub trial_can : (motes pages seed : ℕ) (disturbed : List Step) → 2 ≤ motes → motes ≤ most_motes → 2 ≤ pages → pages ≤ 65 → AllByRecursion (FitsStep motes) disturbed → AllByRecursion CanBeWritten (trial_lines motes pages seed disturbed)
trial_can motes pages seed disturbed some few some_pages few_pages fits =
    let P = CanBeWritten in
    let small = at_most pages seed (first_word seed) few_pages in
    let image : Line = Image 1 1 (codes "trial") (row_of_seed pages seed).bytes in
    let one : 1 ≤ motes = omega arith in
    let whole : motes ≤ motes = omega arith in
    let low : 1 ≤ sweep_count motes pages = omega arith in
    let high : sweep_count motes pages ≤ most_sweeps = omega arith in
    let steps = can_steps disturbed (steps_fit_lines motes disturbed few fits) in
    let opens = can_events (opening_events motes) (events_fit_lines motes (opening_events motes) few (opening_fits motes some)) in
    let restarts = can_events (resets motes) (events_fit_lines motes (resets motes) few (resets_fit motes motes whole)) in
    let links = can_links motes (line_links motes) few (line_fits motes motes whole) in
    let head : AllByRecursion CanBeWritten (head_of_trial motes (line_links motes) (row_of_seed pages seed).bytes) = (
      record { fits = (one, few); short = tt },
      (
        record { fits = golden_fits; short = tt },
        all_both P (link_lines (line_links motes)) (image ∷ []) links (record { fits = trial_declared pages seed (first_word seed) few_pages; short = omega (arith, small) }, tt),
      ),
    ) in
    all_both P (head_of_trial motes (line_links motes) (row_of_seed pages seed).bytes) _ head
    (all_both P (event_lines (opening_events motes)) _ opens
    (all_both P (flat_map step_lines disturbed) _ steps
    (all_both P (event_lines (resets motes)) (Sweeps (sweep_count motes pages) ∷ []) restarts (record { fits = (low, high); short = tt }, tt))))

-- ---- they are read as they are written

apart_from : (n : ℕ) (ls : List (ℕ × ℕ)) → AllByRecursion (λ l. AreTwo (suc n) l.0 l.1) ls → AllByRecursion (Apart (n, n + 1)) ls
apart_from n [] h = tt
apart_from n (l ∷ ls) h = (λ same. ⊎_elim (λ x. absurd (omega (arith, x.1, h.0.second))) (λ x. absurd (omega (arith, x.1, h.0.first))) same, apart_from n ls h.1)

line_pairs : (n : ℕ) → Pairs (line_links n)
unfolding Pairs line_links
line_pairs zero = tt
line_pairs (suc zero) = tt
line_pairs (suc (suc n)) = (apart_from n (line_links (suc n)) (line_fits (suc n) (suc n) (omega arith)), line_pairs (suc n))

fits_of_can : (ls : List Line) → AllByRecursion CanBeWritten ls → AllByRecursion (FitsLine most_motes) ls
fits_of_can [] h = tt
fits_of_can (l ∷ ls) h = (h.0.fits, fits_of_can ls h.1)

trial_reads : (motes pages seed : ℕ) (disturbed : List Step) → 2 ≤ motes → motes ≤ most_motes → 2 ≤ pages → pages ≤ 65 → AllByRecursion (FitsStep motes) disturbed → Reads first_place (trial_lines motes pages seed disturbed)
trial_reads motes pages seed disturbed some few some_pages few_pages fits =
    let one : 1 ≤ motes = omega arith in
    let whole : motes ≤ motes = omega arith in
    let low : 1 ≤ sweep_count motes pages = omega arith in
    let high : sweep_count motes pages ≤ most_sweeps = omega arith in
    let bytes : List ℕ = (row_of_seed pages seed).bytes in
    let swept : List Line = Sweeps (sweep_count motes pages) ∷ [] in
    let restarted : List Line = event_lines (resets motes) ++ swept in
    let shaken : List Line = flat_map step_lines disturbed ++ restarted in
    head_read motes (line_links motes) (Image 1 1 (codes "trial") bytes ∷ []) (event_lines (opening_events motes) ++ shaken) one few (line_fits motes motes whole) (line_pairs motes)
    (λ links. image_read motes false links 1 1 (codes "trial") bytes (event_lines (opening_events motes) ++ shaken) one (at_most pages seed (first_word seed) few_pages) (trial_declared pages seed (first_word seed) few_pages)
    (events_read motes false links (opening_events motes) shaken one few (opening_fits motes some)
    (λ a. steps_read motes a links disturbed restarted one few fits
    (λ b. events_read motes b links (resets motes) swept one few (resets_fit motes motes whole) (λ e. sweeps_read motes e links (sweep_count motes pages) one low high)))))

trial_spells : (motes pages seed : ℕ) (disturbed : List Step) (script : List ℕ) → 2 ≤ motes → motes ≤ most_motes → 2 ≤ pages → pages ≤ 65 → AllByRecursion (FitsStep motes) disturbed → script ≡ written_lines (trial_lines motes pages seed disturbed)
    → SpellsScript script (trial_lines motes pages seed disturbed)
trial_spells motes pages seed disturbed script some few some_pages few_pages fits is =
    let ls = trial_lines motes pages seed disturbed in
    subst (λ (bytes : List ℕ). SpellsScript bytes ls) (sym is)
    (written_script ls (fits_of_can ls (trial_can motes pages seed disturbed some few some_pages few_pages fits)) (trial_reads motes pages seed disturbed some few some_pages few_pages fits))

-- ---- lines that are appended

pub reset_appended : (k : ℕ) (a b c : List Line) → b ≡ a ++ event_lines (resets k) → c ≡ b ++ EventLine (Reset k 0 0) ∷ [] → c ≡ a ++ event_lines (resets (k + 1))
reset_appended k a b c first second =
    second ∙ ap (λ l. l ++ EventLine (Reset k 0 0) ∷ []) first ∙ append_assoc a (event_lines (resets k)) (EventLine (Reset k 0 0) ∷ [])
    ∙ ap (λ l. a ++ l) (sym (map-append EventLine (resets k) (Reset k 0 0 ∷ [])) ∙ ap event_lines (sym (resets_more k)))

-- five pieces, one after the other
five_appended : (a0 a1 a2 a3 a4 a5 head opens steps restarts sweeps : List Line) → a0 ≡ [] → a1 ≡ a0 ++ head → a2 ≡ a1 ++ opens → a3 ≡ a2 ++ steps → a4 ≡ a3 ++ restarts → a5 ≡ a4 ++ sweeps → a5 ≡ head ++ (opens ++ (steps ++ (restarts ++ sweeps)))
five_appended a0 a1 a2 a3 a4 a5 head opens steps restarts sweeps none h1 h2 h3 h4 h5 =
    h5 ∙ ap (λ l. l ++ sweeps) (h4 ∙ ap (λ l. l ++ restarts) (h3 ∙ ap (λ l. l ++ steps) (h2 ∙ ap (λ l. l ++ opens) (h1 ∙ ap (λ l. l ++ head) none))))
    ∙ simp append_assoc

-- ---- answers

-- what is recorded gives the lines
lines_recorded : (motes pages seed : ℕ) (links : List (ℕ × ℕ)) (content : List ℕ) (disturbed : List Step) (sweeps : ℕ) → links ≡ line_links motes → content ≡ (row_of_seed pages seed).bytes → sweeps ≡ sweep_count motes pages
    → lines_of_trial motes links content disturbed sweeps ≡ trial_lines motes pages seed disturbed
lines_recorded motes pages seed links content disturbed sweeps a b c =
    ap (λ (ls : List (ℕ × ℕ)). lines_of_trial motes ls content disturbed sweeps) a ∙ ap (λ (bytes : List ℕ). lines_of_trial motes (line_links motes) bytes disturbed sweeps) b
    ∙ ap (λ (n : ℕ). lines_of_trial motes (line_links motes) (row_of_seed pages seed).bytes disturbed n) c

record_lines : (motes pages seed : ℕ) (r : TrialRecord) (old new : List Device) → TrialRecorded motes pages seed r old new → lines_of_trial motes r.links.items r.content r.disturbances.items r.sweeps ≡ trial_lines motes pages seed r.disturbances.items
record_lines motes pages seed r old new t =
    lines_recorded motes pages seed r.links.items r.content r.disturbances.items r.sweeps t.links (ap (λ (row : Row). row.bytes) t.image) t.sweeps

pub record_can : (motes pages seed : ℕ) (r : TrialRecord) (old new : List Device) → 2 ≤ motes → motes ≤ most_motes → 2 ≤ pages → pages ≤ 65 → TrialRecorded motes pages seed r old new
    → AllByRecursion CanBeWritten (lines_of_trial motes r.links.items r.content r.disturbances.items r.sweeps)
record_can motes pages seed r old new some few some_pages few_pages t =
    subst (λ (ls : List Line). AllByRecursion CanBeWritten ls) (sym (record_lines motes pages seed r old new t)) (trial_can motes pages seed r.disturbances.items some few some_pages few_pages t.fits)

pub record_written : (motes pages seed : ℕ) (r : TrialRecord) (script : List ℕ) (old new : List Device) → 2 ≤ motes → motes ≤ most_motes → 2 ≤ pages → pages ≤ 65 → TrialRecorded motes pages seed r old new
    → script ≡ written_lines (lines_of_trial motes r.links.items r.content r.disturbances.items r.sweeps) → TrialWritten motes pages seed old new script
record_written motes pages seed r script old new some few some_pages few_pages t is =
    record {
      disturbed = r.disturbances.items;
      opened = t.opened;
      last = t.last;
      opens = t.opens;
      shakes = t.shakes;
      boards = t.boards;
      spells = trial_spells motes pages seed r.disturbances.items script some few some_pages few_pages t.fits (is ∙ ap written_lines (record_lines motes pages seed r old new t));
      runs = λ v rests. runs_as_trial motes pages seed r.disturbances.items t.opened t.last v t.opens t.shakes rests;
    }

-- the lines that are gathered, piece by piece
pub lines_gathered : (motes : ℕ) (r : TrialRecord) (links : List (ℕ × ℕ)) (a0 a1 a2 a3 a4 a5 : List Line) → links ≡ r.links.items → a0 ≡ [] → a1 ≡ a0 ++ head_of_trial motes links r.content → a2 ≡ a1 ++ event_lines (opening_events motes) → a3 ≡ a2 ++ flat_map step_lines r.disturbances.items → a4 ≡ a3 ++ event_lines (resets motes) → a5 ≡ a4 ++ Sweeps r.sweeps ∷ []
    → a5 ≡ lines_of_trial motes r.links.items r.content r.disturbances.items r.sweeps
lines_gathered motes r links a0 a1 a2 a3 a4 a5 same none h1 h2 h3 h4 h5 =
    five_appended a0 a1 a2 a3 a4 a5 (head_of_trial motes links r.content) (event_lines (opening_events motes)) (flat_map step_lines r.disturbances.items) (event_lines (resets motes)) (Sweeps r.sweeps ∷ []) none h1 h2 h3 h4 h5
    ∙ ap (λ (ls : List (ℕ × ℕ)). lines_of_trial motes ls r.content r.disturbances.items r.sweeps) same

-- memory ran out after it was recorded
pub record_unwritten : (motes pages seed : ℕ) (r : TrialRecord) (old new : List Device) → TrialRecorded motes pages seed r old new → Unplayed motes pages seed old new
record_unwritten motes pages seed r old new t =
    let start = trial_start motes pages seed in
    let rest : List SchedulePart = map always (rest_events motes pages) in
    inr (record {
      begun = opening motes ++ shaking motes seed;
      left = rest;
      split = sym (append_assoc (opening motes) (shaking motes seed) rest);
      world = t.last;
      run = leads_then start t.opened t.last (opening motes) (shaking motes seed) t.opens (by_to t.opened t.last (shaking motes seed) r.disturbances.items t.shakes);
      there = t.boards;
    })

pub record_ends : (Z : Type 0) (e : End) (motes pages seed : ℕ) (old new : List Device) → RecordEnds (Err e) motes pages seed old new → TrialWriteEnds {Z = Z} (Err (stop_by e)) motes pages seed old new
record_ends Z ends.Memory motes pages seed old new h = h
record_ends Z ends.FlashFault motes pages seed old new h = h
record_ends Z (ends.NoBoard need have) motes pages seed old new h = h.0
record_ends Z end motes pages seed old new h = absurd h

-- How a trial ends.
use Rattle.std.proofs.Common.{◌≡◌, refl, ◌≢◌, ◌⊎◌, inl, inr, ⊎_elim, ℕ, ◌+◌, ◌-◌, ◌*◌, ◌≤◌, List, [], ◌∷◌, ◌++◌, codes, length, ap, sym, subst, ◌∙◌, append_assoc, arith}
use Rattle.std.specs.Prelude.{Option, Some, None, Result, Ok, Err, IfOk, OnErr}
use Rattle.std.specs.Fmt.{decimal}
use Rattle.dg_words.specs.Counts.{Rose}
use Rattle.dg_base.specs.Outside.{Puts}
use Rattle.dg_base.specs.declared.answers.Status.{Status}
use Rattle.dg_base.specs.declared.answers.Status.TheVariants as status
use Rattle.dg_nor.specs.Device.{Device}
use Rattle.dg_trial.specs.Schedule.{row_of_seed, schedule, sweep_count, event_count}
use Rattle.dg_rules.specs.Sizes.{most_motes}
use Rattle.dg_rules.specs.World.{World}
use Rattle.dg_seed.specs.Draws.{first_generator}
use Rattle.rand_pcg.specs.Pcg.{pcg32}
use Rattle.dg_trial.specs.Trials.{summary_line, trial_text, trial_start, wholes, TrialRun, WholeLaw, TellsWhole, TrialComplete, TrialEnds, TrialDone, TrialPlayed, Unplayed}
use Rattle.dg_trial.specs.inner.Outcomes.{TrialOutcome, TellsTrial, TrialComesTo}
use Rattle.dg_outside.specs.Outside.{Outside, OutputState}
use Rattle.dg_end.specs.Lines.{Outcome, text_outcome, outcome_status, outcome_line}
use Rattle.dg_end.specs.Writes.{WritesLast, WritesAnswer}
use Rattle.dg_end.specs.declared.ends.End.{End}
use Rattle.dg_end.specs.declared.ends.End.TheVariants as ends
use Rattle.dg_end.proofs.AnswerLemmas.{answered_done}
use Rattle.dg_end.proofs.CommandLemmas.{unread_ends}
use Rattle.dg_trial.proofs.FitLemmas.{length-schedule}
use Rattle.dg_trial.proofs.RunLemmas.{leads_events}
use Rattle.dg_trial.proofs.TrialLemmas.{read_unread}
use Rattle.dg_trial.specs.declared.summary.Summary.{Summary}

-- ---- the last write

last_cause : (r wanted : Status) (line : Option (List ℕ)) (a b : OutputState) → wanted ≢ status.WriteFault → WritesLast r wanted line a b → r ≡ status.WriteFault → Rose a.writes b.writes
last_cause r wanted None a b other h is = absurd (other (sym h.0 ∙ is))
last_cause r wanted (Some text) a b other h is =
    ⊎_elim (λ d. absurd (other (sym d.0 ∙ is))) (λ x. ⊎_elim (λ w. w.2) (λ m. absurd (differ (sym m.0 ∙ is))) x) h
  where
    differ : status.Memory ≡ status.WriteFault → ⊥
    differ e = cc

last_unfailed : (r wanted : Status) (line : Option (List ℕ)) (a b : OutputState) → WritesLast r wanted line a b → r ≢ status.WriteFault → b.writes ≡ a.writes
last_unfailed r wanted None a b h other = ap (λ (o : OutputState). o.writes) h.1
last_unfailed r wanted (Some text) a b h other =
    ⊎_elim (λ d. d.2) (λ x. ⊎_elim (λ w. absurd (other w.0)) (λ m. ap (λ (o : OutputState). o.writes) m.1) x) h

-- no outcome of a trial is a failed write
writes_last : (outcome : Outcome) (motes pages seed : ℕ) (old new : List Device) → TrialComesTo outcome motes pages seed old new → outcome_status outcome ≢ status.WriteFault
writes_last (Ok text) motes pages seed old new comes is = cc
writes_last (Err ends.Memory) motes pages seed old new comes is = cc
writes_last (Err ends.FlashFault) motes pages seed old new comes is = cc
writes_last (Err (ends.NoBoard need have)) motes pages seed old new comes is = cc
writes_last (Err end) motes pages seed old new comes is = absurd comes

pub trial_cause : (r : Status) (outcome : Outcome) (motes pages seed : ℕ) (a b : OutputState) (old new : List Device) → TrialComesTo outcome motes pages seed old new → WritesAnswer r outcome a b → r ≡ status.WriteFault → Rose a.writes b.writes
trial_cause r outcome motes pages seed a b old new comes h = last_cause r (outcome_status outcome) (outcome_line outcome) a b (writes_last outcome motes pages seed old new comes) h

pub trial_unfailed : (r : Status) (outcome : Outcome) (a b : OutputState) → WritesAnswer r outcome a b → r ≢ status.WriteFault → b.writes ≡ a.writes
trial_unfailed r outcome a b h = last_unfailed r (outcome_status outcome) (outcome_line outcome) a b h

-- ---- its outcome

told_is : (motes pages seed : ℕ) (old new : List Device) (s : Summary) (t : TrialPlayed motes pages seed old new) → TellsTrial motes pages seed t.last s → summary_line s.motes s.pages s.sweeps s.events s.whole ≡ trial_text motes pages seed t.last
told_is motes pages seed old new s t h =
    ap (λ (n : ℕ). summary_line n s.pages s.sweeps s.events s.whole) h.motes_reported ∙ ap (λ (n : ℕ). summary_line motes n s.sweeps s.events s.whole) h.pages_reported ∙ ap (λ (n : ℕ). summary_line motes pages n s.events s.whole) h.sweeps_reported
    ∙ ap (λ (n : ℕ). summary_line motes pages (sweep_count motes pages) n s.whole) h.events_reported ∙ ap (λ (n : ℕ). summary_line motes pages (sweep_count motes pages) t.last.events n) h.whole_reported

unread : (motes pages seed : ℕ) (old new : List Device) → TrialPlayed motes pages seed old new → Unplayed motes pages seed old new
unread motes pages seed old new t = read_unread motes pages seed t.last old new t.run t.boards

-- the line is made of what was played
pub line_told : {T : Type 0} (view : T → List ℕ) (r : Result T End) (motes pages seed : ℕ) (old new : List Device) (s : Summary) → motes ≤ length old → TrialOutcome (Ok s) motes pages seed old new
    → IfOk r (λ x. view x ≡ summary_line s.motes s.pages s.sweeps s.events s.whole) → OnErr r (r ≡ Err ends.Memory) → TrialComesTo (text_outcome view r) motes pages seed old new
line_told view (Ok x) motes pages seed old new s enough run line none = (enough, (run.0, line ∙ told_is motes pages seed old new s run.0 run.1))
line_told view (Err e) motes pages seed old new s enough run line none =
    let same : e ≡ ends.Memory = cc in
    subst (λ (x : End). TrialComesTo (Err x) motes pages seed old new) (sym same) (unread motes pages seed old new run.0)

-- or it was not played to its end
pub run_fails : (e : End) (motes pages seed : ℕ) (old new : List Device) → motes ≤ length old → TrialOutcome (Err e) motes pages seed old new → TrialComesTo (Err e) motes pages seed old new
run_fails ends.Memory motes pages seed old new enough h = h
run_fails ends.FlashFault motes pages seed old new enough h = (enough, h)
run_fails end motes pages seed old new enough h = absurd h

-- what a trial uses, and the rest
abbrev pub standing : OutputState → List Device → Outside → Outside
standing output boards rest = record rest { output = output; boards = boards }

-- a trial that was played to its end leaves the image whole everywhere
pub whole_ends : WholeLaw → (outcome : Outcome) (motes pages seed : ℕ) (old new : List Device) → 2 ≤ motes → motes ≤ most_motes → 2 ≤ pages → pages ≤ 65 → TrialComesTo outcome motes pages seed old new
    → TrialEnds outcome motes pages seed old new
whole_ends law (Ok text) motes pages seed old new some few some_pages few_pages comes =
    let t = comes.1.0 in
    let all = law motes pages seed t.last some few some_pages few_pages t.run in
    record { boards = comes.0; played = t; kept = all.0; whole = all.1; line = comes.1.1 }
whole_ends law (Err ends.Memory) motes pages seed old new some few some_pages few_pages comes = comes
whole_ends law (Err ends.FlashFault) motes pages seed old new some few some_pages few_pages comes = comes
whole_ends law (Err (ends.NoBoard need have)) motes pages seed old new some few some_pages few_pages comes =
    (comes.0.missing, comes.0.same, comes.1, comes.2)
whole_ends law (Err end) motes pages seed old new some few some_pages few_pages comes = absurd comes

-- the outcome of a trial is written, and gives the status
pub trial_ends : (r : Status) (outcome : Outcome) (motes pages seed : ℕ) (a b : OutputState) (old new : List Device) (rest : Outside) → TrialEnds outcome motes pages seed old new
    → WritesAnswer r outcome a b → a.writes ≤ b.writes → TrialDone motes pages seed r (standing a old rest) (standing b new rest)
trial_ends r outcome motes pages seed a b old new rest comes h writes =
    unread_ends r outcome (standing a old rest) (standing b new rest) h writes refl refl (λ o. TrialEnds o motes pages seed old new × (rest.input ≡ rest.input)) (comes, refl) refl

-- a whole schedule has as many events as its motes and pages say
pub counts_events : (motes pages seed : ℕ) (v : World) → 1 ≤ motes → TrialRun motes pages seed v → v.events ≡ event_count motes pages
counts_events motes pages seed v some run =
    let s = sweep_count motes pages in
    let played : v.events ≡ 0 + length (schedule motes pages seed) = leads_events (trial_start motes pages seed) v (schedule motes pages seed) run in
    let count = length-schedule motes (100 * motes) s (pcg32 (first_generator seed)).1 some in
    let links : 404 * (motes - 1) ≡ 2 * (motes - 1) * 202 = omega arith in
    let sweeps : s * (404 * (motes - 1)) ≡ s * (2 * (motes - 1) * 202) = ap (λ (n : ℕ). s * n) links in
    omega (arith, played, count, sweeps)

-- if it was played and reported, the line says that every mote keeps the image whole
whole_told : (motes pages seed : ℕ) (a b : OutputState) (old new : List Device) (text : List ℕ) → 1 ≤ motes → TrialComplete text motes pages seed old new → Puts a.written b.written text → TellsWhole motes pages a.written b.written
whole_told motes pages seed a b old new text some d put =
    let w = d.played.last in
    let line : ℕ → ℕ → List ℕ = λ events whole. summary_line motes pages (sweep_count motes pages) events whole in
    let told : Puts a.written b.written (line w.events (wholes (row_of_seed pages seed) w)) = subst (λ (t : List ℕ). Puts a.written b.written t) d.line put in
    let counted : Puts a.written b.written (line (event_count motes pages) (wholes (row_of_seed pages seed) w)) =
    subst (λ (n : ℕ). Puts a.written b.written (line n (wholes (row_of_seed pages seed) w))) (counts_events motes pages seed w some d.played.run) told in
    subst (λ (n : ℕ). Puts a.written b.written (line (event_count motes pages) n)) d.whole counted

done_put : (a b : OutputState) (text : List ℕ) → WritesAnswer status.Done (Ok text) a b → Puts a.written b.written text
done_put a b text h = ⊎_elim (λ d. d.1) (λ x. ⊎_elim (λ w. absurd (cut w.0)) (λ m. absurd (lost m.0)) x) h
  where
    cut : status.Done ≡ status.WriteFault → ⊥
    cut e = cc

    lost : status.Done ≡ status.Memory → ⊥
    lost e = cc

pub tells_whole : (r : Status) (outcome : Outcome) (motes pages seed : ℕ) (a b : OutputState) (old new : List Device) → 1 ≤ motes → TrialEnds outcome motes pages seed old new → WritesAnswer r outcome a b → r ≡ status.Done → TellsWhole motes pages a.written b.written
tells_whole r outcome motes pages seed a b old new some comes h is =
    let told : WritesAnswer status.Done outcome a b = subst (λ (s : Status). WritesAnswer s outcome a b) is h in
    let x = answered_done outcome a b told in
    whole_told motes pages seed a b old new x.0 some (subst (λ (o : Outcome). TrialEnds o motes pages seed old new) x.1 comes)
    (done_put a b x.0 (subst (λ (o : Outcome). WritesAnswer status.Done o a b) x.1 told))

pub summary_text : (t0 t1 t2 t3 t4 t5 t6 : List ℕ) (a b c d e m p s v w : ℕ) → t1 ≡ t0 ++ (codes "trial motes " ++ decimal a) → t2 ≡ t1 ++ (codes " pages " ++ decimal b) → t3 ≡ t2 ++ (codes " sweeps " ++ decimal c) → t4 ≡ t3 ++ (codes " events " ++ decimal d)
    → t5 ≡ t4 ++ (codes " whole " ++ decimal e) → t6 ≡ t5 ++ 10 ∷ [] → a ≡ m → b ≡ p → c ≡ s → d ≡ v → e ≡ w → t6 ≡ t0 ++ summary_line m p s v w
summary_text t0 t1 t2 t3 t4 t5 t6 a b c d e m p s v w h1 h2 h3 h4 h5 h6 am bp cs dv ew =
    h6 ∙ ap (λ (t : List ℕ). t ++ 10 ∷ []) (h5 ∙ ap (λ (t : List ℕ). t ++ (codes " whole " ++ decimal e)) (h4 ∙ ap (λ (t : List ℕ). t ++ (codes " events " ++ decimal d)) (h3 ∙ ap (λ (t : List ℕ). t ++ (codes " sweeps " ++ decimal c))
    (h2 ∙ ap (λ (t : List ℕ). t ++ (codes " pages " ++ decimal b)) h1))))
    ∙ joined (codes "trial motes ") (decimal a) (codes " pages ") (decimal b) (codes " sweeps ") (decimal c) (codes " events ") (decimal d) (codes " whole ") (decimal e)
    ∙ ap (λ (n : ℕ). t0 ++ summary_line n b c d e) am ∙ ap (λ (n : ℕ). t0 ++ summary_line m n c d e) bp ∙ ap (λ (n : ℕ). t0 ++ summary_line m p n d e) cs ∙ ap (λ (n : ℕ). t0 ++ summary_line m p s n e) dv ∙ ap (λ (n : ℕ). t0 ++ summary_line m p s v n) ew
  where
    joined : (w1 d1 w2 d2 w3 d3 w4 d4 w5 d5 : List ℕ) → ((((((t0 ++ (w1 ++ d1)) ++ (w2 ++ d2)) ++ (w3 ++ d3)) ++ (w4 ++ d4)) ++ (w5 ++ d5)) ++ 10 ∷ []) ≡ t0 ++ (w1 ++ d1 ++ w2 ++ d2 ++ w3 ++ d3 ++ w4 ++ d4 ++ w5 ++ d5 ++ 10 ∷ [])
    joined w1 d1 w2 d2 w3 d3 w4 d4 w5 d5 = simp append_assoc

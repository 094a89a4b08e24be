-- A whole trial: from the boards as they are to the line that is reported.
use Rattle.std.proofs.Common.{◌≡◌, inl, inr, ⊎_elim, ℕ, ◌*◌, ◌<◌, ◌≤◌, List, [], ◌∷◌, ◌++◌, length, map, replicate, append-nil, refl, ap, sym, subst, ◌∙◌, arith}
use Rattle.std.specs.Prelude.{Some, slice_get, Result, Ok, Err}
use Rattle.rand_pcg.specs.Lcg.{Lcg}
use Rattle.rand_pcg.specs.Pcg.{pcg32}
use Rattle.dg_nor.specs.Device.{Device}
use Rattle.dg_volume.specs.Stands.{Stands}
use Rattle.dg_rounds.specs.Rounds.{times, sweep}
use Rattle.dg_object.specs.Object.{Row}
use Rattle.dg_rules.specs.World.{World, first_world}
use Rattle.dg_world.specs.Applied.{SameBoards, ReadFlash}
use Rattle.dg_world.specs.Worlds.{IsWorld}
use Rattle.dg_world.specs.declared.world.World.{World as KeptWorld}
use Rattle.std.specs.Prelude.{count_by}
use Rattle.std.proofs.Common.{◌^◌}
use Rattle.std.proofs.lemmas.List.Sums.{count_by-le-length}
use Rattle.dg_script.specs.Places.{none_narrow}
use Rattle.dg_script.specs.declared.report.Report.{Report}
use Rattle.dg_rules.specs.Changes.{final_lines}
use Rattle.dg_trial.specs.Lines.{tells_whole}
use Rattle.dg_trial.specs.Trials.{wholes}
use Rattle.dg_trial.specs.inner.Words.{keeps_all}
use Rattle.dg_trial.proofs.SummaryLemmas.{world_told, page_count_is}
use Rattle.dg_seed.specs.Draws.{first_generator}
use Rattle.dg_trial.specs.Schedule.{SchedulePart, always, line_links, resets, opening, disturbances, row_of_seed, schedule, sweep_count}
use Rattle.dg_trial.specs.inner.Words.{row_by}
use Rattle.dg_world.specs.Boards.{WorldStands}
use Rattle.dg_trial.specs.Playing.{golden, chip, first, LeadsTo, MayPlayParts, PartsPlay, PartsBegun, StopsInPart, MayPlayOver}
use Rattle.dg_trial.specs.Trials.{trial_start, Formatted, Front, TrialRun, StopsReading, Unplayed}
use Rattle.dg_trial.specs.inner.Outcomes.{FormatEnds, SchedulePlayed, ScheduleEnds, TrialOutcome}
use Rattle.dg_end.specs.declared.ends.End.{End}
use Rattle.dg_end.specs.declared.ends.End.TheVariants as ends
use Rattle.dg_trial.proofs.RunLemmas.{leads_none, leads_sites}
use Rattle.dg_world.proofs.EndureLemmas.{board_stops, chips_read}
use Rattle.dg_trial.proofs.BeginLemmas.{length_first, first_stands, first_may}

-- ---- the schedule

-- the code's parts are those of the schedule
abbrev parts_by : (motes s : ℕ) → Lcg → List (ℕ × ℕ) → List SchedulePart
parts_by motes s g links = opening motes ++ (disturbances motes (100 * motes) g ++ map always (resets motes ++ times s (sweep links)))

pub parts_are : (motes pages seed s : ℕ) (g : Lcg) (links : List (ℕ × ℕ)) → links ≡ line_links motes → s ≡ sweep_count motes pages → g ≡ (pcg32 (first_generator seed)).1 → parts_by motes s g links ≡ schedule motes pages seed
parts_are motes pages seed s g links a b c =
    ap (λ (ls : List (ℕ × ℕ)). parts_by motes s g ls) a ∙ ap (λ (n : ℕ). parts_by motes n g (line_links motes)) b ∙ ap (λ (x : Lcg). parts_by motes (sweep_count motes pages) x (line_links motes)) c

pub row_drawn : (pages seed word : ℕ) (g start : Lcg) → (word, g) ≡ pcg32 start → start ≡ first_generator seed → (row_by pages seed word ≡ row_of_seed pages seed) × (g ≡ (pcg32 (first_generator seed)).1)
row_drawn pages seed word g start e at =
    let h : (word, g) ≡ pcg32 (first_generator seed) = e ∙ ap pcg32 at in
    (ap (λ (x : ℕ × Lcg). row_by pages seed x.0) h, ap (λ (x : ℕ × Lcg). x.1) h)

-- the schedule may be played after the beginning
pub schedule_may : (motes pages seed s : ℕ) (g : Lcg) (links : List (ℕ × ℕ)) (row : Row) (v : KeptWorld) (old new : List Device) → 2 ≤ motes → motes ≤ 16 → s ≤ 79 → links ≡ line_links motes
    → Formatted motes old new → IsWorld v new (first motes row) → MayPlayOver motes v new (parts_by motes s g links)
schedule_may motes pages seed s g links row v old new some few short line_is f is =
    record {
      world = first motes row;
      initial = old;
      is = is;
      stands = first_stands motes row old new f;
      may = subst (λ (ls : List (ℕ × ℕ)). MayPlayParts motes (first motes row) (parts_by motes s g ls)) (sym line_is) (first_may motes s row g some few short);
    }

pub unstarted : (motes pages seed : ℕ) (old new : List Device) → Formatted motes old new → Front motes pages seed (λ w left. WorldStands w old new)
unstarted motes pages seed old new f =
    record {
      begun = [];
      left = schedule motes pages seed;
      split = refl;
      world = trial_start motes pages seed;
      run = leads_none (trial_start motes pages seed);
      there = first_stands motes (row_of_seed pages seed) old new f;
    }

-- the outcome of playing it
pub schedule_played : (motes pages seed s : ℕ) (g : Lcg) (links : List (ℕ × ℕ)) (row : Row) (v k : KeptWorld) (old mid new : List Device) → parts_by motes s g links ≡ schedule motes pages seed → row ≡ row_of_seed pages seed
    → Formatted motes old mid → IsWorld v mid (first motes row) → PartsPlay (Ok tt) (parts_by motes s g links) v k mid new → SchedulePlayed motes pages seed k old new
schedule_played motes pages seed s g links row v k old mid new parts e f is plays =
    let p = plays (first motes row) old is (first_stands motes row old mid f) in
    let run : TrialRun motes pages seed p.world = subst (λ (r : Row). LeadsTo (first motes r) (schedule motes pages seed) p.world) e (subst (λ (ps : List SchedulePart). LeadsTo (first motes row) ps p.world) parts p.run) in
    record { world = p.world; run = run; kept_now = p.kept_now; boards = p.boards; count = leads_sites (first motes row) p.world (parts_by motes s g links) p.run ∙ length_first motes row }

pub schedule_stopped : (why : End) (motes pages seed s : ℕ) (g : Lcg) (links : List (ℕ × ℕ)) (row : Row) (v k : KeptWorld) (old mid new : List Device) → parts_by motes s g links ≡ schedule motes pages seed → row ≡ row_of_seed pages seed
    → Formatted motes old mid → IsWorld v mid (first motes row) → PartsPlay (Err why) (parts_by motes s g links) v k mid new → ScheduleEnds (Err why) motes pages seed old new
schedule_stopped ends.Memory motes pages seed s g links row v k old mid new parts e f is plays =
    let p = plays (first motes row) old is (first_stands motes row old mid f) in
    let P : World → List SchedulePart → Type 0 = λ w left. WorldStands w old new in
    inr (subst (λ (r : Row). PartsBegun (first motes r) (schedule motes pages seed) P) e (subst (λ (ps : List SchedulePart). PartsBegun (first motes row) ps P) parts p))
schedule_stopped ends.FlashFault motes pages seed s g links row v k old mid new parts e f is plays =
    let p = plays (first motes row) old is (first_stands motes row old mid f) in
    let P : World → List SchedulePart → Type 0 = λ w left. StopsInPart w left old new in
    inr (subst (λ (r : Row). PartsBegun (first motes r) (schedule motes pages seed) P) e (subst (λ (ps : List SchedulePart). PartsBegun (first motes row) ps P) parts p))
schedule_stopped end motes pages seed s g links row v k old mid new parts e f is plays = absurd (plays (first motes row) old is (first_stands motes row old mid f))

pub format_stopped : (e : End) (motes pages seed : ℕ) (old new : List Device) → FormatEnds (Err e) motes old new → ScheduleEnds (Err e) motes pages seed old new
format_stopped ends.FlashFault motes pages seed old new h = inl h
format_stopped end motes pages seed old new h = absurd h

-- memory ran out
pub unplayed_by : (e : End) (motes pages seed : ℕ) (old new : List Device) → ◌≡◌ {A = Result (Unit {0}) End} (Err e) (Err ends.Memory) → Unplayed motes pages seed old new → ScheduleEnds (Err e) motes pages seed old new
unplayed_by e motes pages seed old new is h =
    let same : e ≡ ends.Memory = cc in
    subst (λ (x : End). ScheduleEnds (Err x) motes pages seed old new) (sym same) h

-- ---- the reading at the end

-- no memory to read them
pub read_unread : (motes pages seed : ℕ) (w : World) (initial new : List Device) → TrialRun motes pages seed w → WorldStands w initial new → Unplayed motes pages seed initial new
read_unread motes pages seed w initial new run stands =
    inr (record { begun = schedule motes pages seed; left = []; split = sym (append-nil (schedule motes pages seed)); world = w; run = run; there = stands })

-- one of the boards stopped
pub read_stopped : (motes pages seed : ℕ) (w : World) (board : ℕ) (initial old new : List Device) → TrialRun motes pages seed w → length w.sites ≡ motes → board < length w.sites → SameBoards old new → ((m : ℕ) → length w.sites ≤ m → slice_get new m ≡ slice_get old m) → ReadFlash board old new → WorldStands w initial old
    → StopsReading motes pages seed initial new
read_stopped motes pages seed w board initial old new run count known same others f b =
    record {
      last = w;
      run = run;
      stopped = board_stops motes board initial old new f.before f.after (omega (arith, known, count)) b.all f.was f.is f.stopped (same.counts board f.before f.after f.was f.is) f.cause;
      stands = λ m d inside is. chips_read w initial old new same b m d (omega (arith, inside, count)) is;
      others = λ m past. others m (omega (arith, past, count)) ∙ b.others m (omega (arith, past, count));
    }

-- ---- what is reported

pub whole_read : (pages seed : ℕ) (w : World) (reports : List Report) → 2 ≤ pages → reports ≡ final_lines w → count_by (tells_whole pages) reports ≡ wholes (row_of_seed pages seed) w
whole_read pages seed w reports some e =
    ap (λ (rs : List Report). count_by (tells_whole pages) rs) e ∙ world_told (row_of_seed pages seed) refl refl pages (page_count_is pages seed _ some) (omega arith) w

pub few_whole : (pages motes : ℕ) (w : World) (reports : List Report) → 2 ≤ pages → motes ≤ 16 → length w.sites ≡ motes → reports ≡ final_lines w → (n : ℕ) → n ≡ count_by (tells_whole pages) reports → n < 2 ^ 32
few_whole pages motes w reports some few count e n is =
    let h : n ≡ wholes (row_of_seed pages 0) w = is ∙ whole_read pages 0 w reports some e in
    let l : wholes (row_of_seed pages 0) w ≤ length w.sites = count_by-le-length (keeps_all (row_of_seed pages 0)) w.sites in
    let m : n ≤ 16 = omega (arith, h, l, count, few) in
    small n m
  where
    small : (k : ℕ) → k ≤ 16 → k < 2 ^ 32
    small k h = omega (arith, h)

-- ---- the beginning

-- the world that was made stands for the beginning, over boards that were formatted
pub linked_is : (motes : ℕ) (v : KeptWorld) (links : List (ℕ × ℕ)) (old new : List Device) → motes ≤ length old → links ≡ line_links motes → Formatted motes old new
    → ((boards : List Device) → motes ≤ length boards → ((m : ℕ) (d : Device) → m < motes → slice_get boards m ≡ Some d → Stands d.image chip) → IsWorld v boards (first_world (golden ∷ []) links none_narrow (replicate motes chip)))
    → IsWorld v new (first_world (golden ∷ []) (line_links motes) none_narrow (replicate motes chip))
linked_is motes v links old new enough e f is =
    let count = f.boards.count in
    subst (λ (ls : List (ℕ × ℕ)). IsWorld v new (first_world (golden ∷ []) ls none_narrow (replicate motes chip))) e (is new (omega (arith, count, enough)) f.stands)

-- it was stopped before the reading
pub run_stopped : (e : End) (motes pages seed : ℕ) (old new : List Device) → ScheduleEnds (Err e) motes pages seed old new → TrialOutcome (Err e) motes pages seed old new
run_stopped ends.Memory motes pages seed old new h = h
run_stopped ends.FlashFault motes pages seed old new h = ⊎_elim (λ a. inl a) (λ b. inr (inl b)) h
run_stopped end motes pages seed old new h = absurd h

-- After the schedule of a trial every mote keeps the image whole.
use Rattle.std.proofs.Common.{◌≡◌, inl, inr, lit≤, ℕ, zero, suc, ◌+◌, ◌*◌, ◌/◌, ◌%◌, ◌<◌, ◌≤◌, ◌==◌, nat_lt, Bool, true, false, if◌then◌else◌, List, [], ◌∷◌, ◌++◌, length, map, Option, Some, None, refl, ap, subst, ◌∙◌, arith}
use Rattle.std.specs.Prelude.{slice_index_or}
use Rattle.std.specs.List.{AllByRecursion}
use Rattle.std.proofs.lemmas.List.{map-append}
use Rattle.rand_pcg.specs.Lcg.{Lcg}
use Rattle.rand_pcg.specs.Pcg.{pcg32}
use Rattle.dg_object.specs.Object.{Row}
use Rattle.dg_slot.specs.Kept.{Held}
use Rattle.dg_volume.specs.Store.{held, held_whole}
use Rattle.dg_base.specs.declared.events.Event.{Event}
use Rattle.dg_base.specs.declared.events.Event.TheVariants.{Tick, Hear, Last, Inject}
use Rattle.dg_rounds.specs.Rounds.{times, sweep}
use Rattle.dg_rules.specs.World.{World, Site, site, store_at, off_site}
use Rattle.dg_rules.specs.Steps.{WorldStep}
use Rattle.dg_rules.specs.Premises.{WorldAgrees}
use Rattle.dg_script.specs.Places.{none_narrow}
use Rattle.dg_script.specs.declared.report.Report.{Report}
use Rattle.dg_completion.specs.Rests.{IsRest}
use Rattle.dg_completion.specs.Completion.{newest, page_count, pages_kept, CompletionLaw}
use Rattle.dg_completion.specs.Holders.{WithinLaw, EnoughLaw}
use Rattle.dg_seed.specs.Draws.{first_generator}
use Rattle.dg_trial.specs.Schedule.{SchedulePart, always, line_links, resets, beside, disturbed_at, disturbances, opening, schedule, sweep_count, row_of_seed}
use Rattle.dg_trial.specs.inner.Words.{cut_reset}
use Rattle.dg_trial.specs.inner.Words.{row_by}
use Rattle.dg_trial.specs.Playing.{golden, chip, first, LeadsTo}
use Rattle.dg_trial.specs.Trials.{AllKeep, WholeLaw, wholes}
use Rattle.dg_trial.proofs.RunLemmas.{leads_apart, leads_sites}
use Rattle.dg_trial.proofs.BeginLemmas.{length_first, site_first}
use Rattle.dg_trial.proofs.FitLemmas.{disturbances_fit, length-disturbances}
use Rattle.dg_trial.proofs.SummaryLemmas.{page_count_is}
use Rattle.dg_trial.proofs.MoveLemmas.{Laws, Moves, Shakes, PartShakes, ResetRun, run_moves, resets_run}
use Rattle.dg_trial.proofs.InjectionLemmas.{GoldenPlaysLaw, InjectLaw, Injected, first_agrees, trial_declared, at_most, at_least, is_injected}
use Rattle.dg_trial.proofs.RestLemmas.{newest_one, all_whole, count_whole}
use Rattle.dg_world.specs.Alone.{uncut}

-- ---- disturbances

shakes_by : (ticks lasts hears : Bool) (motes a w2 w3 sent : ℕ)
    → Shakes (if ticks then uncut (Tick a (w2 % 1024) w3) else if lasts then uncut (Last (beside motes a) a (w2 % 1024) w3) else if hears then uncut (Hear a 1 w3 (1 + w2 % (sent + 1))) else cut_reset a w2 w3)
shakes_by true lasts hears motes a w2 w3 sent = inl (refl, refl)
shakes_by false true hears motes a w2 w3 sent = inl (refl, refl)
shakes_by false false true motes a w2 w3 sent = inl (refl, refl)
shakes_by false false false motes a w2 w3 sent = inr (a, 0, w3, refl)

disturbed_shakes : (motes a kind w2 w3 sent : ℕ) → Shakes (disturbed_at motes a kind w2 w3 sent)
disturbed_shakes motes a kind w2 w3 sent = shakes_by (nat_lt kind 4) (nat_lt kind 6) (kind == 6) motes a w2 w3 sent

shaken : (motes n : ℕ) (g : Lcg) → AllByRecursion PartShakes (disturbances motes n g)
unfolding disturbances
shaken motes zero g = tt
shaken motes (suc n) g =
    let a = pcg32 g in
    let b = pcg32 a.1 in
    let c = pcg32 b.1 in
    (λ sent. disturbed_shakes motes (a.0 % motes) (a.0 / 65536 % 8) b.0 c.0 sent, shaken motes n c.1)

-- ---- a run, part by part

one_step : (w v : World) (e : Event) → LeadsTo w (always e ∷ []) v → (reports : List Report) × WorldStep w (uncut e) v reports
unfolding LeadsTo
one_step w v e run = (run.1, subst (λ (z : World). WorldStep w (uncut e) z run.1) run.3 run.2)

-- the worlds between the parts of a schedule
record Parts (motes k : ℕ) (ds : List SchedulePart) (w v : World) : Type 0 where
  begun : World
  injected : World
  shook : World
  again : World
  first_resets : LeadsTo w (map always (resets motes)) begun
  reports : List Report
  injection : WorldStep begun (uncut (Inject 0 1 1 0 0)) injected reports
  disturbed : LeadsTo injected ds shook
  last_resets : LeadsTo shook (map always (resets motes)) again
  sweeps : LeadsTo again (map always (times k (sweep (line_links motes)))) v

in_parts : (motes k : ℕ) (ds : List SchedulePart) (w v : World) → LeadsTo w (opening motes ++ (ds ++ map always (resets motes ++ times k (sweep (line_links motes))))) v → Parts motes k ds w v
in_parts motes k ds w v run =
    let rs : List SchedulePart = map always (resets motes) in
    let es : List SchedulePart = map always (times k (sweep (line_links motes))) in
    let rest : List SchedulePart = map always (resets motes ++ times k (sweep (line_links motes))) in
    let a = leads_apart w v (opening motes) (ds ++ rest) run in
    let b = leads_apart w a.0 rs (always (Inject 0 1 1 0 0) ∷ []) a.1 in
    let c = leads_apart a.0 v ds rest a.2 in
    let d = leads_apart c.0 v rs es (subst (λ (ps : List SchedulePart). LeadsTo c.0 ps v) (map-append always (resets motes) (times k (sweep (line_links motes)))) c.2) in
    let one = one_step b.0 a.0 (Inject 0 1 1 0 0) b.2 in
    record {
      begun = b.0;
      injected = a.0;
      shook = c.0;
      again = d.0;
      first_resets = b.1;
      reports = one.0;
      injection = one.1;
      disturbed = c.1;
      last_resets = d.1;
      sweeps = d.2;
    }

-- ---- the law

pub record WholeLaws : Type 0 where
  pub moving : Laws
  pub plays : GoldenPlaysLaw
  pub inject : InjectLaw
  pub within : WithinLaw
  pub enough : EnoughLaw
  pub complete : CompletionLaw
  pub swept : (ls : List (ℕ × ℕ)) (n : ℕ) → IsRest ls n (times n (sweep ls))

-- the commits of a schedule are fewer than there is room for
room_enough : (motes k c : ℕ) → motes ≤ 16 → k ≤ 79 → c ≡ 3 + k * 2424 → c + 5 * motes + 5 * (100 * motes) + 5 + 5 * motes ≤ 520223
room_enough motes k c a b e = omega (arith, a, b, e)

chip_room : 520223 ≤ chip.room
chip_room = lit≤ tt

module _ (laws : WholeLaws) (motes pages seed word : ℕ) (g : Lcg) (some : 2 ≤ motes) (few : motes ≤ 16) (some_pages : 2 ≤ pages) (few_pages : pages ≤ 65) where
  abbrev image : Row
  image = row_by pages seed word

  abbrev begin : World
  begin = first motes image

  abbrev k : ℕ
  k = sweep_count motes pages

  abbrev ds : List SchedulePart
  ds = disturbances motes (100 * motes) g

  begin_good : WorldAgrees begin
  begin_good = first_agrees laws.plays motes image few (trial_declared pages seed word few_pages)

  begin_site : (j : ℕ) → j < motes → site begin j ≡ off_site chip
  begin_site j h = site_first motes j h

  module _ (v : World) (p : Parts motes k ds begin v) where
    resets_one : ResetRun motes begin p.begun
    resets_one = resets_run laws.moving motes begin p.begun (let n = length_first motes image in omega (arith, n)) begin_good p.first_resets

    count_one : length p.begun.sites ≡ motes
    count_one = resets_one.moves.count ∙ length_first motes image

    room_one : (j c : ℕ) → j < motes → c + 5 * motes ≤ 520223 → c ≤ (store_at p.begun j).room
    room_one j c h low =
        let at : (store_at begin j).room ≡ chip.room = ap (λ (y : Site). y.store.room) (begin_site j h) in
        let have = chip_room in
        resets_one.moves.room j c (omega (arith, at, have, low))

    none_kept : held (store_at p.begun 0) 1 ≡ None
    none_kept =
        let low : 0 < motes = omega (arith, some) in
        let same : (store_at p.begun 0).kept ≡ chip.kept = resets_one.kept 0 ∙ ap (λ (y : Site). y.store.kept) (begin_site 0 low) in
        ap (λ (kept : List (Option Held)). slice_index_or kept 1 None) same

    two : Injected image.name image.bytes p.begun p.injected
    two =
        is_injected image.name image.bytes laws.moving laws.inject p.begun p.injected p.reports resets_one.moves.good (omega (arith, some, count_one)) resets_one.declared resets_one.moves.table none_kept
        (room_one 0 2 (omega (arith, some)) (omega (arith, few))) (at_least pages seed word some_pages) (at_most pages seed word few_pages) p.injection

    count_two : length p.injected.sites ≡ motes
    count_two = two.count ∙ count_one

    three : Moves (5 * length ds) p.injected p.shook
    three = run_moves laws.moving motes ds p.injected p.shook count_two two.good (disturbances_fit motes (100 * motes) g some) (shaken motes (100 * motes) g) p.disturbed

    count_three : length p.shook.sites ≡ motes
    count_three = three.count ∙ count_two

    four : ResetRun motes p.shook p.again
    four = resets_run laws.moving motes p.shook p.again (omega (arith, count_three)) three.good p.last_resets

    count_four : length p.again.sites ≡ motes
    count_four = four.moves.count ∙ count_three

    links_four : p.again.links ≡ line_links motes
    links_four = four.moves.links ∙ three.links ∙ two.links ∙ resets_one.moves.links

    narrow_four : p.again.narrow ≡ none_narrow
    narrow_four = four.moves.narrow ∙ three.narrow ∙ two.narrow ∙ resets_one.moves.narrow

    table_three : p.shook.table ≡ image ∷ golden ∷ []
    table_three = three.table ∙ two.table

    newest_in : (w : World) → w.table ≡ image ∷ golden ∷ [] → newest w.table 1 ≡ Some image
    newest_in w is = ap (λ (rs : List Row). newest rs 1) is ∙ newest_one image.name image.bytes

    whole_four : page_count image ≤ pages_kept (store_at p.again 0) image
    whole_four =
        let a = two.whole in
        let b = three.pages 0 image (newest_in p.injected two.table) in
        let c = four.moves.pages 0 image (newest_in p.shook table_three) in
        omega (arith, a, b, c)

    room_four : (j : ℕ) → j < motes → 3 + k * 2424 ≤ (store_at p.again j).room
    room_four j h =
        let many = length-disturbances motes (100 * motes) g in
        let c : ℕ = 3 + k * 2424 in
        let all = room_enough motes k c few (omega (arith, few, few_pages)) refl in
        four.moves.room j c (three.room j (c + 5 * motes) (two.room j (c + 5 * motes + 5 * length ds) (room_one j (c + 5 * motes + 5 * length ds + 5) h (omega (arith, many, all)))))

    kept_then : (m : ℕ) → m < motes → held (store_at v m) 1 ≡ Some (held_whole image)
    kept_then =
        let pages_are = page_count_is pages seed word some_pages in
        all_whole image.name image.bytes laws.within motes p.again some count_four links_four (four.moves.table ∙ table_three) narrow_four whole_four
        laws.enough laws.complete laws.moving.free laws.moving.spend laws.swept four.moves.good four.on k (omega (arith, pages_are)) v p.sweeps room_four

    whole_then : length v.sites ≡ motes → AllKeep motes image v × (wholes image v ≡ motes)
    whole_then count = (kept_then, count_whole image.name image.bytes v.sites (λ j h. kept_then j (omega (arith, h, count))) ∙ count)

pub whole_law : WholeLaws → WholeLaw
whole_law laws motes pages seed v some few some_pages few_pages run =
    let word = (pcg32 (first_generator seed)).0 in
    let g = (pcg32 (first_generator seed)).1 in
    let count = leads_sites (first motes (row_of_seed pages seed)) v (schedule motes pages seed) run ∙ length_first motes (row_of_seed pages seed) in
    whole_then laws motes pages seed word g some few some_pages few_pages v
    (in_parts motes (sweep_count motes pages) (disturbances motes (100 * motes) g) (first motes (row_of_seed pages seed)) v run) count

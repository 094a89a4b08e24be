-- The beginning of a trial: its world agrees with its table, and the injection into the first mote is not refused.
use Rattle.std.proofs.Common.{◌≡◌, inl, inr, lit<, lit≤, ℕ, ◌+◌, ◌-◌, ◌*◌, ◌%◌, ◌<◌, ◌≤◌, eqb, ltb, Bool, true, false, if◌then◌else◌, List, [], ◌∷◌, length, replicate, codes, Option, Some, None, IfSome, refl, sym, ap, subst, ◌∙◌, arith, eqb-true}
use Rattle.std.specs.List.{AllByRecursion}
use Rattle.std.proofs.lemmas.Bool.{cond_both, cases_lt, cases_eq, ltb-true}
use Rattle.std.proofs.lemmas.List.{get_or_past, get_or-set_same}
use Rattle.dg_words.specs.Cells.{AreBytes}
use Rattle.dg_words.specs.Lists.{tabulate}
use Rattle.dg_words.proofs.ListLemmas.{length-tabulate, get_or-tabulate}
use Rattle.dg_nor.specs.Trail.{last}
use Rattle.dg_object.specs.Object.{Row, row_of}
use Rattle.dg_object.proofs.RowLemmas.{length-object}
use Rattle.dg_slot.specs.Layout.{most_bytes}
use Rattle.dg_slot.specs.Kept.{Held}
use Rattle.dg_volume.specs.Store.{Store, held, held_whole}
use Rattle.dg_volume.specs.Changes.{is_version, inject_refusal, refusal_by}
use Rattle.dg_volume.specs.Trails.{inject_trail, done_of}
use Rattle.dg_volume.specs.Table.{row_at, with_row}
use Rattle.dg_volume.specs.Ends.{KeepsPagesOf, injected, inject_commits}
use Rattle.dg_volume.specs.declared.volume.InjectFault.{InjectFault}
use Rattle.dg_volume.specs.declared.volume.InjectFault.TheVariants.{Empty, TooLarge, Worn}
use Rattle.dg_script.specs.Contents.{generated, generated_byte}
use Rattle.dg_base.specs.declared.events.Event.TheVariants.{Inject}
use Rattle.dg_script.specs.Places.{none_narrow}
use Rattle.dg_script.specs.declared.report.Cause.TheVariants.{Image}
use Rattle.dg_script.specs.declared.report.Report.{Report}
use Rattle.dg_rules.specs.Sizes.{most_motes}
use Rattle.dg_rules.specs.World.{World, Site, Running, site, wide_at, store_at, with_site, counted, first_world}
use Rattle.dg_rules.specs.Events.{Does, Refuses, does, acts, knows, injects, inject_row, inject_unless}
use Rattle.dg_rules.specs.Steps.{WorldStep, StepDoes}
use Rattle.dg_rules.specs.Golden.{GoldenNetwork, network_world, PlaysGolden}
use Rattle.dg_rules.specs.Runs.{Played, Plays}
use Rattle.dg_rules.specs.Begins.{PlaysFrom}
use Rattle.dg_script.specs.Ranges.{IsDeclared}
use Rattle.dg_rules.specs.Premises.{WorldAgrees, IsHonestThen, TrueEvent}
use Rattle.dg_rules.proofs.SiteLemmas.{site_there, site_other, site_count}
use Rattle.dg_completion.specs.Completion.{page_count, pages_kept}
use Rattle.dg_trial.specs.Schedule.{line_links}
use Rattle.dg_trial.specs.inner.Words.{size_by}
use Rattle.dg_trial.specs.inner.Words.{row_by}
use Rattle.dg_trial.specs.Playing.{golden, chip, first}
use Rattle.dg_trial.proofs.BeginLemmas.{golden_is}
use Rattle.dg_trial.proofs.FitLemmas.{line_fits}
use Rattle.dg_trial.proofs.MoveLemmas.{Laws}
use Rattle.dg_world.specs.Alone.{uncut}

-- ---- what is declared

generated_bytes : (len seed : ℕ) → AreBytes (generated len seed)
unfolding generated
generated_bytes len seed k =
    elim (cases_lt k len) [
      | inl inside ↦ subst (λ (x : ℕ). x < 256) (sym (get_or-tabulate len k (generated_byte seed) 0 inside)) (omega arith)
      | inr behind ↦ subst (λ (x : ℕ). x < 256) (sym (get_or_past (tabulate len (generated_byte seed)) k 0 (omega (arith, behind, length-tabulate len (generated_byte seed))))) (omega arith)
    ]

pub length-bytes : (pages seed word : ℕ) → length (row_by pages seed word).bytes ≡ size_by pages word
unfolding generated
length-bytes pages seed word = length-tabulate (size_by pages word) (generated_byte seed)

few_bytes : (p w : ℕ) → p ≤ 65 → (p - 1) * 1104 - w % 1104 ≤ 70656
few_bytes p w h = omega (arith, h)

pub some_bytes : (p w : ℕ) → 2 ≤ p → 1 ≤ (p - 1) * 1104 - w % 1104
some_bytes p w h = omega (arith, h)

pub at_most : (pages seed word : ℕ) → pages ≤ 65 → length (row_by pages seed word).bytes ≤ 70656
at_most pages seed word few = subst (λ (n : ℕ). n ≤ 70656) (sym (length-bytes pages seed word)) (few_bytes pages word few)

pub at_least : (pages seed word : ℕ) → 2 ≤ pages → 1 ≤ length (row_by pages seed word).bytes
at_least pages seed word some = subst (λ (n : ℕ). 1 ≤ n) (sym (length-bytes pages seed word)) (some_bytes pages word some)

wider : (n : ℕ) → n ≤ 70656 → n ≤ 1048576
wider n h = omega (arith, h)

pub trial_declared : (pages seed word : ℕ) → pages ≤ 65 → IsDeclared (row_by pages seed word)
trial_declared pages seed word few = record {
  not_golden = lit≤ tt;
  image = lit≤ tt;
  version = lit≤ tt;
  version_fits = lit< tt;
  name = refl;
  fits = wider (length (row_by pages seed word).bytes) (at_most pages seed word few);
  bytes = generated_bytes (size_by pages word) seed;
}

-- ---- the first world

abbrev pub GoldenPlaysLaw : Type 0
GoldenPlaysLaw = (g : GoldenNetwork) (played : List Played) (v : World) → PlaysGolden g played v
    → AllByRecursion IsHonestThen played → PlaysFrom (network_world g) played v

plays_none : (w : World) → Plays w [] w
unfolding Plays
plays_none w = refl

pub first_agrees : GoldenPlaysLaw → (motes : ℕ) (row : Row) → motes ≤ most_motes → IsDeclared row → WorldAgrees (first motes row)
first_agrees law motes row few declared =
    let w : World = first_world (golden ∷ []) (line_links motes) none_narrow (replicate motes chip) in
    let a = (law (record { name = codes "base"; bytes = codes "A"; used = 0; motes = motes; links = line_links motes; narrow = none_narrow }) [] w (record { is_row = golden_is; plays = plays_none w; few = few; links_fit = line_fits motes motes (omega arith); ranges = tt }) tt).agrees in
    record { few = a.few; table = a.table; rows = (declared, tt); links = a.links; sites = a.sites; sent = a.sent }

-- ---- the injection

abbrev pub InjectLaw : Type 0
InjectLaw = (s : Store) (row : Row) → row.image < length s.kept → inject_refusal s row ≡ None → IfSome (held s row.image) (KeepsPagesOf row) → last (inject_trail s row) ≡ injected s row

module _ (name bytes : List ℕ) where
  abbrev pub row : Row
  row = row_of 1 1 name bytes

  not_refused_by : (s : Store) (o : Option Held) → o ≡ None → 2 ≤ s.room → refusal_by o s row ≡ None
  not_refused_by s o is room =
      ap (λ (x : Option Held). refusal_by x s row) is
      ∙ cond_both (ltb s.room 2) (Some (Worn s.room)) None (λ (f : Option InjectFault). f ≡ None) (λ low. absurd (let l = ltb-true s.room 2 low in omega (arith, l, room))) (λ _. refl)

  not_refused : (s : Store) → 1 ≤ length bytes → length bytes ≤ most_bytes → held s 1 ≡ None → 2 ≤ s.room → inject_refusal s row ≡ None
  not_refused s some few none room =
      let P : Option InjectFault → Type 0 = λ f. f ≡ None in
      let last = refusal_by (held s 1) s row in
      cond_both (eqb (length bytes) 0) (Some Empty) (if ltb most_bytes (length bytes) then Some TooLarge else last) P
      (λ is. absurd (let e = eqb-true (length bytes) 0 is in omega (arith, e, some)))
      (λ _. cond_both (ltb most_bytes (length bytes)) (Some TooLarge) last P (λ is. absurd (let l = ltb-true most_bytes (length bytes) is in omega (arith, l, few))) (λ _. not_refused_by s (held s 1) none room))

  -- From u to v the image was injected into the first mote.
  pub record Injected (u v : World) : Type 0 where
    pub good : WorldAgrees v
    pub table : v.table ≡ row ∷ golden ∷ []
    pub links : v.links ≡ u.links
    pub narrow : v.narrow ≡ u.narrow
    pub count : length v.sites ≡ length u.sites
    pub room : (j c : ℕ) → c + 5 ≤ (store_at u j).room → c ≤ (store_at v j).room
    pub whole : page_count row ≤ pages_kept (store_at v 0) row

  table_more : with_row (golden ∷ []) row ≡ row ∷ golden ∷ []
  table_more = refl

  none_there : (rows : List Row) → rows ≡ golden ∷ [] → row_at rows 1 1 ≡ None
  none_there rows is = ap (λ (rs : List Row). row_at rs 1 1) is

  true_injection : (u : World) → u.table ≡ golden ∷ [] → TrueEvent u (Inject 0 1 1 0 0)
  true_injection u table taken r kept known there = absurd (let none = none_there u.table table in cc)

  -- every mote knows image 1
  known : (wide : Bool) (does refuses : Does) → (if knows wide 1 then does else refuses) ≡ does
  known true does refuses = refl
  known false does refuses = refl

  does_inject : (u : World) → u.declared ≡ row ∷ [] → inject_refusal (store_at u 0) row ≡ None → does u (Inject 0 1 1 0 0) ≡ acts u 0 (inject_trail (store_at u 0) row) (with_row u.table row) (u.moment + 0) 0
  unfolding does
  does_inject u declared fine =
      known (wide_at u 0) (injects u 0 1 1 (u.moment + 0) 0) (Refuses Image)
      ∙ ap (λ (rows : List Row). inject_row u 0 (row_at rows 1 1) (u.moment + 0) 0) declared
      ∙ ap (λ (f : Option InjectFault). inject_unless f u 0 row (u.moment + 0) 0) fine

  module _ (laws : Laws) (law : InjectLaw) (u v : World) (reports : List Report) (good : WorldAgrees u) (there : 0 < length u.sites)
      (declared : u.declared ≡ row ∷ []) (table : u.table ≡ golden ∷ []) (none : held (store_at u 0) 1 ≡ None) (room : 2 ≤ (store_at u 0).room)
      (some : 1 ≤ length bytes) (few : length bytes ≤ most_bytes) (did : WorldStep u (uncut (Inject 0 1 1 0 0)) v reports) where
    abbrev s : Store
    s = store_at u 0

    fine : inject_refusal s row ≡ None
    fine = not_refused s some few none room

    count : 1 < length s.kept
    count = let n = (good.sites 0 there).store.count in omega (arith, n)

    no_pages : IfSome (held s 1) (KeepsPagesOf row)
    no_pages = subst (λ (o : Option Held). IfSome o (KeepsPagesOf row)) (sym none) tt

    ends : last (inject_trail s row) ≡ injected s row
    ends = law s row count fine no_pages

    abbrev mid : World
    mid = record (counted u 0) { table = with_row u.table row }

    world_is : (runs : Option Running) × (v ≡ with_site mid 0 (record { store = last (inject_trail s row); runs = runs }))
    unfolding WorldStep
    world_is =
        let e = subst (λ (D : Does). StepDoes D u (uncut (Inject 0 1 1 0 0)) v reports) (does_inject u declared fine) did in
        (e.0, e.2)

    abbrev y : Site
    y = record { store = last (inject_trail s row); runs = world_is.0 }

    here : site v 0 ≡ y
    here = ap (λ (z : World). site z 0) world_is.1 ∙ site_there mid 0 y there

    other : (j : ℕ) → (j ≡ 0 → ⊥) → site v j ≡ site u j
    other j far = ap (λ (z : World). site z j) world_is.1 ∙ site_other mid 0 j y far

    room_here : y.store.room ≡ s.room - 1
    room_here = ap (λ (t : Store). t.room) ends ∙ ap (λ (o : Option Held). s.room - inject_commits o 1) none

    held_here : held y.store 1 ≡ Some (held_whole row)
    held_here = ap (λ (t : Store). held t 1) ends ∙ get_or-set_same s.kept 1 (Some (held_whole row)) None count

    pages_here : pages_kept y.store row ≡ page_count row
    pages_here = ap (λ (o : Option Held). if is_version o 1 then done_of o else 0) held_here ∙ length-object row

    rooms : (j c : ℕ) → c + 5 ≤ (store_at u j).room → c ≤ (store_at v j).room
    rooms j c h = elim (cases_eq j 0) [
      | inl is ↦
          let a : (store_at v j).room ≡ y.store.room = ap (λ (k : ℕ). (store_at v k).room) is ∙ ap (λ (z : Site). z.store.room) here in
          let b : (store_at u j).room ≡ s.room = ap (λ (k : ℕ). (store_at u k).room) is in
          let d = room_here in omega (arith, h, a, b, d)
      | inr far ↦ let a : (store_at v j).room ≡ (store_at u j).room = ap (λ (z : Site). z.store.room) (other j far) in omega (arith, h, a)
    ]

    pub is_injected : Injected u v
    is_injected = record {
      good = laws.agrees u v (uncut (Inject 0 1 1 0 0)) reports good (record { event = (there, record { image = lit≤ tt; version = lit≤ tt }); cut = tt }) (true_injection u table) did;
      table = ap (λ (z : World). z.table) world_is.1 ∙ ap (λ (rows : List Row). with_row rows row) table ∙ table_more;
      links = ap (λ (z : World). z.links) world_is.1;
      narrow = ap (λ (z : World). z.narrow) world_is.1;
      count = ap (λ (z : World). length z.sites) world_is.1 ∙ site_count mid 0 y;
      room = rooms;
      whole = let a : pages_kept (store_at v 0) row ≡ pages_kept y.store row = ap (λ (z : Site). pages_kept z.store row) here in let b = pages_here in omega (arith, a, b);
    }

-- The last lines of a world report how many of its motes keep the image whole.
use Rattle.std.proofs.Common.{◌≡◌, lit≤, ℕ, zero, suc, ◌+◌, ◌-◌, ◌*◌, ◌%◌, ◌<◌, ◌≤◌, ◌==◌, ◌&&◌, nat_le, Bool, true, false, cond, if◌then◌else◌, List, [], ◌∷◌, length, refl, ap, sym, ◌∙◌, arith}
use Rattle.std.specs.Prelude.{Option, Some, None, slice_index_or, count_by}
use Rattle.std.specs.List.{cons_option, filter_map, flat_map, range_with_len}
use Rattle.std.proofs.lemmas.List.Sums.{sum_by-append, sum_by-cons}
use Rattle.std.proofs.lemmas.Bool.{leb-true, ne_eqb}
use Rattle.dg_words.proofs.ListLemmas.{length-tabulate}
use Rattle.dg_object.specs.Object.{Row, pages_for}
use Rattle.dg_slot.specs.Kept.{Held}
use Rattle.dg_volume.specs.Store.{Store, held}
use Rattle.dg_volume.specs.Changes.{is_version}
use Rattle.dg_volume.specs.Trails.{done_of}
use Rattle.dg_script.specs.Contents.{generated, generated_byte}
use Rattle.dg_script.specs.declared.report.Report.{Report}
use Rattle.dg_rules.specs.World.{World, Running, Site, site, no_site}
use Rattle.dg_rules.specs.Changes.{mote_line, kept_line, site_lines, final_lines}
use Rattle.dg_completion.specs.Completion.{page_count}
use Rattle.dg_trial.specs.inner.Words.{size_by}
use Rattle.dg_trial.specs.inner.Words.{row_by}
use Rattle.dg_trial.specs.Lines.{tells_whole}
use Rattle.dg_trial.specs.Trials.{wholes}
use Rattle.dg_trial.specs.inner.Words.{keeps_all}

-- how many lines of an option report a whole image
told_in : ℕ → Option Report → ℕ
told_in pages None = 0
told_in pages (Some r) = cond (tells_whole pages r) 1 0

told_cons : (pages : ℕ) (o : Option Report) (rs : List Report) → count_by (tells_whole pages) (cons_option o rs) ≡ told_in pages o + count_by (tells_whole pages) rs
unfolding told_in
told_cons pages None rs = let n = count_by (tells_whole pages) rs in let e : n ≡ 0 + n = omega arith in e
told_cons pages (Some r) rs = sum_by-cons (λ (r' : Report). cond {A = ℕ} (tells_whole pages r') 1 0) r rs

other_told : (pages m i : ℕ) (o : Option Held) → (i == 1) ≡ false → told_in pages (kept_line m i o) ≡ 0
unfolding told_in
other_told pages m i None other = refl
other_told pages m i (Some h) other = ap (λ (b : Bool). cond (b && ((h.version == 1) && nat_le pages (length h.complete))) 1 0) other

none_enough : (pages : ℕ) (b : Bool) → 1 ≤ pages → nat_le pages 0 ≡ b → b ≡ false
none_enough pages false some e = refl
none_enough pages true some e = let h : pages ≤ 0 = leb-true pages 0 e in absurd (omega (arith, h, some))

by_version : (pages n : ℕ) (b : Bool) → 1 ≤ pages → (b && nat_le pages n) ≡ nat_le pages (if b then n else 0)
by_version pages n true some = refl
by_version pages n false some = sym (none_enough pages (nat_le pages 0) some refl)

first_told : (pages m : ℕ) (o : Option Held) → 1 ≤ pages → told_in pages (kept_line m 1 o) ≡ cond (nat_le pages (if is_version o 1 then done_of o else 0)) 1 0
unfolding told_in
first_told pages m None some = ap (λ (b : Bool). cond {A = ℕ} b 1 0) (sym (none_enough pages (nat_le pages 0) some refl))
first_told pages m (Some h) some = ap (λ (b : Bool). cond {A = ℕ} b 1 0) (by_version pages (length h.complete) (h.version == 1) some)

not_one : (i : ℕ) → 2 ≤ i → (i == 1) ≡ false
not_one i low = ne_eqb i 1 (λ e. let f : i ≡ 1 = e in omega (arith, f, low))

-- the lines on the other images report nothing of it
others_told : (pages m : ℕ) (s : Store) (i n : ℕ) → 2 ≤ i → ◌≡◌ {A = ℕ} (count_by (tells_whole pages) (filter_map (λ j. kept_line m j (held s j)) (range_with_len i n))) 0
others_told pages m s i zero low = refl
others_told pages m s i (suc n) low =
    let k : ℕ → Option Report = λ j. kept_line m j (held s j) in
    let a = told_cons pages (k i) (filter_map k (range_with_len (i + 1) n)) in
    let b = other_told pages m i (held s i) (not_one i low) in
    let c = others_told pages m s (i + 1) n (omega (arith, low)) in
    omega (arith, a, b, c)

mote_untold : (pages m : ℕ) (r : Option Running) → tells_whole pages (mote_line m r) ≡ false
mote_untold pages m None = refl
mote_untold pages m (Some r) = refl

module _ (row : Row) (image : row.image ≡ 1) (version : row.version ≡ 1) (pages : ℕ) (count : page_count row ≡ pages) (some : 1 ≤ pages) where
  keeps_is : (x : Site) → keeps_all row x ≡ nat_le pages (if is_version (held x.store 1) 1 then done_of (held x.store 1) else 0)
  keeps_is x =
      let f : ℕ → ℕ → ℕ → Bool = λ p i v. nat_le p (if is_version (held x.store i) v then done_of (held x.store i) else 0) in
      ap (λ (p : ℕ). f p row.image row.version) count ∙ ap (λ (i : ℕ). f pages i row.version) image ∙ ap (λ (v : ℕ). f pages 1 v) version

  site_told : (m : ℕ) (x : Site) → count_by (tells_whole pages) (site_lines m x) ≡ cond (keeps_all row x) 1 0
  site_told m x =
      let k : ℕ → Option Report = λ i. kept_line m i (held x.store i) in
      let all : ℕ = count_by (tells_whole pages) (filter_map k (range_with_len 1 6)) in
      let others : ℕ = count_by (tells_whole pages) (filter_map k (range_with_len 2 5)) in
      let whole : ℕ = cond (nat_le pages (if is_version (held x.store 1) 1 then done_of (held x.store 1) else 0)) 1 0 in
      let g : ◌≡◌ {A = ℕ} (cond (tells_whole pages (mote_line m x.runs)) 1 0) 0 = ap (λ (b : Bool). cond {A = ℕ} b 1 0) (mote_untold pages m x.runs) in
      let h : all ≡ whole =
      told_cons pages (k 1) (filter_map k (range_with_len 2 5)) ∙ ap (λ (n : ℕ). n + others) (first_told pages m (held x.store 1) some)
      ∙ ap (λ (n : ℕ). whole + n) (others_told pages m x.store 2 5 (lit≤ tt)) ∙ (let e : whole + 0 ≡ whole = omega arith in e) in
      let i : count_by (tells_whole pages) (site_lines m x) ≡ all =
      sum_by-cons (λ (r' : Report). cond {A = ℕ} (tells_whole pages r') 1 0) (mote_line m x.runs) (filter_map k (range_with_len 1 6))
      ∙ ap (λ (n : ℕ). n + all) g ∙ (let e : 0 + all ≡ all = omega arith in e) in
      i ∙ h ∙ ap (λ (b : Bool). cond {A = ℕ} b 1 0) (sym (keeps_is x))

  sites_told : (F : ℕ → Site) (a : ℕ) (xs : List Site) → ((k : ℕ) → k < length xs → F (a + k) ≡ slice_index_or xs k no_site) → count_by (tells_whole pages) (flat_map (λ m. site_lines m (F m)) (range_with_len a (length xs))) ≡ count_by (keeps_all row) xs
  sites_told F a [] same = refl
  sites_told F a (x ∷ xs) same =
      let here : F a ≡ x = ap F (let e : a ≡ a + 0 = omega arith in e) ∙ same 0 (omega arith) in
      let next : (k : ℕ) → k < length xs → F (a + 1 + k) ≡ slice_index_or xs k no_site = λ k h. ap F (let e : a + 1 + k ≡ a + suc k = omega arith in e) ∙ same (suc k) (omega arith) in
      let rest = sites_told F (a + 1) xs next in
      let lines : List Report = flat_map (λ m. site_lines m (F m)) (range_with_len (a + 1) (length xs)) in
      let all = sum_by-append (λ (r : Report). cond (tells_whole pages r) 1 0) (site_lines a (F a)) lines in
      let one : count_by (tells_whole pages) (site_lines a (F a)) ≡ cond (keeps_all row x) 1 0 = site_told a (F a) ∙ ap (λ (y : Site). cond (keeps_all row y) 1 0) here in
      all ∙ ap (λ (n : ℕ). n + count_by (tells_whole pages) lines) one ∙ ap (λ (n : ℕ). cond (keeps_all row x) 1 0 + n) rest ∙ sym (sum_by-cons (λ (y : Site). cond {A = ℕ} (keeps_all row y) 1 0) x xs)

  -- as many lines report it as motes keep all pages
  pub world_told : (w : World) → count_by (tells_whole pages) (final_lines w) ≡ wholes row w
  world_told w = sites_told (λ m. site w m) 0 w.sites (λ k h. ap (λ (n : ℕ). site w n) (let e : 0 + k ≡ k = omega arith in e))

-- the pages of the image of a trial
pub page_count_is : (pages seed word : ℕ) → 2 ≤ pages → page_count (row_by pages seed word) ≡ pages
unfolding generated
page_count_is pages seed word some =
    let size = size_by pages word in
    let e : length (generated size seed) ≡ size = length-tabulate size (generated_byte seed) in
    ap pages_for e ∙ counts (pages - 1) word (omega arith) ∙ (let f : 1 + (pages - 1) ≡ pages = omega arith in f)
  where
    counts : (n w : ℕ) → 1 ≤ n → pages_for (n * 1104 - w % 1104) ≡ 1 + n
    counts n w some = omega arith

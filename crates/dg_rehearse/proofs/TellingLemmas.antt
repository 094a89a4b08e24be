-- What the last lines of a world say of each mote.
use Rattle.std.proofs.Common.{◌≡◌, ◌⊎◌, ⊎_elim, inl, inr, ℕ, zero, suc, ◌+◌, ◌-◌, ◌==◌, ◌&&◌, ◌||◌, Bool, true, false, List, length, Option, Some, None, refl, sym, subst, ◌∙◌, eqb-true}
use Rattle.std.specs.Prelude.{IsSomeAnd}
use Rattle.std.specs.List.{list_any, flat_map, filter_map, cons_option, range_with_len}
use Rattle.std.proofs.lemmas.Bool.{and_parts}
use Rattle.std.proofs.lemmas.List.Folds.{list_any-append}
use Rattle.dg_slot.specs.Kept.{Held}
use Rattle.dg_volume.specs.Sizes.{images}
use Rattle.dg_volume.specs.Store.{held}
use Rattle.dg_script.specs.declared.report.Report.{Report}
use Rattle.dg_rules.specs.Changes.{mote_line, kept_line, site_lines, final_lines}
use Rattle.dg_rules.specs.World.{World, Running, Site, site, store_at}
use Rattle.dg_rehearse.specs.Ended.{tells_kept, tells_on}

either : (a b : Bool) → (a || b) ≡ true → (a ≡ true) ⊎ (b ≡ true)
either true b h = inl refl
either false b h = inr h

not_both : (a : Bool) → a ≡ false → a ≡ true → ⊥
not_both true e h = cc
not_both false e h = cc

-- ---- lines among others

in_flat : (P : Report → Bool) (F : ℕ → List Report) (a n : ℕ) → list_any P (flat_map F (range_with_len a n)) ≡ true → (k : ℕ) × (list_any P (F k) ≡ true)
in_flat P F a zero h = absurd cc
in_flat P F a (suc n) h =
    ⊎_elim (λ here. (a, here)) (λ there. in_flat P F (a + 1) n there)
    (either (list_any P (F a)) (list_any P (flat_map F (range_with_len (a + 1) n))) (sym (list_any-append P (F a) (flat_map F (range_with_len (a + 1) n))) ∙ h))

in_option : (P : Report → Bool) (o : Option Report) (rs : List Report) → list_any P (cons_option o rs) ≡ true → IsSomeAnd o (λ r. P r ≡ true) ⊎ (list_any P rs ≡ true)
in_option P None rs h = inr h
in_option P (Some r) rs h = either (P r) (list_any P rs) h

in_filter : (P : Report → Bool) (f : ℕ → Option Report) (a n : ℕ) → list_any P (filter_map f (range_with_len a n)) ≡ true → (k : ℕ) × IsSomeAnd (f k) (λ r. P r ≡ true)
in_filter P f a zero h = absurd cc
in_filter P f a (suc n) h = ⊎_elim (λ here. (a, here)) (λ there. in_filter P f (a + 1) n there) (in_option P (f a) (filter_map f (range_with_len (a + 1) n)) h)

-- ---- what is kept

module _ (m image version pages : ℕ) where
  abbrev KeptP : Report → Bool
  KeptP = tells_kept m image version pages

  abbrev IsHeld : Option Held → Type 0
  IsHeld o = IsSomeAnd o (λ h. (h.version ≡ version) × (length h.complete ≡ pages))

  unkept : (k : ℕ) (r : Option Running) → KeptP (mote_line k r) ≡ false
  unkept k None = refl
  unkept k (Some r) = refl

  kept_by : (k i : ℕ) (o : Option Held) → IsSomeAnd (kept_line k i o) (λ r. KeptP r ≡ true) → (k ≡ m) × (i ≡ image) × IsHeld o
  kept_by k i None h = absurd h
  kept_by k i (Some x) h =
      let a = and_parts (k == m) ((i == image) && ((x.version == version) && (length x.complete == pages))) h in
      let b = and_parts (i == image) ((x.version == version) && (length x.complete == pages)) a.1 in
      let c = and_parts (x.version == version) (length x.complete == pages) b.1 in
      (eqb-true k m a.0, eqb-true i image b.0, (eqb-true x.version version c.0, eqb-true (length x.complete) pages c.1))

  kept_site : (k : ℕ) (x : Site) → list_any KeptP (site_lines k x) ≡ true → (k ≡ m) × IsHeld (held x.store image)
  kept_site k x h =
      let lines : List Report = filter_map (λ i. kept_line k i (held x.store i)) (range_with_len 1 (images - 1)) in
      let rest : list_any KeptP lines ≡ true = ⊎_elim (λ here. absurd (not_both (KeptP (mote_line k x.runs)) (unkept k x.runs) here)) (λ there. there) (either (KeptP (mote_line k x.runs)) (list_any KeptP lines) h) in
      let one = in_filter KeptP (λ i. kept_line k i (held x.store i)) 1 (images - 1) rest in
      let is = kept_by k one.0 (held x.store one.0) one.1 in
      (is.0, subst (λ (i : ℕ). IsHeld (held x.store i)) is.1 is.2)

  pub kept_there : (w : World) → list_any KeptP (final_lines w) ≡ true → IsHeld (held (store_at w m) image)
  kept_there w h =
      let one = in_flat KeptP (λ k. site_lines k (site w k)) 0 (length w.sites) h in
      let is = kept_site one.0 (site w one.0) one.1 in
      subst (λ (k : ℕ). IsHeld (held (store_at w k) image)) is.0 is.1

-- ---- what runs

module _ (m image version : ℕ) where
  abbrev OnP : Report → Bool
  OnP = tells_on m image version

  abbrev IsRun : Option Running → Type 0
  IsRun o = IsSomeAnd o (λ r. (r.image_version.image ≡ image) × (r.image_version.version ≡ version))

  not_kept : (k i : ℕ) (o : Option Held) → IsSomeAnd (kept_line k i o) (λ r. OnP r ≡ true) → ⊥
  not_kept k i None h = h
  not_kept k i (Some x) h = cc

  runs_by : (k : ℕ) (o : Option Running) → OnP (mote_line k o) ≡ true → (k ≡ m) × IsRun o
  runs_by k None h = absurd cc
  runs_by k (Some r) h =
      let a = and_parts (k == m) ((r.image_version.image == image) && (r.image_version.version == version)) h in
      let b = and_parts (r.image_version.image == image) (r.image_version.version == version) a.1 in
      (eqb-true k m a.0, (eqb-true r.image_version.image image b.0, eqb-true r.image_version.version version b.1))

  runs_site : (k : ℕ) (x : Site) → list_any OnP (site_lines k x) ≡ true → (k ≡ m) × IsRun x.runs
  runs_site k x h =
      let lines : List Report = filter_map (λ i. kept_line k i (held x.store i)) (range_with_len 1 (images - 1)) in
      ⊎_elim (λ here. runs_by k x.runs here)
      (λ there. let one = in_filter OnP (λ i. kept_line k i (held x.store i)) 1 (images - 1) there in absurd (not_kept k one.0 (held x.store one.0) one.1))
      (either (OnP (mote_line k x.runs)) (list_any OnP lines) h)

  pub runs_there : (w : World) → list_any OnP (final_lines w) ≡ true → IsRun (site w m).runs
  runs_there w h =
      let one = in_flat OnP (λ k. site_lines k (site w k)) 0 (length w.sites) h in
      let is = runs_site one.0 (site w one.0) one.1 in
      subst (λ (k : ℕ). IsRun (site w k).runs) is.0 is.1

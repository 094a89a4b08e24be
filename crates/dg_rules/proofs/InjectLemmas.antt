-- What an injection keeps on its trail, and what it leaves.
use Rattle.std.proofs.Common.{◌≡◌, ℕ, ◌+◌, ◌<◌, ◌≤◌, true, false, List, [], ◌∷◌, take, drop, length, Option, Some, None, option_map, IfSome, refl, sym, ap, subst, ◌∙◌, inl, inr, ⊎_elim, arith, eqb-true, ltb-false}
use Rattle.std.proofs.lemmas.Bool.{cond_both, eqb-false, cases_eq}
use Rattle.std.proofs.lemmas.Bool.Decides.{nat_tests}
use Rattle.std.proofs.lemmas.List.{length_push, length-set, length-drop, length-take, set-set, set-get_or, get_or-set_same}
use Rattle.std.specs.Prelude.{◌==◌, nat_lt, slice_set}
use Rattle.dg_words.proofs.ListLemmas.{length-tabulate}
use Rattle.dg_nor.specs.Trail.{Trail, last, joined, resting, stepping}
use Rattle.dg_nor.specs.Through.{Through}
use Rattle.dg_nor.proofs.TrailLemmas.{last-joined, last-resting, last-stepping}
use Rattle.dg_nor.proofs.ThroughLemmas.{Through-joined, Through-resting, Through-stepping, Through-last}
use Rattle.dg_control.specs.Store.{commit_operations}
use Rattle.dg_object.specs.Object.{Row, Outline, object, profile, pages_for, page_of_row}
use Rattle.dg_slot.specs.Layout.{page_operations, most_bytes}
use Rattle.dg_slot.specs.Kept.{Held, held_begun, with_page}
use Rattle.dg_volume.specs.Store.{Store, held}
use Rattle.dg_volume.specs.Changes.{spent, keeping, paged, is_version, inject_refusal, refusal_by}
use Rattle.dg_volume.specs.Trails.{committing, drop_by, drop_trail, open_trail, take_trail, fill_trail, inject_by, inject_trail, done_of}
use Rattle.dg_volume.specs.Table.{row_at}
use Rattle.dg_volume.specs.Agreement.{KeepsRow, Agrees}
use Rattle.dg_volume.specs.declared.volume.InjectFault.{InjectFault}
use Rattle.dg_volume.specs.declared.volume.InjectFault.TheVariants.{Empty, TooLarge, Reserved, Stale}
use Rattle.dg_volume.proofs.FillLemmas.{fill_first}
use Rattle.dg_rules.specs.Small.{Holding, holding, whole}
use Rattle.dg_rules.specs.Legal.{MayInject, CutHolding}

-- only what is kept of the row's image differs
pub record OnInject (s : Store) (row : Row) (t : Store) : Type 0 where
  pub here : Option Held
  pub kept : t.kept ≡ slice_set s.kept row.image here
  pub app : t.app ≡ s.app
  pub order : t.order ≡ s.order
  pub gesture : t.gesture ≡ s.gesture
  pub room : t.room ≤ s.room
  pub how : CutHolding (option_map holding (held s row.image)) row (option_map holding here)

cut_same : (o : Option Holding) (row : Row) → CutHolding o row o
cut_same None row = inl refl
cut_same (Some h) row = inl refl

same_held : (a b : Held) → Some a ≡ Some b → a ≡ b
same_held a b e = cc

same_holding : (a b : Holding) → Some a ≡ Some b → a ≡ b
same_holding a b e = cc

module _ (s0 : Store) (row : Row) where
  abbrev W : Store → Type 0
  W = OnInject s0 row

  abbrev Old : Option Holding
  Old = option_map holding (held s0 row.image)

  -- this version was kept with no more pages
  abbrev Grows : ℕ → Type 0
  Grows n = (g : Holding) → Old ≡ Some g → g.version ≡ row.version → g.pages ≤ n

  inject_begin : W s0
  inject_begin = record { here = held s0 row.image; kept = sym (set-get_or s0.kept row.image None); app = refl; order = refl; gesture = refl; room = omega arith; how = cut_same Old row }

  inject_next : (s t : Store) (o : Option Held) → t.kept ≡ slice_set s.kept row.image o → t.app ≡ s.app → t.order ≡ s.order → t.gesture ≡ s.gesture → t.room ≤ s.room
      → CutHolding Old row (option_map holding o) → W s → W t
  inject_next s t o kept app order gesture room how w = record {
    here = o;
    kept = kept ∙ ap (λ (xs : List (Option Held)). slice_set xs row.image o) w.kept ∙ set-set s0.kept row.image w.here o;
    app = app ∙ w.app;
    order = order ∙ w.order;
    gesture = gesture ∙ w.gesture;
    room = omega (arith, room, w.room);
    how = how;
  }

  within_way : (t : Store) → row.image < length s0.kept → W t → row.image < length t.kept
  within_way t within w = let e : length t.kept ≡ length s0.kept = ap length w.kept ∙ length-set s0.kept row.image w.here in omega (arith, e, within)

  -- ---- a take

  -- what is kept is older
  abbrev Older : Type 0
  Older = (h : Held) → held s0 row.image ≡ Some h → h.version < row.version

  grows_older : Older → (n : ℕ) → Grows n
  grows_older older n g e same = older_grows (held s0 row.image) refl e
    where
      older_grows : (o : Option Held) → held s0 row.image ≡ o → option_map holding o ≡ Some g → g.pages ≤ n
      older_grows None is some = cc
      older_grows (Some h) is some =
          let low : h.version < row.version = older h is in
          let at : h.version ≡ g.version = ap (λ (x : Holding). x.version) (same_holding (holding h) g some) in
          absurd (omega (arith, low, at, same))

  none_how : Older → (h : Held) → held s0 row.image ≡ Some h → CutHolding Old row None
  none_how older h is = inr (holding h, ap (option_map holding) is, older h is)

  drop_way : (o : Option Held) → held s0 row.image ≡ o → Older → Through W (drop_by o s0 row.image)
  drop_way None is older = Through-resting W s0 0 inject_begin
  drop_way (Some h) is older =
      Through-stepping W s0 (commit_operations s0.room) (keeping row.image None (spent s0)) inject_begin
      (inject_next s0 (keeping row.image None (spent s0)) None refl refl refl refl (omega arith) (none_how older h is) inject_begin)

  open_way : (s : Store) → Older → W s → Through W (open_trail s (profile row))
  open_way s older w =
      let next = keeping row.image (Some (held_begun (profile row))) (spent s) in
      Through-joined W (resting s 2) (committing s next) (Through-resting W s 2 w)
      (Through-stepping W s (commit_operations s.room) next w
      (inject_next s next (Some (held_begun (profile row))) refl refl refl refl (omega arith) (inr (refl, grows_older older 0)) w))

  take_way : Older → Through W (take_trail s0 (profile row))
  unfolding take_trail drop_trail
  take_way older =
      let t = drop_by (held s0 row.image) s0 row.image in
      let first = drop_way (held s0 row.image) refl older in
      Through-joined W t (open_trail (last t) (profile row)) first (open_way (last t) older (Through-last W t first))

  -- ---- pages that are filled

  pushed : (h : Held) (page : List ℕ) → length (with_page h page).complete ≡ length h.complete + 1
  pushed h page = length_push h.complete page

  paged_way : (s : Store) (h : Held) (page : List ℕ) → held s row.image ≡ Some h → h.version ≡ row.version → Grows (length h.complete) → W s → W (paged row.image page s)
  paged_way s h page is version grows w =
      let o = option_map (λ (x : Held). with_page x page) (held s row.image) in
      let here : o ≡ Some (with_page h page) = ap (option_map (λ (x : Held). with_page x page)) is in
      let more = pushed h page in
      inject_next s (paged row.image page s) o refl refl refl refl (omega arith)
      (subst (λ (x : Option Held). CutHolding Old row (option_map holding x)) (sym here) (inr (version, λ g e v. let low = grows g e v in omega (arith, low, more)))) w

  paged_here : (s : Store) (h : Held) (page : List ℕ) → row.image < length s.kept → held s row.image ≡ Some h → held (paged row.image page s) row.image ≡ Some (with_page h page)
  paged_here s h page within is =
      get_or-set_same s.kept row.image (option_map (λ (x : Held). with_page x page) (held s row.image)) None within ∙ ap (option_map (λ (x : Held). with_page x page)) is

  fill_way : (pages : List (List ℕ)) (s : Store) (h : Held) → row.image < length s0.kept → held s row.image ≡ Some h → h.version ≡ row.version → Grows (length h.complete) → W s → Through W (fill_trail s row.image pages)
  unfolding fill_trail
  fill_way [] s h within is version grows w = Through-resting W s 0 w
  fill_way (page ∷ pages) s h within is version grows w =
      let next = paged row.image page s in
      let step = paged_way s h page is version grows w in
      let more = pushed h page in
      Through-joined W (stepping s page_operations next) (fill_trail next row.image pages)
      (Through-stepping W s page_operations next w step)
      (fill_way pages next (with_page h page) within (paged_here s h page (within_way s within w) is) version (λ g e v. let low = grows g e v in omega (arith, low, more)) step)

  -- what is kept when all are filled
  record IsFilled (t : Store) (n : ℕ) : Type 0 where
    pub kept : Held
    pub here : held t row.image ≡ Some kept
    pub version : kept.version ≡ row.version
    pub many : length kept.complete ≡ n

  fill_last : (pages : List (List ℕ)) (s : Store) (h : Held) → row.image < length s.kept → held s row.image ≡ Some h → h.version ≡ row.version → IsFilled (last (fill_trail s row.image pages)) (length h.complete + length pages)
  unfolding fill_trail
  fill_last [] s h within is version =
      record { kept = h; here = ap (λ (x : Store). held x row.image) (last-resting s 0) ∙ is; version = version; many = omega arith }
  fill_last (page ∷ pages) s h within is version =
      let next = paged row.image page s in
      let rest = fill_trail next row.image pages in
      let one = stepping s page_operations next in
      let at : last (joined one rest) ≡ last rest = last-joined one rest (last-stepping s page_operations next ∙ sym (fill_first next row.image pages)) in
      let count : length next.kept ≡ length s.kept = length-set s.kept row.image (option_map (λ (x : Held). with_page x page) (held s row.image)) in
      let f = fill_last pages next (with_page h page) (omega (arith, within, count)) (paged_here s h page within is) version in
      let more = pushed h page in
      record { kept = f.kept; here = ap (λ (x : Store). held x row.image) at ∙ f.here; version = f.version; many = let m = f.many in omega (arith, m, more) }

-- ---- what is not refused

pub refused_not : (s : Store) (row : Row) → inject_refusal s row ≡ None → (1 ≤ row.image) × (refusal_by (held s row.image) s row ≡ None)
refused_not s row e =
    let P : Option InjectFault → Type 0 = λ o. o ≡ None → (1 ≤ row.image) × (refusal_by (held s row.image) s row ≡ None) in
    cond_both (length row.bytes == 0) (Some Empty) _ P (λ _ f. absurd (fault_none Empty f))
    (λ _. cond_both (nat_lt most_bytes (length row.bytes)) (Some TooLarge) _ P (λ _ f. absurd (fault_none TooLarge f))
    (λ _. cond_both (row.image == 0) (Some Reserved) (refusal_by (held s row.image) s row) P (λ _ f. absurd (fault_none Reserved f))
    (λ test f. let low : 1 ≤ row.image = grind (arith, nat_tests) in (low, f))))
    e
  where
    fault_none : (x : InjectFault) → Some x ≡ None → ⊥
    fault_none x f = cc

not_newer : (o : Option Held) (s : Store) (row : Row) (h : Held) → refusal_by o s row ≡ None → o ≡ Some h → h.version ≤ row.version
not_newer None s row h none is = cc
not_newer (Some g) s row h none is =
    subst (λ (x : Held). x.version ≤ row.version) (same_held g h is)
    (cond_both (nat_lt row.version g.version) (Some (Stale g.version)) _ (λ (o : Option InjectFault). o ≡ None → g.version ≤ row.version) (λ _ f. cc) (λ low f. ltb-false row.version g.version low) none)

module _ (table : List Row) (s : Store) (row : Row) (in_table : row_at table row.image row.version ≡ Some row) (within : row.image < length s.kept) (agrees : Agrees table s) (fits : inject_refusal s row ≡ None) where
  keeps_by : (h : Held) → held s row.image ≡ Some h → KeepsRow table row.image h
  keeps_by h here = subst (λ (x : Option Held). IfSome x (KeepsRow table row.image)) here (agrees.kept row.image)

  object_count : length (object row) ≡ pages_for (length row.bytes)
  object_count = length-tabulate (pages_for (length row.bytes)) (page_of_row row)

  few_pages : (h : Held) → held s row.image ≡ Some h → h.version ≡ row.version → length h.complete ≤ length (object row)
  few_pages h here version =
      let k = keeps_by h here in
      let same : k.row ≡ row = same_row k.row row (sym k.in_table ∙ ap (row_at table row.image) version ∙ in_table) in
      let n = length h.complete in
      let e : n ≡ Rattle.std.specs.Prelude.min n (length (object row)) = ap length (k.first ∙ ap (λ (r : Row). take n (object r)) same) ∙ length-take n (object row) in
      omega (arith, e)
    where
      same_row : (a b : Row) → Some a ≡ Some b → a ≡ b
      same_row a b e = cc

  pub may_inject : MayInject (option_map holding (held s row.image)) row
  may_inject = may_by (held s row.image) refl
    where
      may_by : (o : Option Held) → held s row.image ≡ o → MayInject (option_map holding o) row
      may_by None here = tt
      may_by (Some h) here =
          ⊎_elim
          (λ same. let few = few_pages h here same in inr (same, omega (arith, few, object_count)))
          (λ other. let low = not_newer (held s row.image) s row h (refused_not s row fits).1 here in inl (omega (arith, low, other)))
          (cases_eq h.version row.version)

  -- ---- the image is kept already

  kept_grows : (h : Held) → held s row.image ≡ Some h → Grows s row (length h.complete)
  kept_grows h here g e v = let at : length h.complete ≡ g.pages = ap (λ (x : Holding). x.pages) (same_holding (holding h) g (sym (ap (option_map holding) here) ∙ e)) in omega (arith, at)

  kept_way : (o : Option Held) → held s row.image ≡ o → is_version o row.version ≡ true → Through (OnInject s row) (fill_trail s row.image (drop (done_of o) (object row)))
  kept_way None here is = cc
  kept_way (Some h) here is =
      fill_way s row (drop (length h.complete) (object row)) s h within here (eqb-true h.version row.version is) (kept_grows h here) (inject_begin s row)

  kept_last : (o : Option Held) → held s row.image ≡ o → is_version o row.version ≡ true → IsFilled s row (last (fill_trail s row.image (drop (done_of o) (object row)))) (length (object row))
  kept_last None here is = cc
  kept_last (Some h) here is =
      let version : h.version ≡ row.version = eqb-true h.version row.version is in
      let few = few_pages h here version in
      let rest = length-drop (length h.complete) (object row) in
      let all : length h.complete + length (drop (length h.complete) (object row)) ≡ length (object row) = omega (arith, few, rest) in
      subst (IsFilled s row (last (fill_trail s row.image (drop (length h.complete) (object row))))) all (fill_last s row (drop (length h.complete) (object row)) s h within here version)

  -- ---- the slot is taken first

  older_by : is_version (held s row.image) row.version ≡ false → Older s row
  older_by other h here =
      let low = not_newer (held s row.image) s row h (refused_not s row fits).1 here in
      let apart : (h.version == row.version) ≡ false = ap (λ (o : Option Held). is_version o row.version) (sym here) ∙ other in
      let differs : h.version ≡ row.version → ⊥ = eqb-false h.version row.version apart in
      omega (arith, low, differs)

  open_last : (x : Store) (p : Outline) → last (open_trail x p) ≡ keeping p.image (Some (held_begun p)) (spent x)
  open_last x p =
      let next = keeping p.image (Some (held_begun p)) (spent x) in
      last-joined (resting x 2) (committing x next) (last-resting x 2) ∙ last-stepping x (commit_operations x.room) next

  open_first : (x : Store) (p : Outline) → (open_trail x p).first ≡ x
  unfolding joined
  open_first x p = refl

  take_here : held (last (take_trail s (profile row))) row.image ≡ Some (held_begun (profile row))
  unfolding take_trail drop_trail Rattle.dg_nor.specs.Trail.last_of
  take_here =
      let t = drop_by (held s row.image) s row.image in
      let p = profile row in
      let at : last (joined t (open_trail (last t) p)) ≡ keeping row.image (Some (held_begun p)) (spent (last t)) = last-joined t (open_trail (last t) p) (sym (open_first (last t) p)) ∙ open_last (last t) p in
      ap (λ (x : Store). held x row.image) at ∙ get_or-set_same (last t).kept row.image (Some (held_begun p)) None (count (held s row.image))
    where
      count : (o : Option Held) → row.image < length (last (drop_by o s row.image)).kept
      count None = within
      count (Some h) = let e = length-set s.kept row.image None in omega (arith, e, within)

  new_way : Older s row → Through (OnInject s row) (joined (take_trail s (profile row)) (fill_trail (last (take_trail s (profile row))) row.image (object row)))
  new_way older =
      let t = take_trail s (profile row) in
      let first = take_way s row older in
      Through-joined (OnInject s row) t (fill_trail (last t) row.image (object row)) first
      (fill_way s row (object row) (last t) (held_begun (profile row)) within take_here refl (grows_older s row older 0) (Through-last (OnInject s row) t first))

  new_last : Older s row → IsFilled s row (last (joined (take_trail s (profile row)) (fill_trail (last (take_trail s (profile row))) row.image (object row)))) (length (object row))
  new_last older =
      let t = take_trail s (profile row) in
      let u = fill_trail (last t) row.image (object row) in
      let at : last (joined t u) ≡ last u = last-joined t u (sym (fill_first (last t) row.image (object row))) in
      let w = Through-last (OnInject s row) t (take_way s row older) in
      let f = fill_last s row (object row) (last t) (held_begun (profile row)) (within_way s row (last t) within w) take_here refl in
      record { kept = f.kept; here = ap (λ (x : Store). held x row.image) at ∙ f.here; version = f.version; many = let m = f.many in omega (arith, m) }

  -- ---- an injection

  inject_unfold : inject_trail s row ≡ inject_by None s row
  unfolding inject_trail
  inject_unfold = ap (λ (o : Option InjectFault). inject_by o s row) fits

  pub inject_way : Through (OnInject s row) (inject_trail s row)
  inject_way =
      subst (Through (OnInject s row)) (sym inject_unfold)
      (cond_both (is_version (held s row.image) row.version)
      (fill_trail s row.image (drop (done_of (held s row.image)) (object row)))
      (joined (take_trail s (profile row)) (fill_trail (last (take_trail s (profile row))) row.image (object row)))
      (Through (OnInject s row))
      (λ version. kept_way (held s row.image) refl version) (λ other. new_way (older_by other)))

  filled_here : IsFilled s row (last (inject_trail s row)) (length (object row))
  filled_here =
      subst (λ (t : Trail Store). IsFilled s row (last t) (length (object row))) (sym inject_unfold)
      (cond_both (is_version (held s row.image) row.version)
      (fill_trail s row.image (drop (done_of (held s row.image)) (object row)))
      (joined (take_trail s (profile row)) (fill_trail (last (take_trail s (profile row))) row.image (object row)))
      (λ (t : Trail Store). IsFilled s row (last t) (length (object row)))
      (λ version. kept_last (held s row.image) refl version) (λ other. new_last (older_by other)))

  -- the store then
  pub inject_way_last : OnInject s row (last (inject_trail s row))
  inject_way_last = Through-last (OnInject s row) (inject_trail s row) inject_way

  -- all pages are kept then
  pub inject_whole : option_map holding (inject_way_last).here ≡ Some (whole row)
  inject_whole =
      let f = filled_here in
      let w = inject_way_last in
      let here : w.here ≡ Some f.kept = sym (ap (λ (xs : List (Option Held)). Rattle.std.specs.Prelude.slice_index_or xs row.image None) w.kept ∙ get_or-set_same s.kept row.image w.here None within) ∙ f.here in
      ap (option_map holding) here ∙ ap (λ (h : Holding). Some h) (same_whole f.kept f.version (f.many ∙ object_count))
    where
      same_whole : (h : Held) → h.version ≡ row.version → length h.complete ≡ pages_for (length row.bytes) → holding h ≡ whole row
      same_whole h version many i = record { version = version i; pages = many i }

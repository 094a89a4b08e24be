-- Enough sweeps complete every image, the lowest first.
use Rattle.std.proofs.Common.{◌≡◌, ℕ, zero, suc, ◌+◌, ◌-◌, ◌<◌, ◌≤◌, min, Bool, true, false, ◌&&◌, ◌||◌, cond, eqb, leb, ltb, List, [], ◌∷◌, ◌++◌, length, take, Option, Some, None, IfSome, refl, sym, ap, subst, ◌∙◌, inl, inr, arith, append_assoc}
use Rattle.std.proofs.lemmas.Bool.{eq-eqb, ne_eqb, le-leb, leb-true, lt-ltb, ltb-true, and_parts, and_from, or_cases, or_right, cases_Bool, cases_lt, cases_eq}
use Rattle.std.proofs.lemmas.List.{take_all}
use Rattle.std.specs.List.{AllByRecursion, list_any, find, range_with_len}
use Rattle.dg_words.proofs.ListLemmas.{length-tabulate}
use Rattle.dg_object.specs.Object.{Row, object, profile, page_of_row}
use Rattle.dg_slot.specs.Kept.{Held}
use Rattle.dg_volume.specs.Store.{held, held_whole}
use Rattle.dg_volume.specs.Sizes.{images}
use Rattle.dg_volume.specs.Table.{row_at, has_image_version}
use Rattle.dg_volume.specs.Agreement.{KeepsRow}
use Rattle.dg_frame.specs.Sizes.{known_images, narrow_images, wide_images}
use Rattle.dg_rules.specs.World.{World, is_wide_mote, wide_at, store_at, linked}
use Rattle.dg_rules.specs.Premises.{WorldAgrees, OneWidth}
use Rattle.dg_rounds.specs.Rounds.{round, times, rounds_of}
use Rattle.dg_completion.specs.Rests.{HasRounds}
use Rattle.dg_completion.specs.Completion.{Follows, Grows, FreeLaw, IsOn, HasRoomAt, RoundLaw, newest, largest, pages_kept, page_count, within, IsEnoughFor, IsEnoughOver, PipelineLaw, CompletionLaw}
use Rattle.dg_base.specs.declared.events.Event.{Event}
use Rattle.dg_completion.proofs.GrowLemmas.{grows_none, grows_then, free_grows, rounds_free, all_map}
use Rattle.dg_completion.proofs.RestLemmas.{times_add}
use Rattle.dg_completion.proofs.PipelineLemmas.{Rested, Level, IsLink, pipeline, pipeline_on}
use Rattle.dg_completion.proofs.NewestLemmas.{found_version, newest_in, count}
use Rattle.dg_completion.proofs.RaiseLemmas.{Below, raises}

-- ---- links

abbrev joins : (a b : ℕ) → (ℕ × ℕ) → Bool
joins a b l = (eqb l.0 a && eqb l.1 b) || (eqb l.0 b && eqb l.1 a)

links_all : (links ls : List (ℕ × ℕ)) → ((a b : ℕ) → list_any (joins a b) ls ≡ true → list_any (joins a b) links ≡ true)
    → AllByRecursion (λ r. list_any (joins r.0 r.1) links ≡ true) (rounds_of ls)
links_all links [] into = tt
links_all links (l ∷ ls) into = (
  into l.0 l.1 (λ k. ((eq-eqb l.0 l.0 refl k && eq-eqb l.1 l.1 refl k) || (eqb l.0 l.1 && eqb l.1 l.0)) || list_any (joins l.0 l.1) ls),
  (
    into l.1 l.0 (ap (λ c. c || list_any (joins l.1 l.0) ls) (or_right (eqb l.0 l.1 && eqb l.1 l.0) (eqb l.0 l.0 && eqb l.1 l.1) (λ k. eq-eqb l.0 l.0 refl k && eq-eqb l.1 l.1 refl k))),
    links_all links ls (λ a b e. into a b (or_right (joins a b l) (list_any (joins a b) ls) e)),
  ),
)

-- ---- within only grows

any_more : (f g : (ℕ × ℕ) → Bool) (ls : List (ℕ × ℕ)) → ((l : ℕ × ℕ) → f l ≡ true → g l ≡ true) → list_any f ls ≡ true → list_any g ls ≡ true
any_more f g [] into e = e
any_more f g (l ∷ ls) into e = elim (or_cases (f l) (list_any f ls) e) [
  | inl here ↦ ap (λ c. c || list_any g ls) (into l here)
  | inr more ↦ or_right (g l) (list_any g ls) (any_more f g ls into more)
]

within_grows : (w u : World) (row : Row) → newest w.table row.image ≡ Some row → Grows w u → (h m : ℕ) → within w row h m ≡ true → within u row h m ≡ true
unfolding within
within_grows w u row is g zero m e =
    let parts = and_parts (leb (page_count row) (pages_kept (store_at w m) row)) (ltb m (length w.sites)) e in
    and_from (leb (page_count row) (pages_kept (store_at u m) row)) (ltb m (length u.sites))
    (le-leb (page_count row) (pages_kept (store_at u m) row) (omega (arith, leb-true (page_count row) (pages_kept (store_at w m) row) parts.0, g.pages m row is)))
    (lt-ltb m (length u.sites) (omega (arith, ltb-true m (length w.sites) parts.1, g.count)))
within_grows w u row is g (suc h) m e =
    let f : World → (ℕ × ℕ) → Bool = λ x l. (eqb l.1 m && within x row h l.0) || (eqb l.0 m && within x row h l.1) in
    elim (or_cases (within w row h m) (list_any (f w) w.links) e) [
      | inl near ↦ ap (λ c. c || list_any (f u) u.links) (within_grows w u row is g h m near)
      | inr next ↦ or_right (within u row h m) (list_any (f u) u.links)
          (subst (λ ls. list_any (f u) ls ≡ true) (sym g.links)
          (any_more (f w) (f u) w.links (λ l here. elim (or_cases (eqb l.1 m && within w row h l.0) (eqb l.0 m && within w row h l.1) here) [
            | inl x ↦ let p = and_parts (eqb l.1 m) (within w row h l.0) x in ap (λ c. c || (eqb l.0 m && within u row h l.1)) (and_from (eqb l.1 m) (within u row h l.0) p.0 (within_grows w u row is g h l.0 p.1))
            | inr x ↦ let p = and_parts (eqb l.0 m) (within w row h l.1) x in or_right (eqb l.1 m && within u row h l.0) (eqb l.0 m && within u row h l.1) (and_from (eqb l.0 m) (within u row h l.1) p.0 (within_grows w u row is g h l.1 p.1))
          ]) next))
    ]

within_whole : (w : World) (row : Row) (m : ℕ) → within w row 0 m ≡ true → leb (page_count row) (pages_kept (store_at w m) row) ≡ true
unfolding within
within_whole w row m e = (and_parts (leb (page_count row) (pages_kept (store_at w m) row)) (ltb m (length w.sites)) e).0

-- ---- image after image

-- every image below i is whole wherever it has a row
abbrev pub DoneTo : ℕ → World → Type 0
DoneTo i w = (j m : ℕ) (r : Row) → 1 ≤ j → j < i → newest w.table j ≡ Some r → m < length w.sites → page_count r ≤ count (held (store_at w m) j) r.version

row_image : (table : List Row) (i : ℕ) (r : Row) → newest table i ≡ Some r → r.image ≡ i
unfolding newest
row_image table i r e = (found_version table i (largest table i) r e).0

done_on : (i : ℕ) (w v : World) → Grows w v → DoneTo i w → DoneTo i v
done_on i w v g d j m r from less is there =
    let is_w : newest w.table j ≡ Some r = ap (λ t. newest t j) (sym g.table) ∙ is in
    let image = row_image w.table j r is_w in
    let grown = g.pages m r (ap (newest w.table) image ∙ is_w) in
    omega (arith, d j m r from less is_w (subst (λ n. m < n) g.count there), subst (λ k. count (held (store_at w m) k) r.version ≤ count (held (store_at v m) k) r.version) image grown)

-- ---- widths

-- all motes have this width
abbrev AllAre : (wide : Bool) → World → Type 0
AllAre wide w = (m : ℕ) → m < length w.sites → wide_at w m ≡ wide

all_on : (wide : Bool) (w v : World) → Grows w v → AllAre wide w → AllAre wide v
all_on wide w v g all m there = ap (λ narrow. is_wide_mote narrow m) g.narrow ∙ all m (subst (λ n. m < n) g.count there)

-- motes of this width speak of every image that has a row
abbrev pub Known : Bool → World → Type 0
Known wide w = (i : ℕ) (row : Row) → i < images → newest w.table i ≡ Some row → i ≤ known_images wide

-- what holds of all rows holds of the row that is found
found_passes : (P : Row → Type 0) (rows : List Row) (i n : ℕ) (row : Row) → AllByRecursion P rows → row_at rows i n ≡ Some row → P row
found_passes P [] i n row all is = absurd (no_row is)
  where
    no_row : None ≡ Some row → ⊥
    no_row e = cc
found_passes P (x ∷ xs) i n row all is = elim (cases_Bool (has_image_version i n x)) [
  | inl here ↦
      let some : Some x ≡ Some row = sym (ap (λ b. cond b (Some x) (find (has_image_version i n) xs)) here) ∙ is in
      let same : x ≡ row = cc in
      subst P same all.0
  | inr other ↦ found_passes P xs i n row all.1 (sym (ap (λ b. cond b (Some x) (find (has_image_version i n) xs)) other) ∙ is)
]

record HasWidth (w : World) : Type 0 where
  wide : Bool
  all : AllAre wide w
  known : Known wide w

width_of : (w : World) → OneWidth w → HasWidth w
unfolding newest
width_of w (inl all) = record { wide = true; all = all; known = λ i row less is. omega (arith, less) }
width_of w (inr narrow) = record {
  wide = false;
  all = narrow.0;
  known = λ i row less is. omega (arith, found_passes (λ r. r.image ≤ narrow_images) w.table i (largest w.table i) row narrow.1 is, row_image w.table i row is);
}

module _ (free : FreeLaw) (law : RoundLaw) (wide : Bool) (links : List (ℕ × ℕ)) where
  -- a world of the rest
  record Waits (w : World) : Type 0 where
    good : WorldAgrees w
    links_are : w.links ≡ links
    all : AllAre wide w
    on : (m : ℕ) → m < length w.sites → IsOn w m

  waits_on : (w v : World) → Grows w v → Waits w → Waits v
  waits_on w v g r =
      record { good = g.good; links_are = g.links ∙ r.links_are; all = all_on wide w v g r.all; on = λ m h. g.on m (r.on m (subst (λ n. m < n) g.count h)) }

  below_on : (row : Row) (w v : World) → Grows w v → Below wide row w → Below wide row v
  below_on row w v g b =
      record { from = b.from; to = b.to; all = all_on wide w v g b.all; newest_is = ap (λ t. newest t row.image) g.table ∙ b.newest_is; whole = done_on row.image w v g b.whole }

  raise_for : (row : Row) (w v : World) (a b : ℕ) → WorldAgrees w → Below wide row w → linked w a b ≡ true → IsOn w a → IsOn w b → Follows w (round a b) v
      → HasRoomAt v a → HasRoomAt v b → min (pages_kept (store_at w a) row) (pages_kept (store_at w b) row + 1) ≤ pages_kept (store_at v b) row
  raise_for row = raises free law wide row

  link_all : (row : Row) → AllByRecursion (IsLink free row (Below wide row) (below_on row) (raise_for row) links) (rounds_of links)
  link_all row =
      all_map (λ r. list_any (joins r.0 r.1) links ≡ true) (IsLink free row (Below wide row) (below_on row) (raise_for row) links) (rounds_of links)
      (λ r e w is. ap (λ ls. list_any (joins r.0 r.1) ls) is ∙ e) (links_all links links (λ a b e. e))

  -- ---- one image

  -- a run continues from a world in which every image below i is whole
  record Stepped (i : ℕ) (qs : List (ℕ × ℕ)) (w v : World) : Type 0 where
    u : World
    rest : List Event
    rounds : HasRounds qs rest
    run : Follows u rest v
    grows : Grows w u
    done : DoneTo i u

  step_image : (i n : ℕ) (o : Option Row) (w0 w v : World) (qs : List (ℕ × ℕ)) (es : List Event) → 1 ≤ i → ((row : Row) → o ≡ Some row → i ≤ known_images wide) → newest w0.table i ≡ o → IsEnoughFor w0 o n → Grows w0 w → Waits w → DoneTo i w
      → HasRounds (times n (rounds_of links) ++ qs) es → Follows w es v → ((m : ℕ) → m < length v.sites → HasRoomAt v m) → Stepped (i + 1) qs w v
  unfolding times within
  step_image i n None w0 w v qs es from to is enough g r d h f room =
      record {
        u = w;
        rest = es;
        rounds = subst (λ k. HasRounds (times k (rounds_of links) ++ qs) es) enough h;
        run = f;
        grows = grows_none w r.good;
        done = λ j m row low less newest_j there. elim (cases_lt j i) [
          | inl small ↦ d j m row low small newest_j there
          | inr big ↦ absurd (no_row row (sym (ap (λ t. newest t i) g.table ∙ is) ∙ subst (λ k. newest w.table k ≡ Some row) (same j i big less) newest_j))
        ];
      }
    where
      no_row : (row : Row) → None ≡ Some row → ⊥
      no_row row e = cc

      same : (j i : ℕ) → i ≤ j → j < i + 1 → j ≡ i
      same j i a b = omega arith
  step_image i n (Some row) w0 w v qs es from to is enough g r d h f room =
      let image : row.image ≡ i = row_image w0.table i row is in
      let newest_w : newest w.table row.image ≡ Some row = ap (newest w.table) image ∙ ap (λ t. newest t i) g.table ∙ is in
      let newest_0 : newest w0.table row.image ≡ Some row = ap (newest w0.table) image ∙ is in
      let below : Below wide row w = record { from = omega (arith, image); to = omega (arith, image, to row refl); all = r.all; newest_is = newest_w; whole = subst (λ k. DoneTo k w) (sym image) d } in
      let rested : Rested free row (Below wide row) (below_on row) (raise_for row) links w = record { good = r.good; fits = below; newest_is = newest_w; links_are = r.links_are; on = r.on } in
      let start : Level free row (Below wide row) (below_on row) (raise_for row) links w r.links_are 0 w = record {
        whole = λ m e. leb-true (page_count row) (pages_kept (store_at w m) row) (within_whole w row m e);
        far = λ m j one e. omega arith;
      } in
      let p = pipeline_on free row (Below wide row) (below_on row) (raise_for row) links w r.links_are n 0 qs w v es (link_all row) rested h f room start in
      let u = p.0 in
      record {
        u = u;
        rest = p.1;
        rounds = p.2;
        run = p.3;
        grows = p.4;
        done = λ j m q low less newest_j there. elim (cases_lt j i) [
          | inl small ↦ done_on i w u p.4 d j m q low small newest_j there
          | inr big ↦
              let e : j ≡ i = omega (arith, big, less) in
              let twice : Some row ≡ Some q = sym is ∙ sym (ap (λ t. newest t i) (p.4.table ∙ g.table)) ∙ ap (newest u.table) (sym e) ∙ newest_j in
              let q_is : row ≡ q = cc in
              let there0 : m < length w0.sites = subst (λ k. m < k) (p.4.count ∙ g.count) there in
              let near = within_grows w0 w row newest_0 g enough.0 m (enough.1.all m there0) in
              let ends : page_count row ≤ pages_kept (store_at u m) row = omega (arith, p.5.far m enough.0 enough.1.some near, enough.2, enough.1.some) in
              subst (λ k. page_count q ≤ count (held (store_at u m) k) q.version) (image ∙ sym e) (subst (λ (x : Row). page_count x ≤ count (held (store_at u m) row.image) x.version) q_is ends)
        ];
      }

  -- ---- all of them

  step_images : (k i n : ℕ) (w0 w v : World) (qs : List (ℕ × ℕ)) (es : List Event) → 1 ≤ i → i + k ≤ images → Known wide w0 → IsEnoughOver w0 (range_with_len i k) n → Grows w0 w → Waits w → DoneTo i w
      → HasRounds (times n (rounds_of links) ++ qs) es → Follows w es v → ((m : ℕ) → m < length v.sites → HasRoomAt v m) → Stepped (i + k) qs w0 v
  unfolding IsEnoughOver times
  step_images zero i n w0 w v qs es from to known enough g r d h f room =
      record { u = w; rest = es; rounds = subst (λ k. HasRounds (times k (rounds_of links) ++ qs) es) enough h; run = f; grows = g; done = subst (λ j. DoneTo j w) (omega arith) d }
  step_images (suc k) i n w0 w v qs es from to known enough g r d h f room =
      let x = enough.0 in
      let y = enough.1 in
      let rs = rounds_of links in
      let split : times n rs ++ qs ≡ times x rs ++ (times y rs ++ qs) = ap (λ c. times c rs ++ qs) enough.4 ∙ ap (λ l. l ++ qs) (times_add x y rs) ∙ append_assoc (times x rs) (times y rs) qs in
      let one = step_image i x (newest w0.table i) w0 w v (times y rs ++ qs) es from (λ row is. known i row (omega (arith, to)) is) refl enough.2 g r d (subst (λ l. HasRounds l es) split h) f room in
      let g1 = grows_then w0 w one.u g one.grows in
      let more = step_images k (i + 1) y w0 one.u v qs one.rest (omega arith) (omega (arith, to)) known enough.3 g1 (waits_on w one.u one.grows r) one.done one.rounds one.run room in
      record { u = more.u; rest = more.rest; rounds = more.rounds; run = more.run; grows = more.grows; done = subst (λ j. DoneTo j more.u) (omega arith) more.done }

-- ---- what is whole

-- what is whole is the row's object
whole_is : (table : List Row) (i : ℕ) (o : Option Held) (r : Row) → newest table i ≡ Some r → IfSome o (KeepsRow table i) → page_count r ≤ count o r.version → o ≡ Some (held_whole r)
whole_is table i None r n k l = absurd (omega (arith, l))
whole_is table i (Some h) r n k l = elim (cases_eq h.version r.version) [
  | inr other ↦ absurd (omega (arith, l, ap (λ c. cond c (length h.complete) 0) (ne_eqb h.version r.version other)))
  | inl e ↦
      let twice : Some k.row ≡ Some r = sym k.in_table ∙ ap (row_at table i) e ∙ newest_in table i r n in
      let same : k.row ≡ r = cc in
      let all : page_count r ≤ length h.complete = omega (arith, l, ap (λ c. cond c (length h.complete) 0) (eq-eqb h.version r.version e)) in
      let pages : h.pages ≡ page_count r = k.pages ∙ ap page_count same in
      let crc : h.crc ≡ (profile r).crc = k.crc ∙ ap (λ q. (profile q).crc) same in
      let complete : h.complete ≡ object r = k.first ∙ ap (λ q. take (length h.complete) (object q)) same ∙ take_all (length h.complete) (object r) (omega (arith, all, length-tabulate (page_count r) (page_of_row r))) in
      λ j. Some (record { version = e j; pages = pages j; crc = crc j; complete = complete j })
]

pub completes : FreeLaw → RoundLaw → CompletionLaw
completes free law w v n k es rests enough many i row m from to is there =
    let rs = rounds_of w.links in
    let width = width_of w rests.widths in
    let wide = width.wide in
    let r : Waits free law wide w.links w = record { good = rests.good; links_are = refl; all = width.all; on = rests.on } in
    let g0 = free_grows free es w v rests.good (rounds_free (times n rs) es rests.rest) rests.run in
    let room : (j : ℕ) → j < length v.sites → HasRoomAt v j = λ j h. rests.room j (subst (λ c. j < c) g0.count h) in
    let left = n - k in
    let sum : n ≡ k + left = omega (arith, many) in
    let split : times n rs ≡ times k rs ++ times left rs = ap (λ c. times c rs) sum ∙ times_add k left rs in
    let none : DoneTo 1 w = λ j a q low less e h. absurd (omega (arith, low, less)) in
    let all = step_images free law wide w.links wide_images 1 k w w v (times left rs) es (omega arith) (omega arith) width.known enough (grows_none w rests.good) r none (subst (λ l. HasRounds l es) split rests.rest) rests.run room in
    let last = free_grows free all.rest all.u v all.grows.good (rounds_free (times left rs) all.rest all.rounds) all.run in
    let done_v : DoneTo (1 + wide_images) v = done_on (1 + wide_images) all.u v last all.done in
    let g = grows_then w all.u v all.grows last in
    let is_v : newest v.table i ≡ Some row = ap (λ t. newest t i) g.table ∙ is in
    let there_v : m < length v.sites = subst (λ c. m < c) (sym g.count) there in
    whole_is v.table i (held (store_at v m) i) row is_v ((g.good.sites m there_v).store.agrees.kept i) (done_v i m row from (omega (arith, to)) is_v there_v)

-- ---- the pipeline of one image

pub fills : FreeLaw → RoundLaw → PipelineLaw
fills free law w v t es i row rests done low high is m j there one near =
    let width = width_of w rests.widths in
    let wide = width.wide in
    let image : row.image ≡ i = row_image w.table i row is in
    let newest_w : newest w.table row.image ≡ Some row = ap (newest w.table) image ∙ is in
    let below : Below wide row w = record {
      from = omega (arith, image, low);
      to = omega (arith, image, width.known i row high is);
      all = width.all;
      newest_is = newest_w;
      whole = λ k n r from less e h. omega (arith, whole_at k n r from less e h);
    } in
    let rested : Rested free row (Below wide row) (below_on free law wide w.links row) (raise_for free law wide w.links row) w.links w = record { good = rests.good; fits = below; newest_is = newest_w; links_are = refl; on = rests.on } in
    let start : Level free row (Below wide row) (below_on free law wide w.links row) (raise_for free law wide w.links row) w.links w refl 0 w = record {
      whole = λ n e. leb-true (page_count row) (pages_kept (store_at w n) row) (within_whole w row n e);
      far = λ n k one e. omega arith;
    } in
    let g = free_grows free es w v rests.good (rounds_free (times t (rounds_of w.links)) es rests.rest) rests.run in
    let room : (n : ℕ) → n < length v.sites → HasRoomAt v n = λ n h. rests.room n (subst (λ c. n < c) g.count h) in
    let full = (pipeline free row (Below wide row) (below_on free law wide w.links row) (raise_for free law wide w.links row) w.links w refl t 0 w v es (link_all free law wide w.links row) rested rests.rest rests.run room start).far m j one near in
    omega (arith, full)
  where
    whole_at : (k n : ℕ) (r : Row) → 1 ≤ k → k < row.image → newest w.table k ≡ Some r → n < length w.sites → page_count r ≤ count (held (store_at w n) k) r.version
    whole_at k n r from less e h =
        let image_r : r.image ≡ k = row_image w.table k r e in
        let whole = done k r n from (omega (arith, less, row_image w.table i row is)) e h in
        omega (arith, whole, ap (λ x. count (held (store_at w n) x) r.version) image_r)

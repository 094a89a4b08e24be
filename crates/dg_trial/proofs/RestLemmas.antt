-- The rest at the end of a trial: its sweeps are enough, and every mote keeps the image whole.
use Rattle.std.proofs.Common.{◌≡◌, inl, lit≤, ℕ, zero, suc, ◌+◌, ◌-◌, ◌*◌, ◌<◌, ◌≤◌, ◌==◌, ◌&&◌, Bool, true, false, not, cond, if◌then◌else◌, List, [], ◌∷◌, length, map, Option, Some, None, refl, sym, ap, subst, ◌∙◌, arith}
use Rattle.std.specs.Prelude.{slice_index_or, count_by}
use Rattle.std.specs.List.{AllByRecursion, range_with_len, sum_by}
use Rattle.std.proofs.lemmas.Bool.{le-leb, ne_eqb}
use Rattle.std.proofs.lemmas.List.{get_or-replicate}
use Rattle.std.proofs.lemmas.List.Sums.{sum_by-cons}
use Rattle.dg_object.specs.Object.{Row}
use Rattle.dg_object.proofs.RowLemmas.{length-object}
use Rattle.dg_slot.specs.Kept.{Held}
use Rattle.dg_volume.specs.Store.{held, held_whole}
use Rattle.dg_volume.specs.Changes.{is_version}
use Rattle.dg_volume.specs.Trails.{done_of}
use Rattle.dg_base.specs.declared.events.Event.{Event}
use Rattle.dg_rounds.specs.Rounds.{times, sweep, rounds_of}
use Rattle.dg_rounds.specs.LinkPaths.{LinkPath}
use Rattle.dg_script.specs.Places.{none_narrow}
use Rattle.dg_rules.specs.World.{World, Site, is_wide_mote, wide_at, store_at, no_site}
use Rattle.dg_rules.specs.Premises.{WorldAgrees}
use Rattle.dg_completion.specs.Rests.{IsFree, IsRest}
use Rattle.dg_completion.specs.Completion.{Follows, FreeLaw, IsOn, newest, largest, page_count, pages_kept, IsEnoughFor, IsEnoughOver, IsEnough, AllWithin, CompletionLaw}
use Rattle.dg_completion.specs.Holders.{KeepsWhole, WithinLaw, ReachesAll, AllReached, EnoughLaw}
use Rattle.dg_completion.specs.Met.{SpendLaw, commits_at}
use Rattle.dg_completion.proofs.GrowLemmas.{rounds_free}
use Rattle.dg_trial.specs.Schedule.{always, line_links}
use Rattle.dg_trial.specs.Playing.{golden, LeadsTo}
use Rattle.dg_trial.specs.inner.Words.{keeps_all}
use Rattle.dg_trial.proofs.LineLemmas.{way_to, sweeps_few}
use Rattle.dg_trial.proofs.InjectionLemmas.{row}

-- ---- runs of events that are not cut

pub leads_follow : (es : List Event) (w v : World) → LeadsTo w (map always es) v → Follows w es v
unfolding LeadsTo Follows
leads_follow [] w v run = run
leads_follow (e ∷ es) w v run = (run.0, run.1, run.2, leads_follow es run.0 v run.3)

module _ (free : FreeLaw) (spend : SpendLaw) where
  follow_room : (es : List Event) (w v : World) → WorldAgrees w → AllByRecursion IsFree es → Follows w es v → (m c : ℕ) → c + sum_by (commits_at m) es ≤ (store_at w m).room → c ≤ (store_at v m).room
  unfolding Follows
  follow_room [] w v good all run m c h = subst (λ (z : World). c ≤ (store_at z m).room) run (omega (arith, h))
  follow_room (e ∷ es) w v good all run m c h =
      let good_then = (free w run.0 e run.1 good all.0 run.2).good in
      let s = spend w run.0 e run.1 good all.0 run.2 m in
      let sum = sum_by-cons (commits_at m) e es in
      follow_room es run.0 v good_then all.1 run.3 m c (omega (arith, h, s, sum))

-- ---- enough sweeps

module _ (name bytes : List ℕ) where
  abbrev image : Row
  image = row name bytes

  abbrev rows : List Row
  rows = image ∷ golden ∷ []

  pub newest_one : newest rows 1 ≡ Some image
  unfolding newest largest
  newest_one = refl

  -- no other image that motes forward has a row
  newest_other : (i : ℕ) → 2 ≤ i → newest rows i ≡ None
  unfolding newest largest
  newest_other i low =
      let v = largest rows i in
      let not_image : (image.image == i) ≡ false = ne_eqb 1 i (λ e. let f : 1 ≡ i = e in omega (arith, f, low)) in
      let not_golden : (golden.image == i) ≡ false = ne_eqb 0 i (λ e. let f : 0 ≡ i = e in omega (arith, f, low)) in
      let base : Bool → Option Row = λ b. cond (b && (golden.version == v)) (Some golden) None in
      ap (λ (b : Bool). cond (b && (image.version == v)) (Some image) (base (golden.image == i))) not_image ∙ ap base not_golden

  module _ (within_law : WithinLaw) (motes : ℕ) (w : World) (some : 2 ≤ motes) (count : length w.sites ≡ motes) (links : w.links ≡ line_links motes) (table : w.table ≡ rows)
      (narrow : w.narrow ≡ none_narrow) (whole : page_count image ≤ pages_kept (store_at w 0) image) where
    keeps : KeepsWhole w image 0
    keeps = record { there = omega (arith, count, some); pages = whole }

    way : (m : ℕ) → m < length w.sites → LinkPath w.links 0 m m
    way m h = subst (λ (ls : List (ℕ × ℕ)). LinkPath ls 0 m m) (sym links) (way_to motes m (omega (arith, h, count)))

    reaches : ReachesAll w image
    reaches = record { holder = 0; keeps = keeps; ways = λ m h. (m, way m h) }

    newest_at : (i : ℕ) → newest w.table i ≡ newest rows i
    newest_at i = ap (λ (rs : List Row). newest rs i) table

    the_row : (r : Row) → newest w.table 1 ≡ Some r → ReachesAll w r
    the_row r is = let e : Some image ≡ Some r = sym (newest_at 1 ∙ newest_one) ∙ is in let same : image ≡ r = cc in subst (ReachesAll w) same reaches

    no_row : (i : ℕ) (r : Row) → newest rows i ≡ None → newest w.table i ≡ Some r → ReachesAll w r
    no_row i r none is = absurd (let e : None ≡ Some r = sym (newest_at i ∙ none) ∙ is in cc)

    pub reached : AllReached w
    reached zero r low high is = absurd (omega (arith, low))
    reached (suc zero) r low high is = the_row r is
    reached (suc (suc i)) r low high is = no_row (suc (suc i)) r (newest_other (suc (suc i)) (omega arith)) is

    all_within : AllWithin w image (motes - 1)
    all_within m h = (within_law w image (motes - 1) m).1 (record { holder = 0; keeps = keeps; links = m; few = omega (arith, h, count); way = way m h })

    none_for : (i n : ℕ) → 2 ≤ i → IsEnoughFor w (newest w.table i) n → n ≡ 0
    none_for i n low enough = subst (λ (o : Option Row). IsEnoughFor w o n) (newest_at i ∙ newest_other i low) enough

    none_over : (i many n : ℕ) → 2 ≤ i → IsEnoughOver w (range_with_len i many) n → n ≡ 0
    unfolding IsEnoughOver
    none_over i zero n low h = h
    none_over i (suc many) n low h =
        let here = none_for i h.0 low h.2 in
        let rest = none_over (i + 1) many h.1 (omega (arith, low)) h.3 in
        let sum = h.4 in
        omega (arith, here, rest, sum)

    one_for : (n : ℕ) → IsEnoughFor w (newest w.table 1) n → n ≤ page_count image + motes - 2
    one_for n enough =
        let x = subst (λ (o : Option Row). IsEnoughFor w o n) (newest_at 1 ∙ newest_one) enough in
        let low = x.1.least (motes - 1) (omega (arith, some)) all_within in
        let is = x.2 in
        omega (arith, low, is, some)

    pub bound : (k : ℕ) → IsEnough w k → k ≤ page_count image + motes - 2
    unfolding IsEnoughOver
    bound k h =
        let a = one_for h.0 h.2 in
        let others = none_over 2 5 h.1 (lit≤ tt) h.3 in
        let sum = h.4 in
        omega (arith, a, others, sum)

    -- ---- the rest

    module _ (enough_law : EnoughLaw) (complete : CompletionLaw) (free : FreeLaw) (spend : SpendLaw) (swept : (ls : List (ℕ × ℕ)) (n : ℕ) → IsRest ls n (times n (sweep ls)))
        (good : WorldAgrees w) (on : (m : ℕ) → m < motes → IsOn w m) (k : ℕ) (many : page_count image + motes - 2 ≤ k) (v : World) (run : LeadsTo w (map always (times k (sweep (line_links motes)))) v)
        (room : (m : ℕ) → m < motes → 3 + k * 2424 ≤ (store_at w m).room) where
      abbrev es : List Event
      es = times k (sweep (line_links motes))

      rest : IsRest w.links k es
      rest = subst (λ (ls : List (ℕ × ℕ)). IsRest ls k es) (sym links) (swept (line_links motes) k)

      all_wide : (m : ℕ) → m < length w.sites → wide_at w m ≡ true
      all_wide m h =
          let low : m < 16 = let n = good.few in omega (arith, h, n) in
          ap (λ (l : List Bool). is_wide_mote l m) narrow ∙ ap not (get_or-replicate 16 m false false low)

      room_left : (m : ℕ) → m < length w.sites → 3 ≤ (store_at v m).room
      room_left m h =
          let few = sweeps_few m motes k in
          let r = room m (omega (arith, h, count)) in
          follow_room free spend es w v good (rounds_free (times k (rounds_of w.links)) es rest) (leads_follow es w v run) m 3 (omega (arith, few, r))

      pub all_whole : (m : ℕ) → m < motes → held (store_at v m) 1 ≡ Some (held_whole image)
      all_whole m h =
          let n = enough_law w reached in
          let low = bound n.0 n.1 in
          complete w v k n.0 es
          (record { good = good; rest = rest; run = leads_follow es w v run; on = λ j there. on j (omega (arith, there, count)); widths = inl all_wide; room = room_left })
          n.1 (omega (arith, low, many)) 1 image m (omega arith) (omega arith) (newest_at 1 ∙ newest_one) (omega (arith, h, count))

  -- ---- how many they are

  keeps_held : (x : Site) → held x.store 1 ≡ Some (held_whole image) → keeps_all image x ≡ true
  keeps_held x is =
      let e : pages_kept x.store image ≡ page_count image = ap (λ (o : Option Held). if is_version o 1 then done_of o else 0) is ∙ length-object image in
      le-leb (page_count image) (pages_kept x.store image) (omega (arith, e))

  pub count_whole : (xs : List Site) → ((k : ℕ) → k < length xs → held (slice_index_or xs k no_site).store 1 ≡ Some (held_whole image)) → count_by (keeps_all image) xs ≡ length xs
  count_whole [] each = refl
  count_whole (x ∷ xs) each =
      let here : ◌≡◌ {A = ℕ} (cond (keeps_all image x) 1 0) 1 = ap (λ b. cond {A = ℕ} b 1 0) (keeps_held x (each 0 (omega arith))) in
      let rest = count_whole xs (λ k h. each (suc k) (omega (arith, h))) in
      let sum = sum_by-cons (λ (y : Site). cond {A = ℕ} (keeps_all image y) 1 0) x xs in
      sum ∙ ap (λ (n : ℕ). n + count_by (keeps_all image) xs) here ∙ ap (λ (n : ℕ). 1 + n) rest ∙ (let e : 1 + length xs ≡ suc (length xs) = omega arith in e)

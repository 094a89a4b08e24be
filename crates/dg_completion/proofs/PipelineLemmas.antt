-- Pages travel along the links, one link per sweep: from the law of a round.
use Rattle.std.proofs.Common.{◌≡◌, ℕ, zero, suc, ◌+◌, ◌-◌, ◌<◌, ◌≤◌, min, Bool, true, ◌&&◌, ◌||◌, eqb, List, [], ◌∷◌, ◌++◌, length, Some, append_assoc, refl, sym, ap, subst, ◌∙◌, inl, inr, arith}
use Rattle.std.proofs.lemmas.Bool.{eq-eqb, eqb-true, and_parts, or_cases}
use Rattle.std.specs.List.{AllByRecursion, list_any}
use Rattle.dg_object.specs.Object.{Row}
use Rattle.dg_rules.specs.World.{World, store_at, linked}
use Rattle.dg_rules.specs.Premises.{WorldAgrees}
use Rattle.dg_rounds.specs.Rounds.{round, times, rounds_of}
use Rattle.dg_base.specs.declared.events.Event.{Event}
use Rattle.dg_completion.specs.Rests.{HasRounds}
use Rattle.dg_completion.specs.Completion.{Follows, Grows, FreeLaw, IsOn, HasRoomAt, newest, pages_kept, page_count, within}
use Rattle.dg_completion.proofs.GrowLemmas.{grows_none, grows_then, free_grows, follows_split, round_free, rounds_free, all_map, link_ends}

module _ (free : FreeLaw) where
  -- ---- one row, for all that follows

  module _ (row : Row) (Fits : World → Type 0) (fits_on : (w v : World) → Grows w v → Fits w → Fits v)
      (raise : (w v : World) (a b : ℕ) → WorldAgrees w → Fits w → linked w a b ≡ true → IsOn w a → IsOn w b → Follows w (round a b) v
      → HasRoomAt v a → HasRoomAt v b → min (pages_kept (store_at w a) row) (pages_kept (store_at w b) row + 1) ≤ pages_kept (store_at v b) row)
      (links : List (ℕ × ℕ)) where
    abbrev p : World → ℕ → ℕ
    p w m = pages_kept (store_at w m) row

    -- a world of the rest: all are on, and the row is the newest
    pub record Rested (w : World) : Type 0 where
      pub good : WorldAgrees w
      pub fits : Fits w
      pub newest_is : newest w.table row.image ≡ Some row
      pub links_are : w.links ≡ links
      pub on : (m : ℕ) → m < length w.sites → IsOn w m

    pub rested_on : (w v : World) → Grows w v → Rested w → Rested v
    rested_on w v g r =
        record {
          good = g.good;
          fits = fits_on w v g r.fits;
          newest_is = ap (λ t. newest t row.image) g.table ∙ r.newest_is;
          links_are = g.links ∙ r.links_are;
          on = λ m h. g.on m (r.on m (subst (λ n. m < n) g.count h));
        }

    abbrev pub AllHaveRoom : World → Type 0
    AllHaveRoom v = (m : ℕ) → m < length v.sites → HasRoomAt v m

    abbrev Brought : World → World → (ℕ × ℕ) → Type 0
    Brought w v r = min (p w r.0) (p w r.1 + 1) ≤ p v r.1

    -- the motes of a round are linked
    abbrev pub IsLink : (ℕ × ℕ) → Type 0
    IsLink r = (w : World) → w.links ≡ links → linked w r.0 r.1 ≡ true

    rounds_bring : (rs qs : List (ℕ × ℕ)) (w v : World) (es : List Event) → AllByRecursion IsLink rs → Rested w → HasRounds (rs ++ qs) es → Follows w es v → AllHaveRoom v
        → (u : World) × (rest : List Event) × HasRounds qs rest × Follows u rest v × Grows w u × AllByRecursion (Brought w u) rs
    unfolding HasRounds
    rounds_bring [] qs w v es linked_all r h f room = (w, es, h, f, grows_none w r.good, tt)
    rounds_bring (x ∷ rs) qs w v es linked_all r h f room =
        let first = follows_split w v h.0 (round x.0 x.1 ++ h.1) (subst (λ l. Follows w l v) h.2 f) in
        let second = follows_split first.0 v (round x.0 x.1) h.1 first.2 in
        let w1 = first.0 in
        let w2 = second.0 in
        let g1 = free_grows free h.0 w w1 r.good h.3 first.1 in
        let r1 = rested_on w w1 g1 r in
        let g2 = free_grows free (round x.0 x.1) w1 w2 r1.good (round_free x.0 x.1) second.1 in
        let r2 = rested_on w1 w2 g2 r1 in
        let g3 = free_grows free h.1 w2 v r2.good (rounds_free (rs ++ qs) h.1 h.4) second.2 in
        let ends = linked_all.0 w1 r1.links_are in
        let there = link_ends w1 x.0 x.1 r1.good ends in
        let count : length v.sites ≡ length w1.sites = g3.count ∙ g2.count in
        let room_a = room x.0 (subst (λ n. x.0 < n) (sym count) there.0) in
        let room_b = room x.1 (subst (λ n. x.1 < n) (sym count) there.1) in
        let brought = raise w1 w2 x.0 x.1 r1.good r1.fits ends (r1.on x.0 there.0) (r1.on x.1 there.1) second.1 (omega (arith, room_a, g3.room x.0)) (omega (arith, room_b, g3.room x.1)) in
        let rest = rounds_bring rs qs w2 v h.1 linked_all.1 r2 h.4 second.2 room in
        let g12 = grows_then w w1 w2 g1 g2 in
        let u = rest.0 in (
          u,
          rest.1,
          rest.2,
          rest.3,
          grows_then w w2 u g12 rest.4,
          (
            omega (arith, brought, g1.pages x.0 row r.newest_is, g1.pages x.1 row r.newest_is, rest.4.pages x.1 row r2.newest_is),
            all_map (Brought w2 u) (Brought w u) rs (λ q b. omega (arith, b, g12.pages q.0 row r.newest_is, g12.pages q.1 row r.newest_is)) rest.5,
          ),
        )

    -- ---- a sweep

    is_link_in : (ls : List (ℕ × ℕ)) (a b : ℕ) → list_any (λ l. (eqb l.0 a && eqb l.1 b) || (eqb l.0 b && eqb l.1 a)) ((a, b) ∷ ls) ≡ true
    is_link_in ls a b = λ i. ((eq-eqb a a refl i && eq-eqb b b refl i) || (eqb a b && eqb b a)) || list_any (λ l. (eqb l.0 a && eqb l.1 b) || (eqb l.0 b && eqb l.1 a)) ls

    -- from what holds of both rounds of each link: the mote that the test finds
    find_link : (Q : (ℕ × ℕ) → Type 0) (f : ℕ → Bool) (m : ℕ) (ls : List (ℕ × ℕ)) → AllByRecursion Q (rounds_of ls)
        → list_any (λ l. (eqb l.1 m && f l.0) || (eqb l.0 m && f l.1)) ls ≡ true → (x : ℕ) × (f x ≡ true) × Q (x, m)
    find_link Q f m [] all e = cc
    find_link Q f m (l ∷ ls) all e = elim (or_cases ((eqb l.1 m && f l.0) || (eqb l.0 m && f l.1)) _ e) [
      | inr more ↦ find_link Q f m ls all.1.1 more
      | inl here ↦ elim (or_cases (eqb l.1 m && f l.0) (eqb l.0 m && f l.1) here) [
        | inl there ↦ let parts = and_parts (eqb l.1 m) (f l.0) there in (l.0, parts.1, subst (λ (n : ℕ). Q (l.0, n)) (eqb-true l.1 m parts.0) all.0)
        | inr back ↦ let parts = and_parts (eqb l.0 m) (f l.1) back in (l.1, parts.1, subst (λ (n : ℕ). Q (l.1, n)) (eqb-true l.0 m parts.0) all.1.0)
      ]
    ]

    -- ---- sweeps

    module _ (w0 : World) (links0 : w0.links ≡ links) where
      -- after t sweeps a mote within j links of a whole holder holds t + 1 - j pages, or all, and a whole holder holds all
      pub record Level (t : ℕ) (w : World) : Type 0 where
        pub whole : (m : ℕ) → within w0 row 0 m ≡ true → page_count row ≤ p w m
        pub far : (m j : ℕ) → 1 ≤ j → within w0 row j m ≡ true → min (page_count row) (t + 1 - j) ≤ p w m

      level_later : (t : ℕ) (w u : World) → Rested w → Grows w u → Level t w → Level t u
      level_later t w u r g l =
          record {
            whole = λ m h. omega (arith, l.whole m h, g.pages m row r.newest_is);
            far = λ m j one h. omega (arith, l.far m j one h, g.pages m row r.newest_is);
          }

      near_by : (t : ℕ) (w : World) (x j : ℕ) → Level t w → within w0 row j x ≡ true → min (page_count row) (t + 1 - j) ≤ p w x
      near_by t w x zero l h = omega (arith, l.whole x h)
      near_by t w x (suc j) l h = l.far x (suc j) (omega arith) h

      level_up : (t : ℕ) (w u : World) → Rested w → Grows w u → AllByRecursion (Brought w u) (rounds_of links) → Level t w → Level (t + 1) u
      unfolding within
      level_up t w u r g all l =
          record { whole = λ m h. omega (arith, l.whole m h, g.pages m row r.newest_is); far = far_up }
        where
          far_up : (m j : ℕ) → 1 ≤ j → within w0 row j m ≡ true → min (page_count row) (t + 1 + 1 - j) ≤ p u m
          far_up m zero one h = absurd (omega arith)
          far_up m (suc j) one h = elim (or_cases (within w0 row j m) _ h) [
            | inl near ↦ omega (arith, near_by t w m j l near, g.pages m row r.newest_is)
            | inr next ↦
                let x = find_link (Brought w u) (within w0 row j) m links all (subst (λ ls. list_any (λ (k : ℕ × ℕ). (eqb k.1 m && within w0 row j k.0) || (eqb k.0 m && within w0 row j k.1)) ls ≡ true) links0 next) in
                omega (arith, near_by t w x.0 j l x.1, x.2, l.far m (suc j) (omega arith) h)
          ]

      -- the whole pipeline, by induction on the sweeps
      pub pipeline : (n t : ℕ) (w v : World) (es : List Event) → AllByRecursion IsLink (rounds_of links) → Rested w → HasRounds (times n (rounds_of links)) es → Follows w es v → AllHaveRoom v → Level t w → Level (t + n) v
      unfolding times HasRounds
      pipeline zero t w v es all r h f room l = subst (λ k. Level k v) (omega arith) (level_later t w v r (free_grows free es w v r.good h f) l)
      pipeline (suc n) t w v es all r h f room l =
          let one = rounds_bring (rounds_of links) (times n (rounds_of links)) w v es all r h f room in
          let u = one.0 in
          subst (λ k. Level k v) (omega arith)
          (pipeline n (t + 1) u v one.1 all (rested_on w u one.4 r) one.2 one.3 room (level_up t w u r one.4 one.5 l))

      -- the same, with more rounds after it
      pub pipeline_on : (n t : ℕ) (qs : List (ℕ × ℕ)) (w v : World) (es : List Event) → AllByRecursion IsLink (rounds_of links) → Rested w → HasRounds (times n (rounds_of links) ++ qs) es → Follows w es v → AllHaveRoom v → Level t w
          → (u : World) × (rest : List Event) × HasRounds qs rest × Follows u rest v × Grows w u × Level (t + n) u
      unfolding times
      pipeline_on zero t qs w v es all r h f room l = (w, es, h, f, grows_none w r.good, subst (λ k. Level k w) (omega arith) l)
      pipeline_on (suc n) t qs w v es all r h f room l =
          let one = rounds_bring (rounds_of links) (times n (rounds_of links) ++ qs) w v es all r (subst (λ k. HasRounds k es) (append_assoc (rounds_of links) (times n (rounds_of links)) qs) h) f room in
          let u = one.0 in
          let more = pipeline_on n (t + 1) qs u v one.1 all (rested_on w u one.4 r) one.2 one.3 room (level_up t w u r one.4 one.5 l) in
          (more.0, more.1, more.2, more.3, grows_then w u more.0 one.4 more.4, subst (λ k. Level k more.0) (omega arith) more.5)

-- After a round the mote at its end has one more page of the lowest image that is not whole everywhere, or as many as the other
-- mote.
use Rattle.std.proofs.Common.{◌≡◌, ℕ, zero, suc, ◌+◌, ◌<◌, ◌≤◌, min, Bool, true, false, ◌&&◌, ◌||◌, cond, eqb, leb, ltb, List, length, Option, Some, None, IfSome, refl, sym, ap, subst, ◌∙◌, inl, inr, arith}
use Rattle.std.proofs.lemmas.Bool.{cond-true, cond-false, eq-eqb, ne_eqb, le-leb, le-ltb, lt-ltb, cases_lt, cases_eq}
use Rattle.std.proofs.lemmas.List.{length-take}
use Rattle.std.specs.List.{find, range_with_len}
use Rattle.dg_words.proofs.ListLemmas.{length-tabulate}
use Rattle.dg_object.specs.Object.{Row, object}
use Rattle.dg_slot.specs.Kept.{Held}
use Rattle.dg_volume.specs.Store.{Store, held}
use Rattle.dg_volume.specs.Table.{row_at}
use Rattle.dg_volume.specs.Agreement.{Agrees, KeepsRow}
use Rattle.dg_frame.specs.Sizes.{known_images}
use Rattle.dg_rules.specs.World.{World, wide_at, store_at, linked}
use Rattle.dg_rules.specs.Premises.{WorldAgrees}
use Rattle.dg_rounds.specs.Rounds.{round}
use Rattle.dg_completion.specs.Completion.{Follows, FreeLaw, IsOn, HasRoomAt, is_ahead, least_ahead, RoundLaw, RaisedFrom, newest, pages_kept, page_count}
use Rattle.dg_completion.proofs.NewestLemmas.{has_newest, newest_in, count}
use Rattle.dg_completion.proofs.GrowLemmas.{free_grows, round_free, link_ends}

-- ---- counts of pages

-- what has more pages of the largest version is ahead
more_ahead : (o p : Option Held) (v : ℕ) → IfSome p (λ g. g.version ≤ v) → count p v < count o v → (is_ahead o p ≡ true) × ((h : Held) × (o ≡ Some h) × (h.version ≡ v))
more_ahead None p v b l = absurd (omega (arith, l))
more_ahead (Some h) p v b l = elim (cases_eq h.version v) [
  | inr other ↦ absurd (omega (arith, l, ap (λ c. cond c (length h.complete) 0) (ne_eqb h.version v other)))
  | inl e ↦ by_other p b (omega (arith, l, ap (λ c. cond c (length h.complete) 0) (eq-eqb h.version v e))) e
]
  where
    by_other : (p : Option Held) → IfSome p (λ g. g.version ≤ v) → count p v < length h.complete → h.version ≡ v → (is_ahead (Some h) p ≡ true) × ((g : Held) × (Some h ≡ Some g) × (g.version ≡ v))
    by_other None b l e = (le-leb 1 (length h.complete) (omega (arith, l)), (h, refl, e))
    by_other (Some g) b l e = elim (cases_eq g.version v) [
      | inl same ↦ (
        let less : length g.complete < length h.complete = omega (arith, l, ap (λ c. cond c (length g.complete) 0) (eq-eqb g.version v same)) in
            (λ k. le-leb 1 (length h.complete) (omega (arith, less)) k && (le-ltb g.version h.version (omega (arith, e, same)) k || (eq-eqb g.version h.version (same ∙ sym e) k && lt-ltb (length g.complete) (length h.complete) less k))),
        (h, refl, e),
      )
      | inr other ↦ (λ k. le-leb 1 (length h.complete) (omega (arith, l)) k && (lt-ltb g.version h.version (omega (arith, e, other, b)) k || (eqb g.version h.version && ltb (length g.complete) (length h.complete))), (h, refl, e))
    ]

-- nothing is ahead of what is whole in the largest version
none_ahead : (o p : Option Held) (v n : ℕ) → 1 ≤ n → IfSome o (λ h. (h.version ≤ v) × (h.version ≡ v → length h.complete ≤ n)) → n ≤ count p v → is_ahead o p ≡ false
none_ahead None p v n some b l = refl
none_ahead (Some h) None v n some b l = absurd (omega (arith, some, l))
none_ahead (Some h) (Some g) v n some b l = elim (cases_eq g.version v) [
  | inr other ↦ absurd (omega (arith, some, l, ap (λ c. cond c (length g.complete) 0) (ne_eqb g.version v other)))
  | inl e ↦
      let whole : n ≤ length g.complete = omega (arith, l, ap (λ c. cond c (length g.complete) 0) (eq-eqb g.version v e)) in
      elim (cases_eq g.version h.version) [
        | inl equal ↦
            (λ k. leb 1 (length h.complete) && (le-ltb g.version h.version (omega (arith, b.0, e)) k || (eqb g.version h.version && le-ltb (length g.complete) (length h.complete) (omega (arith, whole, b.1 (sym equal ∙ e))) k)))
            ∙ nothing (leb 1 (length h.complete)) (eqb g.version h.version)
        | inr differ ↦
            (λ k. leb 1 (length h.complete) && (le-ltb g.version h.version (omega (arith, b.0, e)) k || (ne_eqb g.version h.version differ k && ltb (length g.complete) (length h.complete))))
            ∙ and_no (leb 1 (length h.complete))
      ]
]
  where
    nothing : (a b : Bool) → (a && (false || (b && false))) ≡ false
    nothing true true = refl
    nothing true false = refl
    nothing false b = refl

    and_no : (a : Bool) → (a && false) ≡ false
    and_no true = refl
    and_no false = refl

-- ---- a world of one width in which every smaller image is whole everywhere

pub record Below (wide : Bool) (row : Row) (w : World) : Type 0 where
  pub from : 1 ≤ row.image
  pub to : row.image ≤ known_images wide
  pub all : (m : ℕ) → m < length w.sites → wide_at w m ≡ wide
  pub newest_is : newest w.table row.image ≡ Some row
  pub whole : (j m : ℕ) (r : Row) → 1 ≤ j → j < row.image → newest w.table j ≡ Some r → m < length w.sites → page_count r ≤ count (held (store_at w m) j) r.version

store_agrees : (w : World) (m : ℕ) → WorldAgrees w → m < length w.sites → Agrees w.table (store_at w m)
store_agrees w m g h = (g.sites m h).store.agrees

-- what is kept is at most the newest version, with at most its pages
bounded_by : (table : List Row) (i : ℕ) (o : Option Held) (r : Row) → newest table i ≡ Some r → IfSome o (KeepsRow table i) → IfSome o (λ h. h.version ≤ r.version)
bounded_by table i None r n k = tt
bounded_by table i (Some h) r n k =
    let m = has_newest table i h.version k.row k.in_table in
    let twice : Some m.row ≡ Some r = sym m.is ∙ n in
    let same : m.row ≡ r = cc in
    subst (λ (q : Row). h.version ≤ q.version) same m.bound

few_complete : (table : List Row) (i : ℕ) (h : Held) (k : KeepsRow table i h) → length h.complete ≤ page_count k.row
few_complete table i h k =
    let e : length h.complete ≡ min (length h.complete) (length (object k.row)) = ap length k.first ∙ length-take (length h.complete) (object k.row) in
    let n : length (object k.row) ≡ page_count k.row = length-tabulate (page_count k.row) _ in
    omega (arith, e, n)

pub both : (table : List Row) (i : ℕ) (o : Option Held) (r : Row) → newest table i ≡ Some r → IfSome o (KeepsRow table i) → IfSome o (λ h. (h.version ≤ r.version) × (h.version ≡ r.version → length h.complete ≤ page_count r))
both table i None r n k = tt
both table i (Some h) r n k = (
  bounded_by table i (Some h) r n k,
  λ e.
      let twice : Some k.row ≡ Some r = sym k.in_table ∙ ap (row_at table i) e ∙ newest_in table i r n in
      let same : k.row ≡ r = cc in
      omega (arith, few_complete table i h k, ap page_count same),
)

least_from : (s t : Store) (k j i : ℕ) → j ≤ i → i < j + k → is_ahead (held s i) (held t i) ≡ true → ((l : ℕ) → j ≤ l → l < i → is_ahead (held s l) (held t l) ≡ false)
    → find (λ i. is_ahead (held s i) (held t i)) (range_with_len j k) ≡ Some i
least_from s t zero j i from to a none = absurd (omega (arith, from, to))
least_from s t (suc k) j i from to a none = elim (cases_lt j i) [
  | inl before ↦
      cond-false _ _ _ (none j (omega arith) before)
      ∙ least_from s t k (j + 1) i (omega (arith, before)) (omega (arith, to)) a (λ l low less. none l (omega (arith, low)) less)
  | inr past ↦
      let e : j ≡ i = omega (arith, past, from) in
      cond-true _ _ _ (ap (λ x. is_ahead (held s x) (held t x)) e ∙ a) ∙ ap (λ x. Some x) e
]

is_least : (wide : Bool) (s t : Store) (i : ℕ) → 1 ≤ i → i ≤ known_images wide → is_ahead (held s i) (held t i) ≡ true → ((j : ℕ) → 1 ≤ j → j < i → is_ahead (held s j) (held t j) ≡ false) → least_ahead wide s t ≡ Some i
unfolding least_ahead
is_least wide s t i from to a none = least_from s t (known_images wide) 1 i from (omega (arith, to)) a none

raised_count : (o : Option Held) (ahead g : Held) (v : ℕ) → ahead.version ≡ v → RaisedFrom o ahead g → count o v + 1 ≤ count (Some g) v
raised_count None ahead g v e r = omega (arith, r.1, ap (λ c. cond c (length g.complete) 0) (eq-eqb g.version v (r.0 ∙ e)))
raised_count (Some h) ahead g v e r =
    let now : count (Some g) v ≡ length g.complete = ap (λ c. cond c (length g.complete) 0) (eq-eqb g.version v (r.0 ∙ e)) in
    elim (cases_eq h.version ahead.version) [
      | inl same ↦ omega (arith, now, r.1 ∙ ap (λ c. cond c (length h.complete + 1) 1) (eq-eqb h.version ahead.version same), ap (λ c. cond c (length h.complete) 0) (eq-eqb h.version v (same ∙ e)))
      | inr other ↦ omega (arith, now, r.1 ∙ ap (λ c. cond c (length h.complete + 1) 1) (ne_eqb h.version ahead.version other), ap (λ c. cond c (length h.complete) 0) (ne_eqb h.version v (λ q. other (q ∙ sym e))))
    ]

no_newest : (r : Row) → None ≡ Some r → ⊥
no_newest r e = cc

pub raises : (free : FreeLaw) (law : RoundLaw) (wide : Bool) (row : Row) (w v : World) (a b : ℕ) → WorldAgrees w → Below wide row w → linked w a b ≡ true → IsOn w a → IsOn w b → Follows w (round a b) v
    → HasRoomAt v a → HasRoomAt v b → min (pages_kept (store_at w a) row) (pages_kept (store_at w b) row + 1) ≤ pages_kept (store_at v b) row
raises free law wide row w v a b good below link on_a on_b run room_a room_b = elim (cases_lt (pages_kept (store_at w b) row) (pages_kept (store_at w a) row)) [
  | inr enough ↦ omega (arith, enough, (free_grows free (round a b) w v good (round_free a b) run).pages b row below.newest_is)
  | inl more ↦
      let i = row.image in
      let ends = link_ends w a b good link in
      let agrees_a = store_agrees w a good ends.0 in
      let agrees_b = store_agrees w b good ends.1 in
      let ahead = more_ahead (held (store_at w a) i) (held (store_at w b) i) row.version (bounded_by w.table i (held (store_at w b) i) row below.newest_is (agrees_b.kept i)) more in
      let least = is_least wide (store_at w a) (store_at w b) i below.from below.to ahead.0 (λ j from less. smaller j from less (newest w.table j) refl ends.0 ends.1) in
      let width_a = below.all a ends.0 in
      let alike = width_a ∙ sym (below.all b ends.1) in
      let r = (law w v a b i good link alike on_a on_b run room_a room_b (ap (λ k. least_ahead k (store_at w a) (store_at w b)) width_a ∙ least)).0 in
      let twice : Some r.ahead ≡ Some ahead.1.0 = sym r.held_there ∙ ahead.1.1 in
      let same : r.ahead ≡ ahead.1.0 = cc in
      omega (arith, raised_count (held (store_at w b) i) r.ahead r.now row.version (ap (λ (h : Held). h.version) same ∙ ahead.1.2) r.raised, ap (λ o. count o row.version) r.held_now)
]
  where
    smaller : (j : ℕ) → 1 ≤ j → j < row.image → (o : Option Row) → newest w.table j ≡ o → a < length w.sites → b < length w.sites → is_ahead (held (store_at w a) j) (held (store_at w b) j) ≡ false
    smaller j from less (Some r) e there_a there_b =
        none_ahead (held (store_at w a) j) (held (store_at w b) j) r.version (page_count r) (omega arith) (both w.table j (held (store_at w a) j) r e ((store_agrees w a good there_a).kept j)) (below.whole j b r from less e there_b)
    smaller j from less None e there_a there_b = nothing_kept (held (store_at w a) j) (held (store_at w b) j) ((store_agrees w a good there_a).kept j) e
      where
        nothing_kept : (o p : Option Held) → IfSome o (KeepsRow w.table j) → newest w.table j ≡ None → is_ahead o p ≡ false
        nothing_kept None p k n = refl
        nothing_kept (Some h) p k n = absurd (no_newest (has_newest w.table j h.version k.row k.in_table).row (sym n ∙ (has_newest w.table j h.version k.row k.in_table).is))

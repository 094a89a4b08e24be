-- A round brings the mote that is behind one page.
use Rattle.std.proofs.Common.{◌≡◌, ◌≢◌, ℕ, zero, suc, ◌+◌, ◌-◌, ◌*◌, ◌<◌, ◌≤◌, Bool, true, false, ◌&&◌, ◌||◌, cond, eqb, leb, ltb, List, [], ◌∷◌, ◌++◌, length, map, replicate, get_or, Option, Some, None, option_map, IfSome, refl, sym, ap, subst, ◌∙◌, inl, inr, arith}
use Rattle.std.specs.List.{AllByRecursion, range_with_len, list_any, find}
use Rattle.std.proofs.lemmas.Bool.{eq-eqb, ne_eqb, cases_eq, or_cases, or_right}
use Rattle.std.proofs.lemmas.List.{length-append, get_or-set_same, get_or-set_other, get_or-take}
use Rattle.std.proofs.lemmas.List.FromFn.{length-map-range_with_len, get_or-map-range_with_len}
use Rattle.dg_bits.specs.Sets.{below}
use Rattle.dg_object.specs.Object.{Row, object, profile}
use Rattle.dg_slot.specs.Kept.{Held, with_page}
use Rattle.dg_volume.specs.Store.{Store, held}
use Rattle.dg_volume.specs.Changes.{paged}
use Rattle.dg_volume.specs.Table.{row_at}
use Rattle.dg_volume.specs.Agreement.{Agrees, KeepsRow}
use Rattle.dg_frame.specs.declared.Message.{Message}
use Rattle.dg_frame.specs.declared.Message.TheVariants.{Request}
use Rattle.dg_mote.specs.Model.{maintains}
use Rattle.dg_mote.specs.Summary.{advert_of, entries_of, ahead_in, entry_by, advertiser_ahead, entry_for, no_entry}
use Rattle.dg_frame.specs.Sizes.{known_images}
use Rattle.dg_mote.specs.Agreement.{ReceivesRow, ModeAgrees}
use Rattle.dg_mote.specs.Spots.{Spot, pace, ticked, after_ticks, last_sent, hears, hears_all}
use Rattle.dg_mote.specs.Drained.{Drained}
use Rattle.dg_mote.specs.Completing.{SendsEach, AskLaw, RequestLaw, ServeLaw, TakeLaw, DrainLaw, AdvertLaw, packet_message, KeepsNext, Asked}
use Rattle.dg_rules.specs.World.{World, Site, Sent, site, wide_at, store_at, linked, last_frame}
use Rattle.dg_rules.specs.Premises.{WorldAgrees}
use Rattle.dg_rounds.specs.Rounds.{round, times, paced, passed}
use Rattle.dg_base.specs.declared.events.Event.{Event}
use Rattle.dg_completion.specs.Rests.{IsFree}
use Rattle.dg_completion.specs.Completion.{Follows, Grows, IsOn, HasRoomAt, is_ahead, least_ahead, RoundLaw, Raises, RaisedFrom}
use Rattle.dg_completion.specs.Played.{DrainedLaw}
use Rattle.dg_completion.proofs.GrowLemmas.{free_grows, follows_split, all_append, all_replicate, all_times, link_ends}
use Rattle.dg_completion.proofs.WalkLemmas.{Spelled, WalkLaws, said_at, well_at, IsTold, At, Beside, mote_wide, wide_on, newer_frame, frame_told, tick_walks, ticks_walk}
use Rattle.dg_completion.proofs.PairLemmas.{hear_walks, at_beside, linked_beside, Between, between_none, between_first, between_second, frame_said, Alike, alike_on, hears_same, pairs_walk}

-- ---- ahead, by what adverts say

alike : (table : List Row) (i : ℕ) (h g : Held) → KeepsRow table i h → KeepsRow table i g → h.version ≡ g.version → (h.pages ≡ g.pages) × (h.crc ≡ g.crc)
alike table i h g a b e =
    let twice : Some a.row ≡ Some b.row = sym a.in_table ∙ ap (row_at table i) e ∙ b.in_table in
    let row : a.row ≡ b.row = cc in
    (a.pages ∙ ap (λ r. (profile r).pages) row ∙ sym b.pages, a.crc ∙ ap (λ r. (profile r).crc) row ∙ sym b.crc)

-- the test of an advert is the same as that of the stores
same_ahead : (table : List Row) (i : ℕ) (o p : Option Held) → IfSome o (KeepsRow table i) → IfSome p (KeepsRow table i) → is_ahead o p ≡ advertiser_ahead (entry_by o) p
same_ahead table i None None a b = refl
same_ahead table i None (Some g) a b = refl
same_ahead table i (Some h) None a b = refl
same_ahead table i (Some h) (Some g) a b = elim (cases_eq h.version g.version) [
  | inl e ↦
      let both = alike table i h g a b e in
      ap (λ c. leb 1 (length h.complete) && (ltb g.version h.version || (c && ltb (length g.complete) (length h.complete))))
      (eq-eqb g.version h.version (sym e) ∙ sym (λ k. (eq-eqb h.version g.version e k && eq-eqb h.pages g.pages both.0 k) && eq-eqb h.crc g.crc both.1 k))
  | inr other ↦
      ap (λ c. leb 1 (length h.complete) && (ltb g.version h.version || (c && ltb (length g.complete) (length h.complete))))
      (ne_eqb g.version h.version (λ e. other (sym e)) ∙ sym (λ k. (ne_eqb h.version g.version other k && eqb h.pages g.pages) && eqb h.crc g.crc))
]

-- two tests with the same result at each of the numbers find the same one
find_same : (f g : ℕ → Bool) (k j : ℕ) → ((i : ℕ) → j ≤ i → i < j + k → f i ≡ g i) → find f (range_with_len j k) ≡ find g (range_with_len j k)
find_same f g zero j same = refl
find_same f g (suc k) j same =
    let here = same j (omega arith) (omega arith) in
    let others = find_same f g k (j + 1) (λ i low less. same i (omega (arith, low)) (omega (arith, less))) in
    λ l. cond (here l) (Some j) (others l)

own_entry : (wide : Bool) (s : Store) (i : ℕ) → 1 ≤ i → i < 1 + known_images wide → entry_for (entries_of wide s) i ≡ entry_by (held s i)
own_entry wide s i from to =
    get_or-map-range_with_len (λ j. entry_by (held s j)) 1 (known_images wide) (i - 1) i no_entry (omega (arith, from, to)) (omega (arith, from))

entry_count : (wide : Bool) (s : Store) → length (entries_of wide s) ≡ known_images wide
entry_count wide s = length-map-range_with_len (λ j. entry_by (held s j)) 1 (known_images wide)

same_least : (table : List Row) (wide : Bool) (s t : Store) → Agrees table s → Agrees table t → least_ahead wide s t ≡ ahead_in (entries_of wide s) t
unfolding least_ahead ahead_in
same_least table wide s t a b =
    let here : ℕ → Bool = λ i. advertiser_ahead (entry_for (entries_of wide s) i) (held t i) in
    find_same (λ i. is_ahead (held s i) (held t i)) here (known_images wide) 1
    (λ i from to. same_ahead table i (held s i) (held t i) (a.kept i) (b.kept i) ∙ ap (λ e. advertiser_ahead e (held t i)) (sym (own_entry wide s i from to)))
    ∙ ap (λ n. find here (range_with_len 1 n)) (sym (entry_count wide s))

least_same : (wide : Bool) (s t s2 t2 : Store) → ((i : ℕ) → held s2 i ≡ held s i) → ((i : ℕ) → held t2 i ≡ held t i) → least_ahead wide s2 t2 ≡ least_ahead wide s t
unfolding least_ahead
least_same wide s t s2 t2 a b =
    find_same (λ i. is_ahead (held s2 i) (held t2 i)) (λ i. is_ahead (held s i) (held t i)) (known_images wide) 1 (λ i from to k. is_ahead (a i k) (b i k))

raised : (o : Option Held) (ahead kept : Held) (page : List ℕ) → kept.version ≡ ahead.version → KeepsNext o ahead kept → RaisedFrom o ahead (with_page kept page)
raised None ahead kept page v n = (v, length-append kept.complete (page ∷ []) ∙ ap (λ (c : List (List ℕ)). length c + 1) n.complete)
raised (Some h) ahead kept page v n = (
  v,
  elim n [
    | inl same ↦
        length-append kept.complete (page ∷ []) ∙ ap (λ (g : Held). length g.complete + 1) same.1
        ∙ sym (ap (λ b. cond b (length h.complete + 1) 1) (eq-eqb h.version ahead.version same.0))
    | inr newer ↦
        length-append kept.complete (page ∷ []) ∙ ap (λ (c : List (List ℕ)). length c + 1) newer.1.complete
        ∙ sym (ap (λ b. cond b (length h.complete + 1) 1) (ne_eqb h.version ahead.version (λ e. omega (arith, newer.0, e))))
  ],
)

drained_later : (x : Spot) (now later : ℕ) → now ≤ later → Drained x now → Drained x later
drained_later x now later h d = record { timer = d.timer; maintains = d.maintains; unheard = d.unheard; gesture = d.gesture; order = d.order; windows = λ after i from. d.windows after i (omega (arith, h, from)) }

store_at_is : (w : World) (m : ℕ) (x : Spot) → At w m x → store_at w m ≡ x.store
store_at_is w m x at = ap (λ (s : Site). s.store) at.site_is

at_on : (w : World) (m : ℕ) → m < length w.sites → (o : IsOn w m) → At w m (record { store = store_at w m; mote = o.running.mote })
at_on w m h o = record { there = h; image_version = o.running.image_version; site_is = ap (λ r. record { store = (site w m).store; runs = r }) o.runs }

told_of : (m : ℕ) (wide : Bool) (f : Option Sent) (o : Option Message) (message : Message) → IsTold m wide f o → o ≡ Some message → (f ≡ frame_told m (Some message)) × Spelled wide message
told_of m wide f o message t e = subst (IsTold m wide f) e t

some_there : (xs : List (Option Held)) (i : ℕ) (h : Held) → get_or xs i None ≡ Some h → i < length xs
some_there [] i h e = cc
some_there (x ∷ xs) zero h e = omega arith
some_there (x ∷ xs) (suc i) h e = omega (arith, some_there xs i h e)

linked_back : (a b : ℕ) (w : World) → linked w a b ≡ true → linked w b a ≡ true
linked_back a b w e = by_links w.links e
  where
    or_swap : (x y : Bool) → (x || y) ≡ (y || x)
    or_swap true true = refl
    or_swap true false = refl
    or_swap false true = refl
    or_swap false false = refl

    by_links : (ls : List (ℕ × ℕ)) → list_any (λ (k : ℕ × ℕ). (eqb k.0 a && eqb k.1 b) || (eqb k.0 b && eqb k.1 a)) ls ≡ true → list_any (λ (k : ℕ × ℕ). (eqb k.0 b && eqb k.1 a) || (eqb k.0 a && eqb k.1 b)) ls ≡ true
    by_links [] e = e
    by_links (l ∷ ls) e = elim (or_cases ((eqb l.0 a && eqb l.1 b) || (eqb l.0 b && eqb l.1 a)) _ e) [
      | inl here ↦ ap (λ c. c || list_any (λ (k : ℕ × ℕ). (eqb k.0 b && eqb k.1 a) || (eqb k.0 a && eqb k.1 b)) ls) (or_swap (eqb l.0 b && eqb l.1 a) (eqb l.0 a && eqb l.1 b) ∙ here)
      | inr more ↦ or_right ((eqb l.0 b && eqb l.1 a) || (eqb l.0 a && eqb l.1 b)) (list_any (λ (k : ℕ × ℕ). (eqb k.0 b && eqb k.1 a) || (eqb k.0 a && eqb k.1 b)) ls) (by_links ls more)
    ]

module _ (laws : WalkLaws) (drain : DrainLaw) (advert : AdvertLaw) (ask : AskLaw) (request : RequestLaw) (serve : ServeLaw) (take_all_packets : TakeLaw) where
  room_at : (es : List Event) (u v : World) (m : ℕ) (x : Spot) → WorldAgrees u → AllByRecursion IsFree es → Follows u es v → At u m x → HasRoomAt v m → 3 ≤ x.store.room
  room_at es u v m x good all f at room = omega (arith, room, (free_grows laws.free es u v good all f).room m, ap (λ (s : Store). s.room) (store_at_is u m x at))

  -- from the moment at which b asks
  second : (w w3 w4 v : World) (a b i : ℕ) (x1 x2 z1 z2 : Spot) → Follows w4 (paced b ∷ passed b a ∷ times 48 (paced a ∷ passed a b ∷ [])) v → w4.moment ≡ w3.moment → a ≢ b → linked w a b ≡ true → w3.links ≡ w.links → Alike w3 a b → Grows w3 w4 → WorldAgrees w3
      → At w3 a x2 → Beside b w3 w4 → At w4 b z2 → x2.store ≡ x1.store → x2.mote.id ≡ x1.mote.id → x1.mote.id ≡ a → z1.mote.id ≡ b → Drained x2 w3.moment
      → (ahead : Held) → held x1.store i ≡ Some ahead → Asked w3.table z1 z2 w3.moment x1.mote.id i ahead
      → ((j : ℕ) → held x1.store j ≡ held (store_at w a) j) → ((j : ℕ) → held z1.store j ≡ held (store_at w b) j) → Between a b w w3
      → Raises (store_at w a) (store_at w b) i (store_at v b) × ((j : ℕ) → held (store_at v a) j ≡ held (store_at w a) j) × ((m : ℕ) → m ≢ a → m ≢ b → site v m ≡ site w m)
  unfolding Follows
  second w w3 w4 v a b i x1 x2 z1 z2 f time other link links alike3 g4 good3 at_x2 beside4 at_z2 same_store same_id id_a id_b drained_a ahead kept_a asked kept1 kept2 between3 =
      let other2 : b ≢ a = λ e. other (sym e) in
      let kept = asked.kept in
      let page = length kept.complete in
      -- a tick at b: the request
      let w5 = f.0 in
      let k5 = tick_walks w4 w5 b z2 f.1 at_z2 f.2 in
      let g5 = laws.free w4 w5 (paced b) f.1 g4.good refl f.2 in
      let l5 = request z2 w4.moment x1.mote.id i kept asked.asks asked.server asked.tries (omega (arith, asked.due, time)) asked.gesture in
      let z3 = ticked z2 (w4.moment + pace) in
      let id_z2 : z2.mote.id ≡ b = asked.id_is ∙ id_b in
      let message = Request z2.mote.id x1.mote.id i kept.version page (below 48) in
      let said : last_frame w5 b ≡ frame_told b (Some message) = k5.frame ∙ ap (λ o. newer_frame b o (last_frame w4 b)) l5.sent ∙ frame_said b message in
      let at_a4 = at_beside b a w3 w4 x2 other beside4 at_x2 in
      let at_a5 = at_beside b a w4 w5 x2 other k5.beside at_a4 in
      let link5 = linked_back a b w5 (linked_beside a b w w5 (k5.beside.links ∙ g4.links ∙ links) link) in
      let asking : ReceivesRow w4.table z2.store asked.asks.r = subst (ModeAgrees w4.table z2.store) asked.asks.receives (well_at w4 b z2 g4.good at_z2).well.mode in
      let some : 1 ≤ i = subst (λ n. 1 ≤ n) asked.asks.image_is asking.not_golden in
      -- a hears it
      let e6 = f.3 in
      let w6 = e6.0 in
      let alike4 = alike_on a b w3 w4 g4 alike3 in
      let alike5 = alike_on a b w4 w5 g5 alike4 in
      let said4 : Spelled (wide_at w4 b) message = subst (λ o. IfSome o (Spelled (wide_at w4 b))) l5.sent (said_at laws w4 b z2 g4.good at_z2) in
      let spelled6 = hears_same w5 b a x2 message g5.good at_a5 (sym alike5) (subst (λ wide. Spelled wide message) (sym (wide_on w4 w5 b g5)) said4) in
      let k6 = hear_walks w5 w6 b a x2 message e6.1 at_a5 link5 said spelled6 e6.2 in
      let g6 = laws.free w5 w6 (passed b a) e6.1 g5.good refl e6.2 in
      let kept_x2 : held x2.store i ≡ Some ahead = ap (λ s. held s i) same_store ∙ kept_a in
      let drained5 = drained_later x2 w3.moment w5.moment (omega (arith, k5.moment, time)) drained_a in
      let not_b : z2.mote.id ≢ x2.mote.id = λ e. other (sym id_a ∙ sym same_id ∙ sym e ∙ id_z2) in
      let l6 = serve x2 w5.moment z2.mote.id i page ahead drained5 not_b kept_x2 asked.less in
      let same_message : message ≡ Request z2.mote.id x2.mote.id i ahead.version page (below 48) = λ k. Request z2.mote.id (sym same_id k) i (asked.version k) page (below 48) in
      let x3 = hears x2 w5.moment message in
      let x3s = hears x2 w5.moment (Request z2.mote.id x2.mote.id i ahead.version page (below 48)) in
      let x3_same : x3 ≡ x3s = ap (hears x2 w5.moment) same_message in
      let time6 : w6.moment ≡ w5.moment = k6.moment ∙ omega arith in
      let bytes = get_or ahead.complete page [] in
      let ms = map (packet_message x2.mote.id i ahead.version page bytes) (range_with_len 0 48) in
      let count : length ms ≡ 48 = length-map-range_with_len (packet_message x2.mote.id i ahead.version page bytes) 0 48 in
      let sends : SendsEach ms x3 w6.moment = subst (λ t. SendsEach ms x3 t) (sym time6) (subst (λ z. SendsEach ms z w5.moment) (sym x3_same) l6.sends) in
      let at_z6 = at_beside a b w5 w6 z3 other2 k6.beside k5.at in
      let link6 = linked_beside a b w w6 (k6.beside.links ∙ k5.beside.links ∙ g4.links ∙ links) link in
      -- 48 packets
      let k7 = pairs_walk laws ms w6 v a b x3 z3 g6.good k6.at at_z6 other link6 (alike_on a b w5 w6 g6 alike5) (subst (λ n. Follows w6 (times n (paced a ∷ passed a b ∷ [])) v) (sym count) e6.3) sends in
      let well6 = (well_at w6 b z3 g6.good at_z6).well in
      let id_z3 : z3.mote.id ≡ b = (well_at w6 b z3 g6.good at_z6).id in
      let well_a = (well_at w5 a x2 g5.good at_a5).well in
      let row_a : KeepsRow w5.table i ahead = subst (λ o. IfSome o (KeepsRow w5.table i)) kept_x2 (well_a.store.agrees.kept i) in
      let table6 : w5.table ≡ w6.table = sym g6.table in
      let in6 : row_at w6.table i kept.version ≡ Some row_a.row = (λ k. row_at (sym table6 k) i (asked.version k)) ∙ row_a.in_table in
      let l7 = take_all_packets w6.table z3 w6.moment x2.mote.id i kept row_a.row g6.good.table well6 l5.asks (λ e. other (sym id_a ∙ sym same_id ∙ e ∙ id_z3)) in6 in
      let whole_page = get_or (object row_a.row) page [] in
      let bytes_same : bytes ≡ whole_page = ap (λ c. get_or c page []) row_a.first ∙ get_or-take (length ahead.complete) (object row_a.row) page [] asked.less in
      let ms_same : ms ≡ map (packet_message x2.mote.id i kept.version page whole_page) (range_with_len 0 48) = λ k. map (packet_message x2.mote.id i (sym asked.version k) page (bytes_same k)) (range_with_len 0 48) in
      let end_b : hears_all ms z3 w6.moment ≡ record { store = paged i whole_page z3.store; mote = maintains z3.mote (w6.moment + 48 * pace) 0 } = ap (λ l. hears_all l z3 w6.moment) ms_same ∙ l7 in
      let end_a : after_ticks (length ms) x3 w6.moment ≡ record { store = x2.store; mote = maintains x2.mote (w5.moment + 48 * pace) 0 } =
      (λ k. after_ticks (count k) (x3_same k) (time6 k)) ∙ l6.ends in
      let store_b : store_at v b ≡ paged i whole_page z2.store =
      store_at_is v b (hears_all ms z3 w6.moment) k7.at_b ∙ ap (λ (z : Spot). z.store) end_b ∙ ap (paged i whole_page) l5.store in
      let store_a : store_at v a ≡ x2.store = store_at_is v a (after_ticks (length ms) x3 w6.moment) k7.at_a ∙ ap (λ (z : Spot). z.store) end_a in
      let there : i < length z2.store.kept = some_there z2.store.kept i kept asked.asks.held_now in (
        record {
          ahead = ahead;
          held_there = sym (kept1 i) ∙ kept_a;
          now = with_page kept whole_page;
          held_now = ap (λ s. held s i) store_b ∙ get_or-set_same z2.store.kept i (option_map (λ h. with_page h whole_page) (held z2.store i)) None there ∙ ap (option_map (λ h. with_page h whole_page)) asked.asks.held_now;
          raised = raised (held (store_at w b) i) ahead kept whole_page asked.version (subst (λ o. KeepsNext o ahead kept) (kept2 i) asked.next);
          others = λ j different. ap (λ s. held s j) store_b ∙ get_or-set_other z2.store.kept i j (option_map (λ h. with_page h whole_page) (held z2.store i)) None different ∙ asked.others j different ∙ kept2 j;
        },
        λ j. ap (λ s. held s j) (store_a ∙ same_store) ∙ kept1 j,
        λ m h l. k7.between.others m h l ∙ k6.beside.others m h ∙ k5.beside.others m l ∙ beside4.others m l ∙ between3.others m h l,
      )

  pub round_raises : RoundLaw
  unfolding round Follows
  round_raises w v a b i good link alike on_a on_b run room_a room_b least =
      let pair : List Event = paced a ∷ passed a b ∷ [] in
      let p48 : List Event = times 48 pair in
      let t2 : List Event = passed a b ∷ paced b ∷ passed b a ∷ p48 in
      let t1 : List Event = replicate 3 (paced a) ++ t2 in
      let t0 : List Event = replicate 50 (paced b) ++ t1 in
      let f48 : AllByRecursion IsFree p48 = all_times IsFree 48 pair (refl, (refl, tt)) in
      let f2 : AllByRecursion IsFree t2 = (refl, (refl, (refl, f48))) in
      let fa : (n m : ℕ) → AllByRecursion IsFree (replicate n (paced m)) = λ n m. all_replicate IsFree n (paced m) refl in
      let f1 : AllByRecursion IsFree t1 = all_append IsFree (replicate 3 (paced a)) t2 (fa 3 a) f2 in
      let f0 : AllByRecursion IsFree t0 = all_append IsFree (replicate 50 (paced b)) t1 (fa 50 b) f1 in
      let ends = link_ends w a b good link in
      let other : a ≢ b = ends.2 in
      let other2 : b ≢ a = λ e. other (sym e) in
      -- 50 ticks at a
      let xa : Spot = record { store = store_at w a; mote = on_a.running.mote } in
      let zb : Spot = record { store = store_at w b; mote = on_b.running.mote } in
      let at_a = at_on w a ends.0 on_a in
      let at_b = at_on w b ends.1 on_b in
      let s1 = follows_split w v (replicate 50 (paced a)) t0 run in
      let w1 = s1.0 in
      let k1 = ticks_walk laws 50 w w1 a xa None good at_a tt s1.1 in
      let g1 = free_grows laws.free (replicate 50 (paced a)) w w1 good (fa 50 a) s1.1 in
      let x1 = after_ticks 50 xa w.moment in
      let l1 = drain w.table xa w.moment good.table (well_at w a xa good at_a).well (room_at t0 w1 v a x1 g1.good f0 s1.2 k1.at room_a) in
      -- 50 ticks at b
      let s2 = follows_split w1 v (replicate 50 (paced b)) t1 s1.2 in
      let w2 = s2.0 in
      let b1 = at_beside a b w w1 zb other2 k1.beside at_b in
      let k2 = ticks_walk laws 50 w1 w2 b zb None g1.good b1 tt s2.1 in
      let g2 = free_grows laws.free (replicate 50 (paced b)) w1 w2 g1.good (fa 50 b) s2.1 in
      let z1 = after_ticks 50 zb w1.moment in
      let l2 = drain w1.table zb w1.moment g1.good.table (well_at w1 b zb g1.good b1).well (room_at t1 w2 v b z1 g2.good f1 s2.2 k2.at room_b) in
      -- 3 ticks at a
      let s3 = follows_split w2 v (replicate 3 (paced a)) t2 s2.2 in
      let w3 = s3.0 in
      let a2 = at_beside b a w1 w2 x1 other k2.beside k1.at in
      let k3 = ticks_walk laws 3 w2 w3 a x1 None g2.good a2 tt s3.1 in
      let g3 = free_grows laws.free (replicate 3 (paced a)) w2 w3 g2.good (fa 3 a) s3.1 in
      let l3 = advert w2.table x1 w2.moment (well_at w2 a x1 g2.good a2).well (drained_later x1 (w.moment + 50 * pace) w2.moment (omega (arith, k1.moment, k2.moment)) l1.drained) in
      let x2 = after_ticks 3 x1 w2.moment in
      let id_a : x1.mote.id ≡ a = (well_at w2 a x1 g2.good a2).id in
      let alike2 = alike_on a b w1 w2 g2 (alike_on a b w w1 g1 alike) in
      let alike3 = alike_on a b w2 w3 g3 alike2 in
      -- b hears the advert
      let b3 = at_beside a b w2 w3 z1 other2 k3.beside k2.at in
      let link3 = linked_beside a b w w3 (g3.links ∙ g2.links ∙ g1.links) link in
      let wide = z1.mote.wide in
      let own = advert_of x1.mote.id wide x1.store in
      let wide_b : wide ≡ wide_at w3 b = mote_wide w3 b z1 g3.good b3 in
      let same_wide : x1.mote.wide ≡ wide = mote_wide w2 a x1 g2.good a2 ∙ sym (wide_on w2 w3 a g3) ∙ alike3 ∙ sym wide_b in
      let told = told_of a (wide_at w2 a) (last_frame w3 a) (last_sent 3 x1 w2.moment None) own k3.told (l3.sent None ∙ ap (λ k. Some (advert_of x1.mote.id k x1.store)) same_wide) in
      let spelled = hears_same w3 a b z1 own g3.good b3 alike3 (subst (λ k. Spelled k own) (sym (wide_on w2 w3 a g3)) told.1) in
      let e4 = s3.2 in
      let w4 = e4.0 in
      let k4 = hear_walks w3 w4 a b z1 own e4.1 b3 link3 told.0 spelled e4.2 in
      let g4 = laws.free w3 w4 (passed a b) e4.1 g3.good refl e4.2 in
      let z2 = hears z1 w3.moment own in
      let id_b : z1.mote.id ≡ b = (well_at w3 b z1 g3.good b3).id in
      let table31 : w2.table ≡ w3.table = sym g3.table in
      let agrees_x1 : Agrees w3.table x1.store = subst (λ t. Agrees t x1.store) table31 (well_at w2 a x1 g2.good a2).well.store.agrees in
      let well_z1 = (well_at w3 b z1 g3.good b3).well in
      let wide_w : wide ≡ wide_at w a = wide_b ∙ sym alike3 ∙ wide_on w2 w3 a g3 ∙ wide_on w1 w2 a g2 ∙ wide_on w w1 a g1 in
      let is_ahead_now : ahead_in (entries_of wide x1.store) z1.store ≡ Some i =
      sym (same_least w3.table wide x1.store z1.store agrees_x1 well_z1.store.agrees) ∙ least_same wide (store_at w a) (store_at w b) x1.store z1.store l1.kept l2.kept
      ∙ ap (λ k. least_ahead k (store_at w a) (store_at w b)) wide_w ∙ least in
      let l4 = ask w3.table z1 w3.moment x1.mote.id x1.store i well_z1 (drained_later z1 (w1.moment + 50 * pace) w3.moment (omega (arith, k2.moment, k3.moment)) l2.drained) agrees_x1
      (λ e. other (sym id_a ∙ e ∙ id_b)) is_ahead_now (room_at (paced b ∷ passed b a ∷ p48) w4 v b z2 g4.good (refl, (refl, f48)) e4.3 k4.at room_b) in
      second w w3 w4 v a b i x1 x2 z1 z2 e4.3 (omega (arith, k4.moment)) other link (g3.links ∙ g2.links ∙ g1.links) alike3 g4 g3.good
      (subst (At w3 a) refl k3.at) k4.beside k4.at l3.store l3.id id_a id_b (drained_later x2 (w2.moment + 3 * pace) w3.moment (omega (arith, k3.moment)) l3.drained)
      l4.0 l4.1 l4.2 l1.kept l2.kept (between_first a b w w1 w3 k1.beside (between_second a b w1 w2 w3 k2.beside (between_first a b w2 w3 w3 k3.beside (between_none a b w3))))

-- ---- the first ticks of a round

pub ticks_drain : WalkLaws → DrainLaw → DrainedLaw
ticks_drain laws drain w v m good there on run room =
    let x : Spot = record { store = store_at w m; mote = on.running.mote } in
    let at = at_on w m there on in
    let k = ticks_walk laws 50 w v m x None good at tt run in
    let y = after_ticks 50 x w.moment in
    let store : store_at v m ≡ y.store = store_at_is v m y k.at in
    let l = drain w.table x w.moment good.table (well_at w m x good at).well (omega (arith, room, ap (λ (s : Store). s.room) store)) in
    record {
      running = record { image_version = k.at.image_version; mote = y.mote };
      runs = ap (λ (s : Site). s.runs) k.at.site_is;
      drained = subst (λ (s : Store). Drained (record { store = s; mote = y.mote }) v.moment) (sym store) (drained_later y (w.moment + 50 * pace) v.moment (omega (arith, k.moment)) l.drained);
      kept = λ j. ap (λ (s : Store). held s j) store ∙ l.kept j;
      others = λ j h. k.beside.others j h;
    }

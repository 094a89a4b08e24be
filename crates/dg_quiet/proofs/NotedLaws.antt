-- The times that are kept are those of the newest notes, and a list with a window for each image is such a map.
use Rattle.std.specs.Prelude.{◌≡◌, ℕ, ◌+◌, ◌-◌, ◌≤◌, Bool, true, false, Decides, ◌&&◌, ◌↔◌, Option, None, Some, List, [], ◌∷◌, length}
use Rattle.std.proofs.Common.{zero, suc, get_or, cond, eqb, ltb, refl, sym, ap, ◌∙◌, inl, inr, arith}
use Rattle.std.proofs.Math.ListN.{replicate, set as put}
use Rattle.std.proofs.lemmas.Bool.{cases_eq, cases_lt, eq-eqb, ne_eqb, lt-ltb, le-ltb, leb-true, le-leb, and_parts, and_from}
use Rattle.std.proofs.lemmas.List.{get_or-set_other, get_or-set_same}
use Rattle.std.specs.Cmp.{nat_cmp_total, unsigned_tied}
use Rattle.std.specs.Ordering.{nat_cmp}
use Rattle.std.specs.FinMap as map
use Rattle.dg_quiet.specs.Times.{request_window, packet_window}
use Rattle.dg_quiet.specs.Noted.{Moments, Noted, IsPast, is_past, may_ask, moments_from, moments_of}
use Rattle.dg_quiet.specs.Histories.{Note, Request, Packet, noted_after, last_request, last_packet_heard}

same_moments : (m n : Moments) → ((q : ℕ) → map.get m q ≡ map.get n q) → m ≡ n
same_moments m n each = map.same_map nat_cmp_total map.nat_cmp-IsAntisymmetric m n each

get-none : (q : ℕ) → map.get (map.empty {X = ℕ} {R = nat_cmp}) q ≡ None
get-none q = map.get-empty nat_cmp q

get-put : (m : Moments) (image moment q : ℕ) → map.get (map.insert m image moment) q ≡ cond (eqb q image) (Some moment) (map.get m q)
get-put m image moment q =
    map.get-insert nat_cmp_total m image moment q ∙ ap (λ b. cond b (Some moment) (map.get m q)) (unsigned_tied q image)

-- ---- the newest note of an image is the one that counts

pub request-noted : (notes : List Note) (image : ℕ) → map.get (noted_after notes).requests image ≡ last_request notes image
request-noted [] image = get-none image
request-noted (Request moment i ∷ earlier) image =
    get-put (noted_after earlier).requests i moment image ∙ ap (cond (eqb image i) (Some moment)) (request-noted earlier image)
request-noted (Packet moment i ∷ earlier) image = request-noted earlier image

pub packet-noted : (notes : List Note) (image : ℕ) → map.get (noted_after notes).packets image ≡ last_packet_heard notes image
packet-noted [] image = get-none image
packet-noted (Packet moment i ∷ earlier) image =
    get-put (noted_after earlier).packets i moment image ∙ ap (cond (eqb image i) (Some moment)) (packet-noted earlier image)
packet-noted (Request moment i ∷ earlier) image = packet-noted earlier image

pub may_ask-noted : (notes : List Note) (moment image : ℕ) → may_ask (noted_after notes) moment image
    ≡ (is_past (last_request notes image) request_window moment && is_past (last_packet_heard notes image) packet_window moment)
may_ask-noted notes moment image =
    λ i. is_past (request-noted notes image i) request_window moment && is_past (packet-noted notes image i) packet_window moment

-- ---- a list with a window for each image

at_head : (a q : ℕ) (x : Option ℕ) (rest : List (Option ℕ)) → q ≡ a → cond (ltb q a) None (get_or (x ∷ rest) (q - a) None) ≡ x
at_head a q x rest e =
    let b : ltb q a ≡ false = le-ltb q a (omega arith) in
    let z : q - a ≡ 0 = omega arith in
    ap (λ t. cond t None (get_or (x ∷ rest) (q - a) None)) b ∙ ap (λ n. get_or (x ∷ rest) n None) z

at_rest : (a q : ℕ) (x : Option ℕ) (rest : List (Option ℕ)) → (q ≡ a → ⊥) → cond (ltb q a) None (get_or (x ∷ rest) (q - a) None) ≡ cond (ltb q (a + 1)) None (get_or rest (q - (a + 1)) None)
at_rest a q x rest ne =
    elim (cases_lt q a) [
      | inl low ↦
          let before : ltb q a ≡ true = lt-ltb q a low in
          let still : ltb q (a + 1) ≡ true = lt-ltb q (a + 1) (omega arith) in
          ap (λ t. cond t None (get_or (x ∷ rest) (q - a) None)) before ∙ sym (ap (λ t. cond t None (get_or rest (q - (a + 1)) None)) still)
      | inr high ↦
          let past : ltb q a ≡ false = le-ltb q a high in
          let after : ltb q (a + 1) ≡ false = le-ltb q (a + 1) (omega arith) in
          let next : q - a ≡ suc (q - (a + 1)) = omega arith in
          ap (λ t. cond t None (get_or (x ∷ rest) (q - a) None)) past
          ∙ ap (λ n. get_or (x ∷ rest) n None) next
          ∙ sym (ap (λ t. cond t None (get_or rest (q - (a + 1)) None)) after)
    ]

either_same : (b : Bool) (x : Option ℕ) → x ≡ cond b x x
either_same true x = refl
either_same false x = refl

get-moments_from : (a : ℕ) (places : List (Option ℕ)) (q : ℕ) → map.get (moments_from a places) q ≡ cond (ltb q a) None (get_or places (q - a) None)
get-moments_from a [] q = get-none q ∙ either_same (ltb q a) None
get-moments_from a (None ∷ rest) q =
    get-moments_from (a + 1) rest q
    ∙ elim (cases_eq q a) [
      | inl e ↦ let b : ltb q (a + 1) ≡ true = lt-ltb q (a + 1) (omega arith) in ap (λ t. cond t None (get_or rest (q - (a + 1)) None)) b ∙ sym (at_head a q None rest e)
      | inr ne ↦ sym (at_rest a q None rest ne)
    ]
get-moments_from a (Some moment ∷ rest) q =
    get-put (moments_from (a + 1) rest) a moment q
    ∙ elim (cases_eq q a) [
      | inl e ↦ ap (λ t. cond t (Some moment) (map.get (moments_from (a + 1) rest) q)) (eq-eqb q a e) ∙ sym (at_head a q (Some moment) rest e)
      | inr ne ↦
          ap (λ t. cond t (Some moment) (map.get (moments_from (a + 1) rest) q)) (ne_eqb q a ne)
          ∙ get-moments_from (a + 1) rest q
          ∙ sym (at_rest a q (Some moment) rest ne)
    ]

-- image 1 comes first
pub get-moments_of : (places : List (Option ℕ)) (image : ℕ) → 1 ≤ image → map.get (moments_of places) image ≡ get_or places (image - 1) None
unfolding moments_of
get-moments_of places image h =
    let b : ltb image 1 ≡ false = le-ltb image 1 h in
    get-moments_from 1 places image ∙ ap (λ t. cond t None (get_or places (image - 1) None)) b

get-moments_of-zero : (places : List (Option ℕ)) → map.get (moments_of places) 0 ≡ None
unfolding moments_of
get-moments_of-zero places = get-moments_from 1 places 0

moments_from-none : (n image : ℕ) → moments_from image (replicate n None) ≡ map.empty
moments_from-none zero image = refl
moments_from-none (suc n) image = moments_from-none n (image + 1)

pub moments_of-none : (n : ℕ) → moments_of (replicate n None) ≡ map.empty
unfolding moments_of
moments_of-none n = moments_from-none n 1

-- a time is written to the window of its image
pub moments_of-put : (places : List (Option ℕ)) (image moment : ℕ) → 1 ≤ image → image ≤ length places → moments_of (put places (image - 1) (Some moment)) ≡ map.insert (moments_of places) image moment
moments_of-put places image moment low high =
    same_moments _ _ (λ q.
    elim (cases_lt 0 q) [
      | inl from_one ↦
          get-moments_of (put places (image - 1) (Some moment)) q from_one
          ∙ elim (cases_eq q image) [
            | inl e ↦
                ap (λ n. get_or (put places (image - 1) (Some moment)) (n - 1) None) e
                ∙ get_or-set_same places (image - 1) (Some moment) None (omega arith)
                ∙ sym (ap (λ t. cond t (Some moment) (map.get (moments_of places) q)) (eq-eqb q image e))
            | inr ne ↦
                get_or-set_other places (image - 1) (q - 1) (Some moment) None (omega arith)
                ∙ sym (get-moments_of places q from_one)
                ∙ sym (ap (λ t. cond t (Some moment) (map.get (moments_of places) q)) (ne_eqb q image ne))
          ]
          ∙ sym (get-put (moments_of places) image moment q)
      | inr at_zero ↦
          let zero_is : q ≡ 0 = omega arith in
          ap (map.get (moments_of (put places (image - 1) (Some moment)))) zero_is
          ∙ get-moments_of-zero (put places (image - 1) (Some moment))
          ∙ sym (get-moments_of-zero places)
          ∙ ap (map.get (moments_of places)) (sym zero_is)
          ∙ sym (ap (λ t. cond t (Some moment) (map.get (moments_of places) q)) (ne_eqb q image (omega arith)))
          ∙ sym (get-put (moments_of places) image moment q)
    ])

-- ---- the test and what it says

is_past-is : (last : Option ℕ) (quiet moment : ℕ) → Decides (is_past last quiet moment) (IsPast last quiet moment)
is_past-is None quiet moment = (λ _. tt, λ _. refl)
is_past-is (Some m) quiet moment = (leb-true (m + quiet) moment, le-leb (m + quiet) moment)

pub may_ask-is : (n : Noted) (moment image : ℕ) → (may_ask n moment image ≡ true) ↔ (IsPast (map.get n.requests image) request_window moment × IsPast (map.get n.packets image) packet_window moment)
may_ask-is n moment image =
    let r = is_past-is (map.get n.requests image) request_window moment in
    let p = is_past-is (map.get n.packets image) packet_window moment in
    (λ is. let parts = and_parts _ _ is in (r.0 parts.0, p.0 parts.1), λ both. and_from _ _ (r.1 both.0) (p.1 both.1))

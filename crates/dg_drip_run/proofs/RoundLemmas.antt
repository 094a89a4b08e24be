-- Rounds and sweeps, played event by event.
use Rattle.std.proofs.Common.{◌≡◌, ◌∙◌, ℕ, zero, suc, ◌<◌, ◌≤◌, ◌+◌, ◌-◌, List, [], ◌∷◌, ◌++◌, length, take, get_or, false, refl, ap, sym, subst, append_assoc, append-nil, arith, Result, Ok, Err}
use Rattle.std.specs.Prelude.{IsErrAnd}
use Rattle.std.specs.List.{flat_map, range_with_len}
use Rattle.std.proofs.lemmas.List.{map-append}
use Rattle.std.proofs.lemmas.List.Concat.{flat_map-append}
use Rattle.dg_drip.specs.Sizes.{key_count}
use Rattle.dg_drip.specs.declared.events.DripEvent.{DripEvent}
use Rattle.dg_drip.specs.declared.events.DripEvent.TheVariants.{Tick, Last}
use Rattle.dg_drip.specs.Spread.{drip_round, round_of_key, sweeps}
use Rattle.dg_rounds.specs.Rounds.{pace, rounds_of}
use Rattle.dg_drip_script.specs.Scripts.{DripItem, unreported_items}
use Rattle.dg_drip_script.specs.Scripts.{rounds_items}
use Rattle.dg_drip_run.specs.inner.Playing.{DripItemsPlayed, StaysPlaying, IsPlaying, AreBelow}
use Rattle.dg_drip_run.specs.declared.player.Player.{Player}
use Rattle.dg_drip_run.specs.declared.player.PlayStop.{PlayStop}
use Rattle.dg_drip_run.proofs.RangeLemmas.{each_more, each_rest}
use Rattle.dg_drip_run.proofs.RanLemmas.{ran_then, ran_short, ran_as}
use Rattle.dg_drip_run.proofs.ApplyLemmas.{links_of_player}

halt_is : (r : Result (Unit {0}) PlayStop) (e : PlayStop) → IsErrAnd r (λ x. x ≡ e) → Err e ≡ r
halt_is (Ok u) e h = absurd h
halt_is (Err x) e h = ap Err (sym h)

-- some were played, and then a stop came
pub ran_stops : (r : Result (Unit {0}) PlayStop) (e : PlayStop) (p q w : Player) (xs ys zs all : List DripItem) → IsErrAnd r (λ x. x ≡ e)
    → DripItemsPlayed (Ok tt) p q xs → DripItemsPlayed (Err e) q w ys → (xs ++ ys) ++ zs ≡ all → DripItemsPlayed r p w all
ran_stops r e p q w xs ys zs all is front stop parts =
    subst (λ (x : Result (Unit {0}) PlayStop). DripItemsPlayed x p w all) (halt_is r e is)
    (ran_as (Err e) p w ((xs ++ ys) ++ zs) all parts (ran_short e p w (xs ++ ys) zs (ran_then (Err e) p q w xs ys front stop)))

pub goes_same : (p : Player) → IsPlaying p → StaysPlaying p p
goes_same p h = record { playing = h; standing = refl; links = refl }

pub goes_then : (p q w : Player) → StaysPlaying p q → StaysPlaying q w → StaysPlaying p w
goes_then p q w h k = record { playing = k.playing; standing = k.standing ∙ h.standing; links = k.links ∙ h.links }

-- ---- a key

abbrev pub tick_item : (a key : ℕ) → DripItem
tick_item a key = record { event = Tick a key pace 0; reported = false }

abbrev pub last_item : (a b key : ℕ) → DripItem
last_item a b key = record { event = Last a b key; reported = false }

pub key_items : (a b key : ℕ) → tick_item a key ∷ tick_item a key ∷ tick_item a key ∷ last_item a b key ∷ [] ≡ unreported_items (round_of_key a b key)
unfolding round_of_key
key_items a b key = refl

-- ---- a round

abbrev pub keys_items : (a b k : ℕ) → List DripItem
keys_items a b k = unreported_items (flat_map (round_of_key a b) (range_with_len 0 k))

abbrev unreported : DripEvent → DripItem
unreported e = record { event = e; reported = false }

pub round_more : (a b k : ℕ) → keys_items a b k ++ unreported_items (round_of_key a b k) ≡ keys_items a b (k + 1)
round_more a b k = sym (map-append (λ (e : DripEvent). unreported e) (flat_map (round_of_key a b) (range_with_len 0 k)) (round_of_key a b k)) ∙ ap unreported_items (each_more (round_of_key a b) k)

pub round_all : (a b : ℕ) → keys_items a b key_count ≡ unreported_items (drip_round a b)
unfolding drip_round
round_all a b = refl

pub round_rest : (a b k : ℕ) → k < key_count → (zs : List DripItem) × ((keys_items a b k ++ unreported_items (round_of_key a b k)) ++ zs ≡ unreported_items (drip_round a b))
round_rest a b k below =
    let f : ℕ → List DripEvent = round_of_key a b in
    let r = each_rest f (k + 1) (key_count - (k + 1)) in
    let whole : (k + 1) + (key_count - (k + 1)) ≡ key_count = omega (arith, below) in (
      unreported_items r.0,
      ap (λ (xs : List DripItem). xs ++ unreported_items r.0) (round_more a b k)
          ∙ (sym (map-append (λ (e : DripEvent). unreported e) (flat_map f (range_with_len 0 (k + 1))) r.0) ∙ (ap unreported_items (r.1 ∙ ap (λ n. flat_map f (range_with_len 0 n)) whole) ∙ round_all a b)),
    )

-- ---- a sweep

abbrev pub pairs_items : List (ℕ × ℕ) → List DripItem
pairs_items links = rounds_items (rounds_of links)

abbrev pub both : ℕ × ℕ → List DripItem
both l = unreported_items (drip_round l.0 l.1) ++ unreported_items (drip_round l.1 l.0)

pub sweep_more : (links : List (ℕ × ℕ)) (n : ℕ) (l : ℕ × ℕ) → n < length links → l ≡ get_or links n l → pairs_items (take n links) ++ both l ≡ pairs_items (take (n + 1) links)
sweep_more [] n l within is = absurd (omega (arith, within))
sweep_more (x ∷ links) zero l within is =
    ap (λ (ys : List DripItem). unreported_items (drip_round l.0 l.1) ++ ys) (sym (append-nil (unreported_items (drip_round l.1 l.0)))) ∙ ap (λ (y : ℕ × ℕ). unreported_items (drip_round y.0 y.1) ++ (unreported_items (drip_round y.1 y.0) ++ [])) is
sweep_more (x ∷ links) (suc n) l within is =
    let xs : List DripItem = unreported_items (drip_round x.0 x.1) in
    let ys : List DripItem = unreported_items (drip_round x.1 x.0) in
    let on : suc (n + 1) ≡ suc n + 1 = omega arith in
    let less : n < length links = omega (arith, within) in
    append_assoc xs (ys ++ pairs_items (take n links)) (both l)
    ∙ (ap (λ (zs : List DripItem). xs ++ zs) (append_assoc ys (pairs_items (take n links)) (both l) ∙ ap (λ (zs : List DripItem). ys ++ zs) (sweep_more links n l less is))
    ∙ ap (λ m. pairs_items (take m (x ∷ links))) on)

pub sweep_rest : (links : List (ℕ × ℕ)) (n : ℕ) → (zs : List DripItem) × (pairs_items (take n links) ++ zs ≡ pairs_items links)
sweep_rest [] zero = ([], refl)
sweep_rest [] (suc n) = ([], refl)
sweep_rest (x ∷ links) zero = (pairs_items (x ∷ links), refl)
sweep_rest (x ∷ links) (suc n) =
    let xs : List DripItem = unreported_items (drip_round x.0 x.1) in
    let ys : List DripItem = unreported_items (drip_round x.1 x.0) in
    let r = sweep_rest links n in (
      r.0,
      append_assoc xs (ys ++ pairs_items (take n links)) r.0 ∙ ap (λ (zs : List DripItem). xs ++ zs) (append_assoc ys (pairs_items (take n links)) r.0 ∙ ap (λ (zs : List DripItem). ys ++ zs) r.1),
    )

-- after the first round of a link, and after its second
pub first_rest : (links : List (ℕ × ℕ)) (n : ℕ) (l : ℕ × ℕ) → n < length links → l ≡ get_or links n l → (zs : List DripItem) × ((pairs_items (take n links) ++ unreported_items (drip_round l.0 l.1)) ++ zs ≡ pairs_items links)
first_rest links n l within is =
    let r = sweep_rest links (n + 1) in
    let before : List DripItem = pairs_items (take n links) in
    let xs : List DripItem = unreported_items (drip_round l.0 l.1) in
    let ys : List DripItem = unreported_items (drip_round l.1 l.0) in (
      ys ++ r.0,
      sym (append_assoc (before ++ xs) ys r.0) ∙ ap (λ (zs : List DripItem). zs ++ r.0) (append_assoc before xs ys ∙ sweep_more links n l within is) ∙ r.1,
    )

pub second_rest : (links : List (ℕ × ℕ)) (n : ℕ) (l : ℕ × ℕ) → n < length links → l ≡ get_or links n l → (zs : List DripItem) × (((pairs_items (take n links) ++ unreported_items (drip_round l.0 l.1)) ++ unreported_items (drip_round l.1 l.0)) ++ zs ≡ pairs_items links)
second_rest links n l within is =
    let r = sweep_rest links (n + 1) in
    let before : List DripItem = pairs_items (take n links) in
    let xs : List DripItem = unreported_items (drip_round l.0 l.1) in
    let ys : List DripItem = unreported_items (drip_round l.1 l.0) in
    (r.0, ap (λ (zs : List DripItem). zs ++ r.0) (append_assoc before xs ys ∙ sweep_more links n l within is) ∙ r.1)

pub second_more : (links : List (ℕ × ℕ)) (n : ℕ) (l : ℕ × ℕ) → n < length links → l ≡ get_or links n l → (pairs_items (take n links) ++ unreported_items (drip_round l.0 l.1)) ++ unreported_items (drip_round l.1 l.0) ≡ pairs_items (take (n + 1) links)
second_more links n l within is = append_assoc (pairs_items (take n links)) (unreported_items (drip_round l.0 l.1)) (unreported_items (drip_round l.1 l.0)) ∙ sweep_more links n l within is

pub all_links : (links : List (ℕ × ℕ)) (n : ℕ) → length links ≤ n → pairs_items (take n links) ≡ pairs_items links
all_links [] zero h = refl
all_links [] (suc n) h = refl
all_links (x ∷ links) zero h = absurd (omega (arith, h))
all_links (x ∷ links) (suc n) h =
    ap (λ (zs : List DripItem). unreported_items (drip_round x.0 x.1) ++ (unreported_items (drip_round x.1 x.0) ++ zs)) (all_links links n (omega (arith, h)))

-- ---- sweeps

pub sweeps_more : (k : ℕ) (links : List (ℕ × ℕ)) → rounds_items (sweeps k links) ++ pairs_items links ≡ rounds_items (sweeps (k + 1) links)
sweeps_more k links =
    let on : suc k ≡ k + 1 = omega arith in
    sym (flat_map-append (λ (p : ℕ × ℕ). unreported_items (drip_round p.0 p.1)) (sweeps k links) (rounds_of links)) ∙ ap (λ n. rounds_items (sweeps n links)) on

sweeps_behind : (k d : ℕ) (links : List (ℕ × ℕ)) → (zs : List DripItem) × (rounds_items (sweeps k links) ++ zs ≡ rounds_items (sweeps (k + d) links))
sweeps_behind k zero links = let here : k ≡ k + 0 = omega arith in ([], append-nil (rounds_items (sweeps k links)) ∙ ap (λ n. rounds_items (sweeps n links)) here)
sweeps_behind k (suc d) links =
    let r = sweeps_behind k d links in
    let on : (k + d) + 1 ≡ k + suc d = omega arith in
    (r.0 ++ pairs_items links, sym (append_assoc (rounds_items (sweeps k links)) r.0 (pairs_items links)) ∙ (ap (λ (zs : List DripItem). zs ++ pairs_items links) r.1 ∙ (sweeps_more (k + d) links ∙ ap (λ n. rounds_items (sweeps n links)) on)))

pub sweeps_rest : (k n : ℕ) (links : List (ℕ × ℕ)) → k < n → (zs : List DripItem) × ((rounds_items (sweeps k links) ++ pairs_items links) ++ zs ≡ rounds_items (sweeps n links))
sweeps_rest k n links below =
    let r = sweeps_behind (k + 1) (n - (k + 1)) links in
    let whole : (k + 1) + (n - (k + 1)) ≡ n = omega (arith, below) in
    (r.0, ap (λ (zs : List DripItem). zs ++ r.0) (sweeps_more k links) ∙ (r.1 ∙ ap (λ m. rounds_items (sweeps m links)) whole))

-- ---- links are between nodes

pub below_at : (nodes : ℕ) (links : List (ℕ × ℕ)) (n : ℕ) (l : ℕ × ℕ) → AreBelow nodes links → n < length links → l ≡ get_or links n l → (l.0 < nodes) × (l.1 < nodes)
below_at nodes [] n l h within is = absurd (omega (arith, within))
below_at nodes (x ∷ links) zero l h within is = subst (λ (y : ℕ × ℕ). (y.0 < nodes) × (y.1 < nodes)) (sym is) (h.0, h.1)
below_at nodes (x ∷ links) (suc n) l h within is = below_at nodes links n l h.2 (omega (arith, within)) is

pub below_more : (nodes : ℕ) (links : List (ℕ × ℕ)) (a b : ℕ) → AreBelow nodes links → a < nodes → b < nodes → AreBelow nodes (links ++ (a, b) ∷ [])
below_more nodes [] a b h less few = (less, few, tt)
below_more nodes (x ∷ links) a b h less few = (h.0, h.1, below_more nodes links a b h.2 less few)

-- the links of a player
pub player_below : (p : Player) (n : ℕ) (l : ℕ × ℕ) → IsPlaying p → n < length p.network.links.items → l ≡ get_or p.network.links.items n l → (l.0 < p.standing.nodes) × (l.1 < p.standing.nodes)
player_below p n l playing within is =
    let h = playing.2 in
    let same : p.network.links.items ≡ playing.0.links = links_of_player p playing.0 playing.1 h in
    below_at p.standing.nodes p.network.links.items n l
    (subst (λ (links : List (ℕ × ℕ)). AreBelow p.standing.nodes links) (sym same) (subst (λ (m : ℕ). AreBelow m playing.0.links) (sym (ap (λ t. t.nodes) h.standing)) h.below)) within is

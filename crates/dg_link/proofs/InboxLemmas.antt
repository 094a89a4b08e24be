-- Inboxes that are kept in rings.
use Rattle.std.proofs.Common.{◌≡◌, ℕ, zero, suc, ◌-◌, ◌<◌, ◌≤◌, ◌++◌, List, [], ◌∷◌, length, drop, take, map, get_or, set, Option, Some, None, option_map, slice_get, refl, sym, ap, ◌∙◌, subst, arith, replicate}
use Rattle.std.proofs.lemmas.List.{get_or-map, map-set, length-map, set-get_or, get_or-set_same, drop-append-le, length-append}
use Rattle.std.proofs.lemmas.List.Elements.{All-get_or, Contains-push}
use Rattle.std.specs.Prelude.{All, Contains}
use Rattle.circular_buffer.specs.Buffer.{Buffer, buffer, keep_last}
use Rattle.dg_link.specs.Inboxes.{Inboxes, inbox_of, with_inbox, emptied, delivered, ReceivesFrame}

abbrev pub Ring : Type 0
Ring = Buffer (List ℕ)

abbrev pub inboxes : ℕ → List Ring → Inboxes
inboxes capacity rings = record { capacity = capacity; frames = map (λ ring. ring.items) rings }

-- what waits at a mote is in its ring
pub inbox_of-inboxes : (capacity : ℕ) (rings : List Ring) (mote : ℕ) (ring : Ring) → mote < length rings → ring ≡ get_or rings mote ring → inbox_of (inboxes capacity rings) mote ≡ ring.items
inbox_of-inboxes capacity rings mote ring within is = get_or-map (λ r. r.items) rings mote ring [] within ∙ ap (λ r. r.items) (sym is)

-- another ring for a mote
pub inboxes-set : (capacity : ℕ) (rings : List Ring) (mote : ℕ) (ring : Ring) → inboxes capacity (set rings mote ring) ≡ with_inbox mote ring.items (inboxes capacity rings)
inboxes-set capacity rings mote ring = rw (map-set (λ r. r.items) rings mote ring)

-- a mote has an inbox exactly if it has a ring
within_rings : (capacity : ℕ) (rings : List Ring) (boxes : Inboxes) (mote : ℕ) → inboxes capacity rings ≡ boxes → mote < length boxes.frames → mote < length rings
within_rings capacity rings boxes mote is within =
    let same : length boxes.frames ≡ length rings = ap (λ b. length b.frames) (sym is) ∙ length-map rings (λ ring. ring.items) in
    omega arith

-- the inboxes after a change of the ring of a mote, from those before
pub inboxes-push_back : (capacity : ℕ) (rings : List Ring) (boxes : Inboxes) (mote at : ℕ) (ring new : Ring) (frame : List ℕ) → inboxes capacity rings ≡ boxes → mote < length boxes.frames → at ≡ mote
    → ring ≡ get_or rings at ring → All (λ r. r.capacity ≡ capacity) rings → new ≡ buffer (keep_last ring.capacity (ring.items ++ frame ∷ [])) ring.capacity
    → inboxes capacity (set rings at new) ≡ delivered mote frame boxes
inboxes-push_back capacity rings boxes mote at ring new frame is within same old cap becomes =
    let here : at < length rings = subst (λ m. m < length rings) (sym same) (within_rings capacity rings boxes mote is within) in
    let full : ring.capacity ≡ capacity = ap (λ r. r.capacity) old ∙ All-get_or (λ r. r.capacity ≡ capacity) rings at ring here cap in
    let waits = inbox_of-inboxes capacity rings at ring here old in
    let moved : inboxes capacity (set rings at new) ≡ delivered at frame (inboxes capacity rings) =
    inboxes-set capacity rings at new ∙ ap (λ r. with_inbox at r.items (inboxes capacity rings)) becomes
    ∙ ap (λ n. with_inbox at (keep_last n (ring.items ++ frame ∷ [])) (inboxes capacity rings)) full
    ∙ ap (λ xs. with_inbox at (keep_last capacity (xs ++ frame ∷ [])) (inboxes capacity rings)) (sym waits) in
    moved ∙ ap (λ m. delivered m frame (inboxes capacity rings)) same ∙ ap (delivered mote frame) is

pub inboxes-pop_front : (capacity : ℕ) (rings : List Ring) (boxes : Inboxes) (mote at : ℕ) (ring new : Ring) → inboxes capacity rings ≡ boxes → mote < length boxes.frames → at ≡ mote
    → ring ≡ get_or rings at ring → new ≡ buffer (drop 1 ring.items) ring.capacity
    → inboxes capacity (set rings at new) ≡ with_inbox mote (drop 1 (inbox_of boxes mote)) boxes
inboxes-pop_front capacity rings boxes mote at ring new is within same old becomes =
    let here : at < length rings = subst (λ m. m < length rings) (sym same) (within_rings capacity rings boxes mote is within) in
    let waits = inbox_of-inboxes capacity rings at ring here old in
    let moved : inboxes capacity (set rings at new) ≡ with_inbox at (drop 1 (inbox_of (inboxes capacity rings) at)) (inboxes capacity rings) =
    inboxes-set capacity rings at new ∙ ap (λ r. with_inbox at r.items (inboxes capacity rings)) becomes
    ∙ ap (λ xs. with_inbox at (drop 1 xs) (inboxes capacity rings)) (sym waits) in
    moved ∙ ap (λ m. with_inbox m (drop 1 (inbox_of (inboxes capacity rings) m)) (inboxes capacity rings)) same
    ∙ ap (λ b. with_inbox mote (drop 1 (inbox_of b mote)) b) is

map-replicate : {A B : Type 0} (f : A → B) (n : ℕ) (x : A) → map f (replicate n x) ≡ replicate n (f x)
map-replicate f zero x = refl
map-replicate f (suc n) x = ap (λ ys. f x ∷ ys) (map-replicate f n x)

-- rings without frames
pub inboxes-replicate : (capacity motes : ℕ) (boxes : Inboxes) → boxes.capacity ≡ capacity → inboxes capacity (replicate motes (buffer [] capacity)) ≡ emptied motes boxes
inboxes-replicate capacity motes boxes is =
    ap (λ frames. record { capacity = capacity; frames = frames }) (map-replicate (λ ring. ring.items) motes (buffer [] capacity))
    ∙ ap (λ n. record { capacity = n; frames = replicate motes [] }) (sym is)

with_same : (boxes : Inboxes) (mote : ℕ) → inbox_of boxes mote ≡ [] → with_inbox mote [] boxes ≡ boxes
with_same boxes mote none =
    ap (λ frames. record { capacity = boxes.capacity; frames = frames }) (ap (set boxes.frames mote) (sym none) ∙ set-get_or boxes.frames mote [])

takes : (boxes : Inboxes) (mote : ℕ) (into : List ℕ) (waits : List (List ℕ)) (r : Option ℕ) → inbox_of boxes mote ≡ waits → option_map (λ n. take n into) r ≡ slice_get waits 0
    → ReceivesFrame mote into r (Some boxes) (Some (with_inbox mote (drop 1 waits) boxes))
takes boxes mote into [] None is e = (is, ap Some (with_same boxes mote is))
takes boxes mote into [] (Some n) is e = absurd cc
takes boxes mote into (frame ∷ rest) None is e = absurd cc
takes boxes mote into (frame ∷ rest) (Some n) is e =
    let same : frame ≡ take n into = cc in
    (rest, is ∙ ap (λ f. f ∷ rest) same, refl)

-- what a receive that takes the oldest frame, if there is one, does
pub receives : (boxes : Inboxes) (mote : ℕ) (into : List ℕ) (r : Option ℕ) → option_map (λ n. take n into) r ≡ slice_get (inbox_of boxes mote) 0
    → ReceivesFrame mote into r (Some boxes) (Some (with_inbox mote (drop 1 (inbox_of boxes mote)) boxes))
receives boxes mote into r e = takes boxes mote into (inbox_of boxes mote) r refl e

-- a receive answers None exactly if no frame waits
pub is_none-frame : (f : ℕ → List ℕ) (waits : List (List ℕ)) (r : Option ℕ) → option_map f r ≡ slice_get waits 0 → (r ≡ None → waits ≡ []) × (waits ≡ [] → r ≡ None)
is_none-frame f [] None e = (λ _. refl, λ _. refl)
is_none-frame f [] (Some n) e = absurd cc
is_none-frame f (frame ∷ rest) None e = absurd cc
is_none-frame f (frame ∷ rest) (Some n) e = (λ no. absurd cc, λ no. absurd cc)

-- a frame that came waits at the mote
pub Contains-delivered : (boxes : Inboxes) (mote : ℕ) (frame : List ℕ) → 1 ≤ boxes.capacity → mote < length boxes.frames → Contains (inbox_of (delivered mote frame boxes) mote) frame
Contains-delivered boxes mote frame capacity within =
    let waits = inbox_of boxes mote in
    let all = waits ++ frame ∷ [] in
    let short : length all - boxes.capacity ≤ length waits = omega (arith, length-append waits (frame ∷ [])) in
    let place : inbox_of (delivered mote frame boxes) mote ≡ keep_last boxes.capacity all = get_or-set_same boxes.frames mote (keep_last boxes.capacity all) [] within in
    let cut : keep_last boxes.capacity all ≡ drop (length all - boxes.capacity) waits ++ frame ∷ [] = drop-append-le (length all - boxes.capacity) waits (frame ∷ []) short in
    subst (λ xs. Contains xs frame) (sym (place ∙ cut)) (Contains-push (drop (length all - boxes.capacity) waits) frame)

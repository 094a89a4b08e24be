-- One more frame that was sent.
use Rattle.std.proofs.Common.{◌≡◌, ◌⊎◌, ◌≢◌, ℕ, zero, suc, ◌<◌, ◌≤◌, Bool, true, false, cond, List, [], ◌∷◌, ◌++◌, length, map, get_or, set, refl, ap, sym, ◌∙◌, inl, inr, ⊎_elim, arith, eqb-true, eq-eqb}
use Rattle.std.specs.Prelude.{◌-◌, ◌==◌, slice_get, Option, Some, None}
use Rattle.std.proofs.Math.ListN.{length-set}
use Rattle.std.proofs.lemmas.Bool.{both_ways, le-leb, ne_eqb}
use Rattle.std.proofs.lemmas.List.{get_or-set_same, get_or-set_other, length-map, map-append, length-append}
use Rattle.dg_frame.specs.Grammar.{in_range}
use Rattle.dg_frame.specs.Spelling.{frame_of}
use Rattle.dg_frame.specs.declared.Message.{Message}
use Rattle.dg_rules.specs.Sizes.{most_motes}
use Rattle.dg_rules.specs.World.{Sent, last_by}
use Rattle.dg_shared.specs.Airs.{Carries, sent_of, sent_now, frame_in, last_number}
use Rattle.dg_shared.specs.declared.sent.SentFrame.{SentFrame}
use Rattle.dg_shared.specs.declared.air.Air.{Air}

last_behind : (m : ℕ) (xs : List Sent) (s : Sent) (found : Option Sent) → last_by m (xs ++ s ∷ []) found ≡ cond (s.by == m) (Some s) (last_by m xs found)
last_behind m [] s found = refl
last_behind m (x ∷ xs) s found = last_behind m xs s (cond (x.by == m) (Some x) found)

get_before : (xs ys : List Sent) (k : ℕ) → k < length xs → slice_get (xs ++ ys) k ≡ slice_get xs k
get_before [] ys k h = absurd (omega arith)
get_before (x ∷ xs) ys zero h = refl
get_before (x ∷ xs) ys (suc k) h = get_before xs ys k (omega (arith, h))

get_behind : (xs : List Sent) (s : Sent) → slice_get (xs ++ s ∷ []) (length xs) ≡ Some s
get_behind [] s = refl
get_behind (x ∷ xs) s = get_behind xs s

in_some : (xs : List Sent) (n k : ℕ) → n ≡ suc k → frame_in xs n ≡ slice_get xs k
in_some xs n k e =
    let f : n - 1 ≡ k = omega (arith, e) in
    ap (λ (b : Bool). cond b (slice_get xs (n - 1)) None) (le-leb 1 n (omega (arith, e))) ∙ ap (slice_get xs) f

in_before : (xs ys : List Sent) (n : ℕ) → n ≤ length xs → frame_in (xs ++ ys) n ≡ frame_in xs n
in_before xs ys zero h = refl
in_before xs ys (suc n) h = in_some (xs ++ ys) (suc n) n refl ∙ get_before xs ys n (omega (arith, h)) ∙ sym (in_some xs (suc n) n refl)

in_behind : (xs : List Sent) (s : Sent) (n : ℕ) → n ≡ suc (length xs) → frame_in (xs ++ s ∷ []) n ≡ Some s
in_behind xs s n e = in_some (xs ++ s ∷ []) n (length xs) e ∙ get_behind xs s

pub same_or : (k i : ℕ) → (k ≡ i) ⊎ ((k == i) ≡ false)
same_or k i = ⊎_elim (λ is. inl (eqb-true k i is)) (λ other. inr other) (bool_is (k == i))
  where
    bool_is : (b : Bool) → (b ≡ true) ⊎ (b ≡ false)
    bool_is true = inl refl
    bool_is false = inr refl

pub by_other : (k i : ℕ) → (k == i) ≡ false → i ≢ k
by_other k i e = λ h. both_ways (k == i) e (eq-eqb k i (sym h))

-- one mote's last frame, after a frame was appended that this mote or another one sent
module _ (old new : Air) (by n : ℕ) (before : List Sent) (s : Sent) (is_by : s.by ≡ by) (carries : Carries old before) (known : by < most_motes) (last : new.last ≡ set old.last by n) (longer : n ≡ suc (length before)) where
  place : by < length old.last
  place = omega (arith, known, carries.motes)

  own : last_number new by ≡ n
  own = ap (λ (xs : List ℕ). get_or xs by 0) last ∙ get_or-set_same old.last by n 0 place

  others : (m : ℕ) → m ≢ by → last_number new m ≡ last_number old m
  others m other = ap (λ (xs : List ℕ). get_or xs m 0) last ∙ get_or-set_other old.last by m n 0 other

  number_then : (m : ℕ) → m < most_motes → (by ≡ m) ⊎ ((by == m) ≡ false) → last_number new m ≤ length (before ++ s ∷ [])
  number_then m h (inl is) = omega (arith, length-append before (s ∷ []), longer, ap (last_number new) (sym is) ∙ own)
  number_then m h (inr other) = omega (arith, length-append before (s ∷ []), carries.numbers m h, others m (by_other by m other))

  last_then : (m : ℕ) → m < most_motes → (by ≡ m) ⊎ ((by == m) ≡ false) → frame_in (before ++ s ∷ []) (last_number new m) ≡ last_by m (before ++ s ∷ []) None
  last_then m h (inl is) =
      in_behind before s (last_number new m) (ap (last_number new) (sym is) ∙ own ∙ longer)
      ∙ ap (λ (b : Bool). cond b (Some s) (last_by m before None)) (sym (eq-eqb s.by m (is_by ∙ is))) ∙ sym (last_behind m before s None)
  last_then m h (inr other) =
      let n_is = others m (by_other by m other) in
      ap (frame_in (before ++ s ∷ [])) n_is ∙ in_before before (s ∷ []) (last_number old m) (carries.numbers m h) ∙ carries.last m h
      ∙ ap (λ (b : Bool). cond b (Some s) (last_by m before None)) (sym (ap (λ (k : ℕ). k == m) is_by ∙ other)) ∙ sym (last_behind m before s None)

-- no frame of a number that no mote has
none_by : (m : ℕ) (fs : List SentFrame) → most_motes ≤ m → last_by m (map sent_of fs) None ≡ None
none_by m [] far = refl
none_by m (f ∷ fs) far =
    ap (λ (b : Bool). last_by m (map sent_of fs) (cond b (Some (sent_of f)) None)) (ne_eqb f.by m (λ (e : f.by ≡ m). absurd (omega (arith, f.known, far, e))))
    ∙ none_by m fs far

pub last_unknown : (a : Air) (sent : List Sent) (m : ℕ) → most_motes ≤ m → Carries a sent → last_by m sent None ≡ None
last_unknown a sent m far carries = ap (λ (ss : List Sent). last_by m ss None) (sym carries.frames) ∙ none_by m a.frames.items far

pub pushed : (old new : Air) (by n : ℕ) (message : Message) (before : List Sent) → (known : by < most_motes) → (ranged : in_range true message ≡ true) → new.frames.items ≡ old.frames.items ++ record { by = by; message = message; known = known; ranged = ranged } ∷ [] → n ≡ length new.frames.items → new.last ≡ set old.last by n
    → Carries old before → Carries new (before ++ sent_now by (Some (frame_of message)))
pushed old new by n message before known ranged is count last carries =
    let s : Sent = record { by = by; bytes = frame_of message } in
    let f : SentFrame = record { by = by; message = message; known = known; ranged = ranged } in
    let long : length before ≡ length old.frames.items = ap length (sym carries.frames) ∙ length-map old.frames.items sent_of in
    let longer : n ≡ suc (length before) = omega (arith, count, ap length is, length-append old.frames.items (f ∷ []), long) in
    record {
      frames = ap (map sent_of) is ∙ map-append sent_of old.frames.items (f ∷ []) ∙ ap (λ (xs : List Sent). xs ++ s ∷ []) carries.frames;
      motes = ap length last ∙ length-set old.last by n ∙ carries.motes;
      numbers = λ m h. number_then old new by n before s refl carries known last longer m h (same_or by m);
      last = λ m h. last_then old new by n before s refl carries known last longer m h (same_or by m);
    }

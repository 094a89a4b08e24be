-- Lines that are read from bytes that come piece by piece.
use Rattle.std.proofs.Common.{◌≡◌, ◌≢◌, ℕ, ◌+◌, ◌-◌, ◌<◌, ◌≤◌, ◌==◌, Bool, true, false, cond, List, [], ◌∷◌, ◌++◌, length, get_or, take, drop, Option, Some, None, Result, Ok, Err, IsErrAnd, refl, sym, ap, ◌∙◌, subst, arith, inl, inr, ⊎_elim, append_assoc, length-append}
use Rattle.std.specs.Prelude.{slice_range, ⊤}
use Rattle.std.specs.Str.Lines.{strip_carriage_return}
use Rattle.std.proofs.lemmas.List.{append-nil, take_at, length-take}
use Rattle.dg_base.specs.Outside.{Takes}
use Rattle.dg_base.proofs.OutsideLemmas.{Takes-nil, Takes-join}
use Rattle.dg_lines.specs.declared.line_reader.ReadStop.{ReadStop as Stop}
use Rattle.dg_lines.specs.declared.line_reader.ReadStop.TheVariants.{ReadFault, Long, TooLong}
use Rattle.dg_lines.specs.LineReading.{Reading, most_kept, most_used_bytes, HasNoEnd, EndsAt, NextAnswer, FillAnswer, PassAnswer}
use Rattle.dg_lines.proofs.ReaderLemmas.{view, part_long, no_end_join, answer_if}

-- ---- what is kept is dropped

pub record LetsGo (old now : Reading) : Type 0 where
  pub none : now.ahead ≡ []
  pub passed : now.passed ≡ old.passed + length old.ahead
  pub number : now.number ≡ old.number

nothing_between : (xs : List ℕ) (to : ℕ) → slice_range xs to to ≡ []
nothing_between xs to = let zero_left : to - to ≡ 0 = omega arith in ap (λ n. take n (drop to xs)) zero_left

pub lets_go : (xs : List ℕ) (from to taken number tf tt : ℕ) → length xs ≤ most_kept → from ≤ to → to ≤ length xs → number + (to - from) ≤ taken
    → LetsGo (view xs from to taken number tf tt) (view xs to to taken number tf tt)
lets_go xs from to taken number tf tt whole order inside fits =
    let long : length (slice_range xs from to) ≡ to - from = part_long xs from to (omega (arith, whole, inside)) in
    record { none = nothing_between xs to; passed = omega (arith, long, fits); number = refl }

-- what was taken is not more than what is used
pub few_used : (xs : List ℕ) (from to taken number tf tt : ℕ) → length xs ≤ most_kept → to ≤ length xs → number + (to - from) ≤ taken → taken ≤ most_used_bytes
    → (view xs from to taken number tf tt).passed + length (view xs from to taken number tf tt).ahead ≤ most_used_bytes
few_used xs from to taken number tf tt whole inside fits few =
    let long : length (slice_range xs from to) ≡ to - from = part_long xs from to (omega (arith, whole, inside)) in
    omega (arith, long, fits, few)

pub few_kept : (xs : List ℕ) (from to taken number tf tt : ℕ) → length xs ≤ most_kept → to ≤ length xs
    → length (view xs from to taken number tf tt).ahead ≤ most_kept
few_kept xs from to taken number tf tt whole inside =
    let long : length (slice_range xs from to) ≡ to - from = part_long xs from to (omega (arith, whole, inside)) in
    omega (arith, long, inside)

-- ---- one piece of a line that is too long

none_kept : (old mid : Reading) → LetsGo old mid → mid.passed + length mid.ahead ≡ old.passed + length old.ahead
none_kept old mid l =
    let zero_long : length mid.ahead ≡ 0 = ap length l.none in
    omega (arith, zero_long, l.passed)

pub pass_err : (stop : Stop) (more : List ℕ) (old mid new : Reading) (A F : Type 0) → LetsGo old mid → FillAnswer (Err stop) more mid new A F → PassAnswer (Some stop) more old new A F
pass_err ReadFault more old mid new A F l h = h
pass_err TooLong more old mid new A F l h = (h.0, sym (none_kept old mid l) ∙ h.1)
pass_err (Long line) more old mid new A F l h = absurd h

came_only : (more : List ℕ) (mid new : Reading) → mid.ahead ≡ [] → new.ahead ≡ mid.ahead ++ more → new.ahead ≡ more
came_only more mid new none e = e ∙ ap (λ xs. xs ++ more) none

pub pass_end : (n line : ℕ) (more : List ℕ) (old mid new : Reading) (A F : Type 0) → LetsGo old mid → FillAnswer (Ok n) more mid new A F → n ≡ 0 → line ≡ new.number + 1 → PassAnswer (Some (Long line)) more old new A F
pass_end n line more old mid new A F l h zero named =
    let zero_long : length more ≡ 0 = sym h.0 ∙ zero in
    let e : new.ahead ≡ more = came_only more mid new l.none h.1 in
    let few : length new.ahead ≡ length more = ap length e in (
      omega (arith, named, h.3, l.number),
      omega (arith, zero_long, few, h.5, h.2, l.passed),
      omega (arith, zero_long),
      inr (no_bytes more zero_long, h.4 zero),
    )
  where
    no_bytes : (xs : List ℕ) → length xs ≡ 0 → xs ≡ []
    no_bytes [] z = refl
    no_bytes (x ∷ xs) z = absurd (omega (arith, z))

pub pass_found : (n line at : ℕ) (more : List ℕ) (old mid new : Reading) (A F : Type 0) → LetsGo old mid → FillAnswer (Ok n) more mid new A F → EndsAt (Some at) new.ahead → line ≡ new.number + 1 → PassAnswer (Some (Long line)) more old new A F
pass_found n line at more old mid new A F l h ends named =
    let e : new.ahead ≡ more = came_only more mid new l.none h.1 in
    let few : length new.ahead ≡ length more = ap length e in (
      omega (arith, named, h.3, l.number),
      omega (arith, few, h.5, h.2, l.passed),
      omega (arith, few, h.6),
      inl (at, subst (EndsAt (Some at)) e ends),
    )

pub pass_on : (n : ℕ) (more : List ℕ) (old mid new : Reading) (A F : Type 0) → LetsGo old mid → FillAnswer (Ok n) more mid new A F → n ≢ 0 → EndsAt None new.ahead → PassAnswer None more old new A F
pass_on n more old mid new A F l h some ends =
    let e : new.ahead ≡ more = came_only more mid new l.none h.1 in
    let few : length new.ahead ≡ length more = ap length e in (
      subst HasNoEnd e ends,
      omega (arith, h.0, some),
      h.3 ∙ l.number,
      omega (arith, few, h.2, l.passed),
      h.5,
    )

-- ---- all of a line that is too long

-- pieces were skipped, and the line went on after each
pub record Passing (left_old left_now : Option (List ℕ)) (old now : Reading) : Type 0 where
  pub more : List ℕ
  pub taken : Takes left_old left_now more
  pub none : HasNoEnd (old.ahead ++ more)
  pub passed : now.passed + length now.ahead ≡ old.passed + length (old.ahead ++ more)
  pub used : now.passed + length now.ahead ≤ most_used_bytes
  pub number : now.number ≡ old.number

pub passing_begun : (left : Option (List ℕ)) (old : Reading) → HasNoEnd old.ahead → old.passed + length old.ahead ≤ most_used_bytes → Passing left left old old
passing_begun left old none used = record {
  more = [];
  taken = Takes-nil left;
  none = subst HasNoEnd (sym (append-nil old.ahead)) none;
  passed = ap (λ (xs : List ℕ). old.passed + length xs) (sym (append-nil old.ahead));
  used = used;
  number = refl;
}

pub passing_on : (a b c : Option (List ℕ)) (old now new : Reading) (A F : Type 0) → Passing a b old now
    → (more : List ℕ) → Takes b c more → PassAnswer None more now new A F → Passing a c old new
passing_on a b c old now new A F p more taken h =
    let whole : (old.ahead ++ p.more) ++ more ≡ old.ahead ++ (p.more ++ more) = append_assoc old.ahead p.more more in
    let long : length (old.ahead ++ (p.more ++ more)) ≡ length (old.ahead ++ p.more) + length more = ap length (sym whole) ∙ length-append (old.ahead ++ p.more) more in
    record {
      more = p.more ++ more;
      taken = Takes-join a b c p.more more p.taken taken;
      none = subst HasNoEnd whole (no_end_join (old.ahead ++ p.more) more p.none h.0);
      passed = omega (arith, h.3, p.passed, long);
      used = h.4;
      number = h.2 ∙ p.number;
    }

-- a text is shorter by one CR at most
stripped_long : (b : Bool) (xs : List ℕ) → length xs ≤ length (cond b (take (length xs - 1) xs) xs) + 1
stripped_long true xs = omega (arith, length-take (length xs - 1) xs)
stripped_long false xs = omega arith

pub strip_long : (xs : List ℕ) → length xs ≤ length (strip_carriage_return xs) + 1
strip_long xs = stripped_long (get_or xs (length xs - 1) 0 == 13) xs

pub pass_stops : (stop : Stop) (a b c : Option (List ℕ)) (old now new last : Reading) (A F : Type 0) → Passing a b old now → length old.ahead ≡ most_kept
    → (more : List ℕ) → Takes b c more → PassAnswer (Some stop) more now new A F
    → (all : List ℕ) × Takes a c all × NextAnswer (Err stop) (old.ahead ++ all) old last A F
pass_stops ReadFault a b c old now new last A F p full more taken h = (
  p.more,
  subst (Takes a c) (ap (λ (xs : List ℕ). p.more ++ xs) h.1 ∙ append-nil p.more) (Takes-join a b c p.more more p.taken taken),
  (h.0, p.none, omega (arith, p.passed, p.used)),
)
pass_stops TooLong a b c old now new last A F p full more taken h =
    let whole : (old.ahead ++ p.more) ++ more ≡ old.ahead ++ (p.more ++ more) = append_assoc old.ahead p.more more in
    let long : length (old.ahead ++ (p.more ++ more)) ≡ length (old.ahead ++ p.more) + length more = ap length (sym whole) ∙ length-append (old.ahead ++ p.more) more in
    let room : length (old.ahead ++ p.more) ≡ most_used_bytes - old.passed = omega (arith, p.passed, h.1) in
    let front : take (most_used_bytes - old.passed) (old.ahead ++ (p.more ++ more)) ≡ old.ahead ++ p.more =
    ap (take (most_used_bytes - old.passed)) (sym whole) ∙ take_at (old.ahead ++ p.more) more (most_used_bytes - old.passed) room in (
      p.more ++ more,
      Takes-join a b c p.more more p.taken taken,
      record { all = omega (arith, long, h.0, h.1, p.passed); none = subst HasNoEnd (sym front) p.none },
    )
pass_stops (Long line) a b c old now new last A F p full more taken h =
    let front : List ℕ = old.ahead ++ p.more in
    let whole : front ++ more ≡ old.ahead ++ (p.more ++ more) = append_assoc old.ahead p.more more in
    let long : length (old.ahead ++ (p.more ++ more)) ≡ length front + length more = ap length (sym whole) ∙ length-append front more in
    let front_long : length front ≡ length old.ahead + length p.more = length-append old.ahead p.more in
    let used : old.passed + length (old.ahead ++ (p.more ++ more)) ≤ most_used_bytes = omega (arith, long, h.1, p.passed) in (
      p.more ++ more,
      Takes-join a b c p.more more p.taken taken,
      (
        omega (arith, h.0, p.number),
        ⊎_elim
            (λ (ended : (at : ℕ) × EndsAt (Some at) more).
            let before : List ℕ = ended.1.0 in
            let rest : List ℕ = ended.1.1 in
            let parts : old.ahead ++ (p.more ++ more) ≡ ((front ++ before) ++ 10 ∷ []) ++ rest =
            sym whole ∙ ap (λ (xs : List ℕ). front ++ xs) ended.1.2 ∙ sym (append_assoc front before (10 ∷ rest)) ∙ sym (append_assoc (front ++ before) (10 ∷ []) rest) in
            let rest_long : length more ≡ length before + length (10 ∷ rest) = ap length ended.1.2 ∙ length-append before (10 ∷ rest) in
            record {
              text = strip_carriage_return (front ++ before);
              rest = rest;
              first = record { line = (front ++ before) ++ 10 ∷ []; parts = parts; is = inl (record { before = front ++ before; whole = no_end_join front before p.none ended.1.4; ended = refl; told = refl }) };
              long = omega (arith, strip_long (front ++ before), length-append front before, front_long, full);
              used = used;
              near = omega (arith, rest_long, h.2);
            })
            (λ (ended : (more ≡ []) × A).
            let same : old.ahead ++ (p.more ++ more) ≡ front = sym whole ∙ ap (λ (xs : List ℕ). front ++ xs) ended.0 ∙ append-nil front in
            record {
              text = front;
              rest = [];
              first = record { line = front; parts = same ∙ sym (append-nil front); is = inr (record { whole = p.none; some = λ e. absurd (omega (arith, ap length e, front_long, full)); told = refl }, refl, ended.1) };
              long = omega (arith, front_long, full);
              used = used;
              near = omega arith;
            })
            h.3,
      ),
    )

-- ---- the next line

-- bytes came, and these first ones hold no LF
pub record Looking (left_old left_now : Option (List ℕ)) (old now : Reading) (looked : ℕ) : Type 0 where
  pub more : List ℕ
  pub taken : Takes left_old left_now more
  pub ahead : now.ahead ≡ old.ahead ++ more
  pub passed : now.passed ≡ old.passed
  pub number : now.number ≡ old.number
  pub used : now.passed + length now.ahead ≤ most_used_bytes
  pub kept : length now.ahead ≤ most_kept
  pub within : looked ≤ length now.ahead
  pub none : HasNoEnd (take looked now.ahead)

pub looking_begun : (left : Option (List ℕ)) (old : Reading) → old.passed + length old.ahead ≤ most_used_bytes → length old.ahead ≤ most_kept → Looking left left old old 0
looking_begun left old used kept = record {
  more = [];
  taken = Takes-nil left;
  ahead = sym (append-nil old.ahead);
  passed = refl;
  number = refl;
  used = used;
  kept = kept;
  within = omega arith;
  none = λ k d h. absurd (omega (arith, h));
}

pub looking_on : (n : ℕ) (a b c : Option (List ℕ)) (old now new : Reading) (before looked : ℕ) (A F : Type 0) → Looking a b old now before
    → HasNoEnd now.ahead → looked ≡ length now.ahead → n ≢ 0 → (more : List ℕ) → Takes b c more → FillAnswer (Ok n) more now new A F → Looking a c old new looked
looking_on n a b c old now new before looked A F l none all some more taken h =
    let long : length new.ahead ≡ length now.ahead + length more = ap length h.1 ∙ length-append now.ahead more in
    let front : take looked new.ahead ≡ now.ahead = ap (take looked) h.1 ∙ take_at now.ahead more looked (sym all) in
    record {
      more = l.more ++ more;
      taken = Takes-join a b c l.more more l.taken taken;
      ahead = h.1 ∙ ap (λ (xs : List ℕ). xs ++ more) l.ahead ∙ append_assoc old.ahead l.more more;
      passed = h.2 ∙ l.passed;
      number = h.3 ∙ l.number;
      used = h.5;
      kept = h.6;
      within = omega (arith, long, all);
      none = subst HasNoEnd (sym front) none;
    }

-- a result depends on what there was before only by its numbers
answer_since : (r : Result (Option ℕ) Stop) (bytes : List ℕ) (old now new : Reading) (A F : Type 0) → now.passed ≡ old.passed → now.number ≡ old.number
    → NextAnswer r bytes now new A F → NextAnswer r bytes old new A F
answer_since (Ok (Some n)) bytes old now new A F p q h = (
  h.0,
  record {
    first = h.1.first;
    last = h.1.last;
    short = h.1.short;
    number = h.1.number ∙ ap (λ k. k + 1) q;
    passed = h.1.passed ∙ ap (λ k. k + length bytes) p;
    used = omega (arith, h.1.used, p);
    near = h.1.near;
  },
)
answer_since (Ok None) bytes old now new A F p q h = record { none = h.none; ended = h.ended; same_number = h.same_number ∙ q; same_passed = h.same_passed ∙ p; no_more = h.no_more }
answer_since (Err ReadFault) bytes old now new A F p q h = (h.0, h.1, omega (arith, h.2, p))
answer_since (Err (Long line)) bytes old now new A F p q h = (
  h.0 ∙ ap (λ k. k + 1) q,
  record { text = h.1.text; rest = h.1.rest; first = h.1.first; long = h.1.long; used = omega (arith, h.1.used, p); near = h.1.near },
)
answer_since (Err TooLong) bytes old now new A F p q h = record { all = omega (arith, h.all, p); none = subst (λ k. HasNoEnd (take (most_used_bytes - k) bytes)) p h.none }

-- a line was searched for, and this is the result for the bytes that are kept
pub looking_answers : (r : Result (Option ℕ) Stop) (a b : Option (List ℕ)) (old now new : Reading) (looked : ℕ) (A F : Type 0) → Looking a b old now looked
    → NextAnswer r now.ahead now new A F → (all : List ℕ) × Takes a b all × NextAnswer r (old.ahead ++ all) old new A F
looking_answers r a b old now new looked A F l h = (
  l.more,
  l.taken,
  answer_since r (old.ahead ++ l.more) old now new A F l.passed l.number (subst (λ (xs : List ℕ). NextAnswer r xs now new A F) l.ahead h),
)

pub looking_gives : (r : Result (Option ℕ) Stop) (a b : Option (List ℕ)) (old now new : Reading) (looked : ℕ) (A F : Type 0) → Looking a b old now looked
    → NextAnswer r now.ahead now new ⊥ ⊥ → (all : List ℕ) × Takes a b all × NextAnswer r (old.ahead ++ all) old new A F
looking_gives r a b old now new looked A F l h = looking_answers r a b old now new looked A F l (answer_if F r now.ahead now new (λ (e : ⊥). absurd e) h)

-- nothing came, and this is the result for the bytes that are kept
pub looking_rest : (n : ℕ) (r : Result (Option ℕ) Stop) (a b c : Option (List ℕ)) (old now new last : Reading) (looked : ℕ) (A F : Type 0) → Looking a b old now looked
    → (more : List ℕ) → Takes b c more → FillAnswer (Ok n) more now new A F → n ≡ 0 → NextAnswer r new.ahead new last ⊤ ⊥ → (all : List ℕ) × Takes a c all × NextAnswer r (old.ahead ++ all) old last A F
looking_rest n r a b c old now new last looked A F l more taken h zero answer = (
  l.more ++ more,
  Takes-join a b c l.more more l.taken taken,
  answer_since r (old.ahead ++ (l.more ++ more)) old new last A F (h.2 ∙ l.passed) (h.3 ∙ l.number)
      (subst (λ (xs : List ℕ). NextAnswer r xs new last A F) (h.1 ∙ ap (λ (xs : List ℕ). xs ++ more) l.ahead ∙ append_assoc old.ahead l.more more) (answer_if F r new.ahead new last (λ (e : ⊤). h.4 zero) answer)),
)

-- the buffer is full, and the line was skipped
pub looking_passes : (stop : Stop) (a b c : Option (List ℕ)) (old now new : Reading) (looked : ℕ) (A F : Type 0) → Looking a b old now looked
    → (more : List ℕ) → Takes b c more → NextAnswer (Err stop) (now.ahead ++ more) now new A F → (all : List ℕ) × Takes a c all × NextAnswer (Err stop) (old.ahead ++ all) old new A F
looking_passes stop a b c old now new looked A F l more taken h = (
  l.more ++ more,
  Takes-join a b c l.more more l.taken taken,
  answer_since (Err stop) (old.ahead ++ (l.more ++ more)) old now new A F l.passed l.number
      (subst (λ (xs : List ℕ). NextAnswer (Err stop) xs now new A F) (ap (λ (xs : List ℕ). xs ++ more) l.ahead ∙ append_assoc old.ahead l.more more) h),
)

-- no more bytes could be taken
pub looking_stops : (stop : Stop) (a b c : Option (List ℕ)) (old now new last : Reading) (looked : ℕ) (A F : Type 0) → Looking a b old now looked → HasNoEnd now.ahead
    → (more : List ℕ) → Takes b c more → FillAnswer (Err stop) more now new A F → (all : List ℕ) × Takes a c all × NextAnswer (Err stop) (old.ahead ++ all) old last A F
looking_stops ReadFault a b c old now new last looked A F l none more taken h = (
  l.more,
  subst (Takes a c) (ap (λ (xs : List ℕ). l.more ++ xs) h.1 ∙ append-nil l.more) (Takes-join a b c l.more more l.taken taken),
  (h.0, subst HasNoEnd l.ahead none, omega (arith, ap length l.ahead, l.passed, l.used)),
)
looking_stops TooLong a b c old now new last looked A F l none more taken h =
    let whole : (old.ahead ++ l.more) ++ more ≡ old.ahead ++ (l.more ++ more) = append_assoc old.ahead l.more more in
    let same : length now.ahead ≡ length (old.ahead ++ l.more) = ap length l.ahead in
    let long : length (old.ahead ++ (l.more ++ more)) ≡ length (old.ahead ++ l.more) + length more = ap length (sym whole) ∙ length-append (old.ahead ++ l.more) more in
    let room : length (old.ahead ++ l.more) ≡ most_used_bytes - old.passed = omega (arith, same, l.passed, h.1) in
    let front : take (most_used_bytes - old.passed) (old.ahead ++ (l.more ++ more)) ≡ now.ahead =
    ap (take (most_used_bytes - old.passed)) (sym whole) ∙ take_at (old.ahead ++ l.more) more (most_used_bytes - old.passed) room ∙ sym l.ahead in (
      l.more ++ more,
      Takes-join a b c l.more more l.taken taken,
      record { all = omega (arith, long, h.0, h.1, l.passed, same); none = subst HasNoEnd (sym front) none },
    )
looking_stops (Long line) a b c old now new last looked A F l none more taken h = absurd h

-- a stop is passed on unchanged
pub stop_is : (r : Result (Option ℕ) Stop) (stop : Stop) → IsErrAnd r (λ e. e ≡ stop) → Err stop ≡ r
stop_is (Ok n) stop h = absurd h
stop_is (Err e) stop h = ap Err (sym h)

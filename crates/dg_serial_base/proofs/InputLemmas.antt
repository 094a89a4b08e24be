-- The input is read and played piece by piece.
use Rattle.std.proofs.Common.{◌≡◌, ℕ, ◌+◌, ◌-◌, ◌≤◌, List, [], ◌∷◌, ◌++◌, length, take, refl, ap, sym, ◌∙◌, subst, append-nil, length-append, arith}
use Rattle.std.proofs.lemmas.List.{length-take, take_all, take-append-le}
use Rattle.std.specs.Prelude.{Option, Some, None, Result, Ok, Err}
use Rattle.dg_base.specs.Outside.{Takes, AtEnd}
use Rattle.dg_base.specs.Sizes.{most_input}
use Rattle.dg_base.proofs.OutsideLemmas.{Takes-join}
use Rattle.dg_nor.specs.Device.{Device}
use Rattle.dg_serial_base.specs.BaseEvents.{base_events_of}
use Rattle.dg_serial_base.specs.inner.Standing.{Calm, Counts, Outset, LineAt, WriteCounts, BaseEventsHalted, StreamPlayed, PieceRead, PieceHalted, PieceFails, LastEnds, Consumed, InputBy, InputEnds}
use Rattle.dg_end.specs.declared.ends.End.{End}
use Rattle.dg_end.specs.declared.ends.End.TheVariants as ends
use Rattle.dg_serial_base.proofs.PlayLemmas.{played_along}

takes_nothing : (a : Option (List ℕ)) → Takes a a []
takes_nothing None = refl
takes_nothing (Some rest) = refl

-- ---- a piece

pub piece_read : (a : Outset) (stream bytes more : List ℕ) (most count : ℕ) (left_old left_now : Option (List ℕ)) (now : LineAt) → bytes ≡ more → Takes left_old left_now more → length more ≤ most
    → count ≡ length more → (count ≡ 0 → AtEnd left_now) → StreamPlayed a (stream ++ bytes) now → PieceRead a stream most count left_old left_now now
piece_read a stream bytes more most count left_old left_now now e taken few count_is ended p =
    record {
      more = more;
      taken = taken;
      few = few;
      counted = sym count_is;
      played = played_along a (stream ++ bytes) (stream ++ more) now (ap (λ (x : List ℕ). stream ++ x) e) p;
      ended = ended;
    }

piece_fails : (why : End) (a : Outset) (stream : List ℕ) (most : ℕ) (left_old left_now : Option (List ℕ)) (now : LineAt) → PieceHalted why a stream most left_old left_now now.code → PieceFails why a stream most left_old left_now now
piece_fails ends.ReadFault a stream most left_old left_now now h = absurd h.halted.by
piece_fails end a stream most left_old left_now now h = h

pub piece_halts : (why : End) (a : Outset) (stream bytes more : List ℕ) (most : ℕ) (left_old left_now : Option (List ℕ)) (now : LineAt) → bytes ≡ more → Takes left_old left_now more → length more ≤ most
    → BaseEventsHalted why a (base_events_of (stream ++ bytes)) now.code.written now.code.chip → PieceFails why a stream most left_old left_now now
piece_halts why a stream bytes more most left_old left_now now e taken few h =
    piece_fails why a stream most left_old left_now now
    (record { more = more; taken = taken; few = few; halted = subst (λ (x : List ℕ). BaseEventsHalted why a (base_events_of (stream ++ x)) now.code.written now.code.chip) e h })

pub piece_unread : (why : End) (a : Outset) (stream more : List ℕ) (most : ℕ) (left_old left_now : Option (List ℕ)) (now : LineAt) → why ≡ ends.ReadFault → more ≡ [] → Takes left_old left_now more
    → StreamPlayed a stream now → PieceFails why a stream most left_old left_now now
piece_unread why a stream more most left_old left_now now is none taken p =
    subst (λ (x : End). PieceFails x a stream most left_old left_now now) (sym is) (subst (λ (x : List ℕ). Takes left_old left_now x) none taken, p)

-- ---- pieces one after the other

pub consumed_none : (a : Outset) (left : Option (List ℕ)) (now : LineAt) → StreamPlayed a [] now → Consumed a 0 left left now
consumed_none a left now p = record { stream = []; counted = refl; taken = takes_nothing left; played = p }

module _ (a : Outset) (used : ℕ) (left_old left_mid left_now : Option (List ℕ)) (mid now : LineAt) (c : Consumed a used left_old left_mid mid) where
  pub consumed_more : (most count : ℕ) → PieceRead a c.stream most count left_mid left_now now → Consumed a (used + count) left_old left_now now
  consumed_more most count x =
      record {
        stream = c.stream ++ x.more;
        counted = omega (arith, length-append c.stream x.more, c.counted, x.counted);
        taken = Takes-join left_old left_mid left_now c.stream x.more c.taken x.taken;
        played = x.played;
      }

  used_all : (input : List ℕ) → length input ≤ most_input → StreamPlayed a input now → StreamPlayed a (take most_input input) now
  used_all input few p = played_along a input (take most_input input) now (sym (take_all most_input input few)) p

  -- no byte came
  pub input_ends : (count : ℕ) → count ≡ 0 → used ≤ most_input → PieceRead a c.stream (most_input - used) count left_mid left_now now → InputEnds (Ok tt) a left_old left_now now
  input_ends count none le x =
      let whole : List ℕ = c.stream ++ x.more in
      let few : length whole ≤ most_input = omega (arith, length-append c.stream x.more, c.counted, x.counted, none, le) in
      record {
        input = whole;
        taken = Takes-join left_old left_mid left_now c.stream x.more c.taken x.taken;
        few = omega (arith, few);
        by = (used_all whole few x.played, x.ended none, few);
      }

  halted_all : (why : End) (input : List ℕ) → length input ≤ most_input → BaseEventsHalted why a (base_events_of input) now.code.written now.code.chip → BaseEventsHalted why a (base_events_of (take most_input input)) now.code.written now.code.chip
  halted_all why input few h = subst (λ (x : List ℕ). BaseEventsHalted why a (base_events_of x) now.code.written now.code.chip) (sym (take_all most_input input few)) h

  input_halts : (why : End) → ((input : List ℕ) → BaseEventsHalted why a (base_events_of (take most_input input)) now.code.written now.code.chip → InputBy (Err why) a input left_now now) → used ≤ most_input
      → PieceHalted why a c.stream (most_input - used) left_mid left_now now.code → InputEnds (Err why) a left_old left_now now
  input_halts why by le x =
      let whole : List ℕ = c.stream ++ x.more in
      let few : length whole ≤ most_input = omega (arith, length-append c.stream x.more, c.counted, x.few, le) in
      record {
        input = whole;
        taken = Takes-join left_old left_mid left_now c.stream x.more c.taken x.taken;
        few = omega (arith, few);
        by = by whole (halted_all why whole few x.halted);
      }

  pub input_fails : (why : End) → used ≤ most_input → PieceFails why a c.stream (most_input - used) left_mid left_now now → InputEnds (Err why) a left_old left_now now
  input_fails ends.ReadFault le x =
      let whole : List ℕ = c.stream ++ [] in
      let few : length whole ≤ most_input = omega (arith, length-append c.stream [], c.counted, le) in
      record {
        input = whole;
        taken = Takes-join left_old left_mid left_now c.stream [] c.taken x.0;
        few = omega (arith, few);
        by = (used_all whole few (played_along a c.stream whole now (sym (append-nil c.stream)) x.1), few);
      }
  input_fails ends.Memory le x = input_halts ends.Memory (λ input h. h) le x
  input_fails ends.WriteFault le x = input_halts ends.WriteFault (λ input h. h) le x
  input_fails ends.FlashFault le x = input_halts ends.FlashFault (λ input h. h) le x
  input_fails ends.NoImage le x = input_halts ends.NoImage (λ input h. h) le x
  input_fails end le x = absurd x.halted.by

module _ (a : Outset) (left_old left_mid left_now : Option (List ℕ)) (now : LineAt) (c : Consumed a most_input left_old left_mid now) where
  used_whole : (more : List ℕ) → take most_input (c.stream ++ more) ≡ c.stream
  used_whole more =
      let le : most_input ≤ length c.stream = omega (arith, c.counted) in
      let all : length c.stream ≤ most_input = omega (arith, c.counted) in
      take-append-le most_input c.stream more le ∙ take_all most_input c.stream all

  played_whole : (more : List ℕ) → StreamPlayed a (take most_input (c.stream ++ more)) now
  played_whole more = played_along a c.stream (take most_input (c.stream ++ more)) now (sym (used_whole more)) c.played

  -- the bytes that are used were all played, and it was checked whether more follow
  pub last_ends : (r : Result (Unit {0}) End) → LastEnds r left_mid left_now → InputEnds r a left_old left_now now
  last_ends (Ok x) l =
      let few : length (c.stream ++ []) ≤ most_input = omega (arith, length-append c.stream [], c.counted) in
      record { input = c.stream ++ []; taken = Takes-join left_old left_mid left_now c.stream [] c.taken l.0; few = omega (arith, few); by = (played_whole [], l.1, few) }
  last_ends (Err ends.ReadFault) l =
      let few : length (c.stream ++ []) ≤ most_input = omega (arith, length-append c.stream [], c.counted) in
      record { input = c.stream ++ []; taken = Takes-join left_old left_mid left_now c.stream [] c.taken l; few = omega (arith, few); by = (played_whole [], few) }
  last_ends (Err ends.TooLong) l =
      let long : length (c.stream ++ l.0 ∷ []) ≡ most_input + 1 = omega (arith, length-append c.stream (l.0 ∷ []), c.counted) in
      record {
        input = c.stream ++ l.0 ∷ [];
        taken = Takes-join left_old left_mid left_now c.stream (l.0 ∷ []) c.taken l.1;
        few = omega (arith, long);
        by = (played_whole (l.0 ∷ []), omega (arith, long));
      }
  last_ends (Err end) l = absurd l

-- ---- the last byte

pub none_of_length : (xs : List ℕ) → length xs ≡ 0 → xs ≡ []
none_of_length [] e = refl
none_of_length (x ∷ xs) e = absurd (omega (arith, e))

pub one_of : (xs : List ℕ) → length xs ≤ 1 → (length xs ≡ 0 → ⊥) → (x : ℕ) × (xs ≡ x ∷ [])
one_of [] le n = absurd (n refl)
one_of (x ∷ xs) le n = let e : length xs ≡ 0 = omega (arith, le) in (x, ap (λ (ys : List ℕ). x ∷ ys) (none_of_length xs e))

pub last_unread : (why : End) (more : List ℕ) (left_old left_now : Option (List ℕ)) → why ≡ ends.ReadFault → more ≡ [] → Takes left_old left_now more → LastEnds (Err why) left_old left_now
last_unread why more left_old left_now is none taken = subst (λ (x : End). LastEnds (Err x) left_old left_now) (sym is) (subst (λ (x : List ℕ). Takes left_old left_now x) none taken)

pub take_fits : (n : ℕ) (xs more : List ℕ) → n ≡ length more → take n xs ≡ more → n ≤ length xs
take_fits n xs more e t = omega (arith, e, ap (λ (ys : List ℕ). length ys) t, length-take n xs)

-- the check whether more follow stops no chip, and writes nothing
pub last_counts : (r : Result (Unit {0}) End) (left_old left_now : Option (List ℕ)) (a b : Device) → LastEnds r left_old left_now → Calm a b → Counts r a b
last_counts (Ok x) left_old left_now a b l calm = calm
last_counts (Err ends.ReadFault) left_old left_now a b l calm = calm
last_counts (Err ends.TooLong) left_old left_now a b l calm = calm
last_counts (Err end) left_old left_now a b l calm = absurd l

pub last_writes : (r : Result (Unit {0}) End) (left_old left_now : Option (List ℕ)) (f g : ℕ) → LastEnds r left_old left_now → g ≡ f → WriteCounts r f g
last_writes (Ok x) left_old left_now f g l e = e
last_writes (Err ends.ReadFault) left_old left_now f g l e = e
last_writes (Err ends.TooLong) left_old left_now f g l e = e
last_writes (Err end) left_old left_now f g l e = absurd l

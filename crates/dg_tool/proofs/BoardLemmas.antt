-- The first of the boards.
use Rattle.std.proofs.Common.{◌≡◌, ℕ, ◌<◌, Bool, true, false, List, [], ◌∷◌, ◌++◌, length, take, map, get_or, set, Option, Some, Result, Ok, Err, IsErrAnd, refl, sym, ap, subst, ◌∙◌, inr, arith, cond}
use Rattle.std.specs.Prelude.{nat_lt, ◌==◌}
use Rattle.std.proofs.lemmas.List.{take-append-le, take_all}
use Rattle.std.proofs.lemmas.Bool.{eqb-false}
use Rattle.std.proofs.lemmas.Bool.Decides.{nat_tests}
use Rattle.dg_nor.specs.Device.{Device}
use Rattle.dg_nor.specs.Reads.{Looked}
use Rattle.dg_volume.specs.Store.{Store}
use Rattle.dg_end.specs.Lines.{Outcome, text_outcome}
use Rattle.dg_end.specs.declared.ends.End.{End}
use Rattle.dg_end.specs.declared.ends.End.TheVariants as ends
use Rattle.dg_tool.specs.Endings.{VerbEnding, Before, outcome_of, StandsAs, FirstAs}
use Rattle.dg_tool.specs.inner.OnChip.{verb_by_boards}
use Rattle.dg_tool.specs.Done.{VerbRule, verb_rule, ActsAs, EndsAs, AtFirst, IsBoardStopped, OutcomeShows, OnBoards}
use Rattle.dg_tool.specs.inner.OneBoard.{OnBoard, IsBefore, IsFound, IsOfVerb}
use Rattle.dg_tool.proofs.OutcomeLemmas.{at_end, acts_as, ends_as}

lt_true : (k n : ℕ) → k < n → nat_lt k n ≡ true
lt_true k n h = grind (arith, nat_tests)

lt_false : (k n : ℕ) → n ≡ k → nat_lt k n ≡ false
lt_false k n h = grind (arith, nat_tests)

pub by_some : (n : ℕ) (e : VerbEnding) → 0 < n → verb_by_boards n e ≡ e
by_some n e some = ap (λ (b : Bool). cond b e (Before (ends.NoBoard 1 0))) (lt_true 0 n some)

pub by_none : (n : ℕ) (e : VerbEnding) → n ≡ 0 → verb_by_boards n e ≡ Before (ends.NoBoard 1 0)
by_none n e none = ap (λ (b : Bool). cond b e (Before (ends.NoBoard 1 0))) (lt_false 0 n none)

pub same_some : {A : Type 0} (x y : A) → Some x ≡ Some y → x ≡ y
same_some x y e = cc

pub some_of : (n : ℕ) → (n == 0) ≡ false → 0 < n
some_of n e = omega (arith, eqb-false n 0 e)

pub some_mapped : {N D : Type 0} (f : N → D) (items : List N) → 0 < length items → 0 < length (map f items)
some_mapped f [] some = absurd (omega (arith, some))
some_mapped f (x ∷ xs) some = omega arith

pub none_mapped : {N D : Type 0} (f : N → D) (items : List N) → length items ≡ 0 → length (map f items) ≡ 0
none_mapped f [] none = refl
none_mapped f (x ∷ xs) none = absurd (omega (arith, none))

-- ---- one board

at_first : (P : Device → Device → Type 0) (d e : Device) (ds : List Device) → P d e → AtFirst P (d ∷ ds) (e ∷ ds)
at_first P d e ds h a b was is = subst (λ (x : Device). P x b) (same_some d a was) (subst (λ (y : Device). P d y) (same_some e b is) h)

ends_first : (outcome : Outcome) (ending : VerbEnding) (acted halted : Device → Device → Type 0) (d e : Device) (ds : List Device) → EndsAs outcome ending (e ≡ d) (Looked d e) (acted d e) (halted d e) → EndsAs outcome ending (e ∷ ds ≡ d ∷ ds) (AtFirst Looked (d ∷ ds) (e ∷ ds)) (AtFirst acted (d ∷ ds) (e ∷ ds)) (AtFirst halted (d ∷ ds) (e ∷ ds))
ends_first outcome ending acted halted d e ds h =
    ends_as ending (e ≡ d) (Looked d e) (acted d e) (halted d e) (e ∷ ds ≡ d ∷ ds) (AtFirst Looked (d ∷ ds) (e ∷ ds)) (AtFirst acted (d ∷ ds) (e ∷ ds)) (AtFirst halted (d ∷ ds) (e ∷ ds))
    (acts_as ending (e ≡ d) (Looked d e) (acted d e) (e ∷ ds ≡ d ∷ ds) (AtFirst Looked (d ∷ ds) (e ∷ ds)) (AtFirst acted (d ∷ ds) (e ∷ ds)) (inr (λ s. ap (λ (x : Device). x ∷ ds) s)) (at_first Looked d e ds) (at_first acted d e ds))
    (at_first Looked d e ds) (at_first halted d e ds) outcome (λ _ s. ap (λ (x : Device). x ∷ ds) s) h

-- what an outcome shows, once the board was used
shows_board : (outcome : Outcome) (F S R U : Type 0) → (IsFound outcome → F) → (outcome ≡ Err ends.FlashFault → S) → IsOfVerb outcome → (IsBefore outcome → ⊥) → OutcomeShows outcome F S R U
shows_board (Ok text) F S R U found stops of_verb on_board = found tt
shows_board (Err ends.Memory) F S R U found stops of_verb on_board = tt
shows_board (Err ends.ReadFault) F S R U found stops of_verb on_board = absurd (on_board tt)
shows_board (Err ends.WriteFault) F S R U found stops of_verb on_board = absurd of_verb
shows_board (Err ends.FlashFault) F S R U found stops of_verb on_board = stops refl
shows_board (Err ends.LinkFault) F S R U found stops of_verb on_board = absurd of_verb
shows_board (Err ends.NotAVolume) F S R U found stops of_verb on_board = found tt
shows_board (Err ends.NoImage) F S R U found stops of_verb on_board = found tt
shows_board (Err ends.TooLong) F S R U found stops of_verb on_board = absurd (on_board tt)
shows_board (Err ends.TooMany) F S R U found stops of_verb on_board = absurd of_verb
shows_board (Err (ends.NoBoard need have)) F S R U found stops of_verb on_board = absurd (on_board tt)
shows_board (Err (ends.BadHex fault)) F S R U found stops of_verb on_board = absurd (on_board tt)
shows_board (Err (ends.BadLine number fault)) F S R U found stops of_verb on_board = absurd of_verb
shows_board (Err (ends.BadProfile fault)) F S R U found stops of_verb on_board = absurd of_verb
shows_board (Err (ends.Refused cause)) F S R U found stops of_verb on_board = found tt

on_one : (failed : Type 0) (outcome : Outcome) (chips : Option Store → Type 0) (ending : Option Store → VerbEnding) (acted halted : Option Store → Device → Device → Type 0) (d e : Device) (ds : List Device) → OnBoard outcome (verb_rule chips ending acted halted) d e → OnBoards outcome (verb_rule chips ending acted halted) failed (d ∷ ds) (e ∷ ds)
on_one failed outcome chips ending acted halted d e ds h = record {
  rules = λ chip stands.
      subst (λ (x : VerbEnding). EndsAs outcome x (e ∷ ds ≡ d ∷ ds) (AtFirst Looked (d ∷ ds) (e ∷ ds)) (AtFirst (acted chip) (d ∷ ds) (e ∷ ds)) (AtFirst (halted chip) (d ∷ ds) (e ∷ ds))) (sym (by_some (length (d ∷ ds)) (ending chip) (omega arith)))
      (ends_first outcome (ending chip) (acted chip) (halted chip) d e ds (h.rules chip stands));
  shows = shows_board outcome ((chip : Option Store) × chips chip) (AtFirst IsBoardStopped (d ∷ ds) (e ∷ ds)) failed (e ∷ ds ≡ d ∷ ds) h.found (λ s. at_first IsBoardStopped d e ds (h.stops s)) h.of_verb h.on_board;
  count = refl;
  others = refl;
}

pub on_first : {N : Type 0} (failed : Type 0) (f : N → Device) (items : List N) (x y : N) (outcome : Outcome) (ending : Option Store → VerbEnding) (acted halted : Option Store → Device → Device → Type 0) → 0 < length items
    → OnBoard outcome (verb_rule (StandsAs (f (get_or items 0 x)).image) ending acted halted) (f (get_or items 0 x)) (f y) → OnBoards outcome (verb_rule (FirstAs (map f items)) ending acted halted) failed (map f items) (map f (set items 0 y))
on_first failed f [] x y outcome ending acted halted some h = absurd (omega (arith, some))
on_first failed f (z ∷ zs) x y outcome ending acted halted some h = on_one failed outcome (StandsAs (f z).image) ending acted halted (f z) (f y) (map f zs) h

-- the same, where nothing is asked of the board
pub on_any : {N : Type 0} (failed : Type 0) (f : N → Device) (items : List N) (x y : N) (outcome : Outcome) (ending : Option Store → VerbEnding) (acted halted : Option Store → Device → Device → Type 0) → 0 < length items
    → OnBoard outcome (verb_rule (λ chip. Unit {0}) ending acted halted) (f (get_or items 0 x)) (f y) → OnBoards outcome (verb_rule (λ chip. Unit {0}) ending acted halted) failed (map f items) (map f (set items 0 y))
on_any failed f [] x y outcome ending acted halted some h = absurd (omega (arith, some))
on_any failed f (z ∷ zs) x y outcome ending acted halted some h = on_one failed outcome (λ chip. Unit {0}) ending acted halted (f z) (f y) (map f zs) h

-- ---- the boards, unchanged

-- there is no board
pub no_boards : {N : Type 0} (f : N → Device) (items : List N) (failed : Type 0) (chips : Option Store → Type 0) (ending : Option Store → VerbEnding) (acted halted : Option Store → Device → Device → Type 0) → length items ≡ 0 → OnBoards (Err (ends.NoBoard 1 0)) (verb_rule chips ending acted halted) failed (map f items) (map f items)
no_boards f [] failed chips ending acted halted none = record {
  rules = λ chip _. let none : List Device = [] in (ap outcome_of (sym (by_none 0 (ending chip) refl)), subst (λ (x : VerbEnding). ActsAs x (none ≡ none) (AtFirst Looked none none) (AtFirst (acted chip) none none)) (sym (by_none 0 (ending chip) refl)) refl);
  shows = refl;
  count = refl;
  others = refl;
}
no_boards f (x ∷ xs) failed chips ending acted halted none = absurd (omega (arith, none))

-- ---- bytes that stay

pub same_bytes : {N : Type 0} (f : N → Device) (items : List N) (x y : N) → 0 < length items → (f y).image ≡ (f (get_or items 0 x)).image → map (λ n. (f n).image) (set items 0 y) ≡ map (λ n. (f n).image) items
same_bytes f [] x y some e = absurd (omega (arith, some))
same_bytes f (z ∷ zs) x y some e = ap (λ (c : List ℕ). c ∷ map (λ n. (f n).image) zs) e

-- ---- the exit of a `?`

pub at_boards : {T : Type 0} (view : T → List ℕ) (r : Result T End) (e : End) (rule : VerbRule) (failed : Type 0) (old new : List Device) → IsErrAnd r (λ x. x ≡ e) → OnBoards (Err e) rule failed old new → OnBoards (text_outcome view r) rule failed old new
at_boards view r e rule failed old new is h = at_end view (λ outcome. OnBoards outcome rule failed old new) r e is h

-- ---- the elements of a vector, lent as a slice and given back

pub written_back : {A : Type 0} (n : ℕ) (now rest : List A) → n ≡ length now → take n (now ++ rest) ≡ now
written_back n now rest e = take-append-le n now rest (omega (arith, e)) ∙ take_all n now (omega (arith, e))

pub lent_back : {N : Type 0} (f : N → Device) (P : List Device → List Device → Type 0) (n : ℕ) (lent items now rest : List N) → lent ≡ items → n ≡ length now → P (map f lent) (map f now) → P (map f items) (map f (take n (now ++ rest)))
lent_back {N} f P n lent items now rest same count h =
    subst (λ (x : List N). P (map f items) (map f x)) (sym (written_back n now rest count)) (subst (λ (x : List N). P (map f x) (map f now)) same h)

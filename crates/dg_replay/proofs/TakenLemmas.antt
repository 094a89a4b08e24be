-- What the bytes that were taken say of an input that continues after them.
use Rattle.std.proofs.Common.{◌≡◌, ℕ, ◌<◌, Bool, true, List, [], ◌∷◌, ◌++◌, length, take, length-append, append_assoc, refl, ap, sym, ◌∙◌, subst, arith}
use Rattle.std.specs.Prelude.{None, if◌then◌else◌, not}
use Rattle.std.specs.Str.Lines.{lines}
use Rattle.std.proofs.lemmas.List.{take-append-le}
use Rattle.dg_nor.specs.Device.{Device}
use Rattle.dg_script.specs.Sizes.{most_used_bytes}
use Rattle.dg_script.specs.Places.{first_place, place_after}
use Rattle.dg_script.specs.Script.{Script, script_from}
use Rattle.dg_script.specs.declared.place.Place.{Place}
use Rattle.dg_script.specs.declared.line.Line.{Line}
use Rattle.dg_script.specs.declared.line.Line.TheVariants.{Nothing, Motes, Golden, Boards, Link, Narrow, Image, Cut, Happens as EventLine, Round, Sweeps}
use Rattle.dg_script.specs.Items.{Item}
use Rattle.dg_replay.specs.Items.{StartState, no_start_state, Beginning, begin_by, begin_behind, motes_in, next_items}
use Rattle.dg_world.specs.Boards.{BoardStopped}
use Rattle.dg_replay.specs.Ending.{whole_lines, used, has_unused_bytes, script_of, ending_from}
use Rattle.dg_replay.specs.Replayed.{IsSettled, AreWhole, DoneIsWhole}
use Rattle.dg_replay.proofs.EndLemmas.{is_over-true, over_more}
use Rattle.dg_replay.proofs.GoldenLemmas.{script_of_fits}
use Rattle.dg_replay.proofs.LineRanges.{LinesFit, front_fits, not_first}
use Rattle.dg_replay.proofs.PlayLemmas.{second_at, later_at, link_at, narrow_at, event_at}

-- ---- more bytes than are used

still_over : (input more : List ℕ) → has_unused_bytes input ≡ true → has_unused_bytes (input ++ more) ≡ true
still_over input more over = is_over-true (input ++ more) (longer input more _ (over_more input over))
  where
    longer : (xs ys : List ℕ) (k : ℕ) → k < length xs → k < length (xs ++ ys)
    longer xs ys k h = omega (arith, length-append xs ys, h)

same_front : (k : ℕ) (xs ys : List ℕ) → k < length xs → take k (xs ++ ys) ≡ take k xs
same_front k xs ys h = take-append-le k xs ys (omega (arith, h))

over_used : (input more : List ℕ) → has_unused_bytes input ≡ true → used (input ++ more) ≡ used input
over_used input more over =
    ap (λ (b : Bool). if b then whole_lines (take most_used_bytes (input ++ more)) else input ++ more) (still_over input more over)
    ∙ ap whole_lines (same_front _ input more (over_more input over))
    ∙ ap (λ (b : Bool). if b then whole_lines (take most_used_bytes input) else input) (sym over)

over_script : (input more : List ℕ) → has_unused_bytes input ≡ true → script_of (input ++ more) ≡ script_of input
unfolding script_of
over_script input more over =
    ap (λ (b : Bool). script_from (not b) first_place 1 (lines (used (input ++ more)))) (still_over input more over ∙ sym over)
    ∙ ap (λ (xs : List ℕ). script_from (not (has_unused_bytes input)) first_place 1 (lines xs)) (over_used input more over)

pub over_settled : (boards : ℕ) (input : List ℕ) → has_unused_bytes input ≡ true → IsSettled boards input
over_settled boards input over = λ more.
    ap (λ (b : Bool). ending_from boards b (script_of (input ++ more))) (still_over input more over ∙ sym over)
    ∙ ap (λ (s : Script). ending_from boards (has_unused_bytes input) s) (over_script input more over)

over_whole : (input : List ℕ) (done rest : List Line) → has_unused_bytes input ≡ true → done ++ rest ≡ (script_of input).lines → AreWhole input done
over_whole input done rest over front = λ more. (rest, front ∙ ap (λ (s : Script). s.lines) (sym (over_script input more over)))

-- the lines that were done, and one that was begun
pub over_done : (input : List ℕ) (done rest : List Line) (begun left : List Item) → has_unused_bytes input ≡ true → done ++ rest ≡ (script_of input).lines → next_items done rest ≡ begun ++ left → DoneIsWhole input done rest begun
over_done input done rest [] left over lines parts = over_whole input done rest over lines
over_done input done [] (x ∷ begun) left over lines parts = absurd (let e : [] ≡ x ∷ (begun ++ left) = parts in cc)
over_done input done (line ∷ rest) (x ∷ begun) left over lines parts = over_whole input (done ++ line ∷ []) rest over (append_assoc done (line ∷ []) rest ∙ lines)

-- nothing was done
pub none_whole : (input : List ℕ) → AreWhole input []
none_whole input = λ more. ((script_of (input ++ more)).lines, refl)

-- ---- how many motes there are

counted_stays : (g : StartState) (b : Beginning) (place : Place) (lines : List Line) → 0 < place.motes → LinesFit place lines → (begin_behind g b lines).motes ≡ b.motes
unfolding LinesFit begin_behind
counted_stays g b place [] some h = refl
counted_stays g b place (Nothing ∷ lines) some h = counted_stays g b place lines some h.3
counted_stays g b place (Motes n ∷ lines) some h = not_first place n some h.0
counted_stays g b place (Golden name used content ∷ lines) some h = counted_stays g (begin_by g b (Golden name used content)) (place_after place (Golden name used content)) lines some h.3
counted_stays g b place (Boards ∷ lines) some h = counted_stays g (begin_by g b Boards) (place_after place Boards) lines some h.3
counted_stays g b place (Link x y ∷ lines) some h = counted_stays g (begin_by g b (Link x y)) (place_after place (Link x y)) lines some h.3
counted_stays g b place (Narrow m ∷ lines) some h = counted_stays g (begin_by g b (Narrow m)) (place_after place (Narrow m)) lines some h.3
counted_stays g b place (Image image version name content ∷ lines) some h = counted_stays g b place lines some h.3
counted_stays g b place (Cut c ∷ lines) some h = counted_stays g b (place_after place (Cut c)) lines some h.3
counted_stays g b place (EventLine event ∷ lines) some h = counted_stays g b (place_after place (EventLine event)) lines some h.3
counted_stays g b place (Round x y ∷ lines) some h = counted_stays g b (place_after place (Round x y)) lines some h.3
counted_stays g b place (Sweeps n ∷ lines) some h = counted_stays g b (place_after place (Sweeps n)) lines some h.3

none_yet : {A : Type 0} → 0 < first_place.motes → A
none_yet some = absurd (omega (arith, some))

-- the first lines of a script that say how many motes there are say it of the whole script
counted_once : (done rest : List Line) → LinesFit first_place (done ++ rest) → 0 < motes_in done → motes_in (done ++ rest) ≡ motes_in done
unfolding LinesFit begin_behind
counted_once [] rest h some = absurd (omega (arith, some))
counted_once (Nothing ∷ done) rest h some = counted_once done rest h.3 some
counted_once (Motes n ∷ done) rest h some =
    let there : Place = place_after first_place (Motes n) in
    counted_stays no_start_state (record { motes = n; world = None }) there (done ++ rest) (omega (arith, h.1)) h.3
    ∙ sym (counted_stays no_start_state (record { motes = n; world = None }) there done (omega (arith, h.1)) (front_fits there done rest h.3))
counted_once (Golden name used content ∷ done) rest h some = none_yet (second_at first_place h.0.fits).1
counted_once (Boards ∷ done) rest h some = none_yet (second_at first_place h.0.fits).1
counted_once (Link x y ∷ done) rest h some = none_yet (link_at first_place x y h.0).0.1
counted_once (Narrow m ∷ done) rest h some = none_yet (narrow_at first_place m h.0).0.1
counted_once (Image image version name content ∷ done) rest h some = none_yet (later_at first_place h.0.fits).1
counted_once (Cut c ∷ done) rest h some = none_yet (later_at first_place h.0.fits).1
counted_once (EventLine event ∷ done) rest h some = none_yet (event_at first_place event h.0).1
counted_once (Round x y ∷ done) rest h some = none_yet (later_at first_place h.0.fits).1
counted_once (Sweeps n ∷ done) rest h some = none_yet (later_at first_place h.0.fits).1

-- a board after the first lines of a script is one that the script uses
pub known_in_script : (input : List ℕ) (done rest : List Line) (board : ℕ) → done ++ rest ≡ (script_of input).lines → board < motes_in done → board < motes_in (script_of input).lines
known_in_script input done rest board lines known =
    let some : 0 < motes_in done = omega (arith, known) in
    let same : motes_in (done ++ rest) ≡ motes_in done = counted_once done rest (subst (LinesFit first_place) (sym lines) (script_of_fits input)) some in
    subst (λ (n : ℕ). board < n) (sym same ∙ ap motes_in lines) known

-- a board that stopped after the first lines of a script is one that the script uses
pub stopped_of_script : (input : List ℕ) (done rest : List Line) (old new : List Device) → done ++ rest ≡ (script_of input).lines → BoardStopped (motes_in done) old new → BoardStopped (motes_in (script_of input).lines) old new
stopped_of_script input done rest old new lines s =
    let some : 0 < motes_in done = omega (arith, s.known) in
    let same : motes_in (done ++ rest) ≡ motes_in done = counted_once done rest (subst (LinesFit first_place) (sym lines) (script_of_fits input)) some in
    subst (λ (n : ℕ). BoardStopped n old new) (sym same ∙ ap motes_in lines) s

-- What is known of lines that were read.
use Rattle.std.proofs.Common.{◌≡◌, ℕ, ◌<◌, ◌≤◌, ◌^◌, not, true, List, Result, Ok, Err, IfOk, refl, sym, subst, arith}
use Rattle.std.proofs.lemmas.Bool.{not-true}
use Rattle.dg_words.specs.Cells.{AreBytes}
use Rattle.dg_base.specs.Sizes.{longest_frame}
use Rattle.dg_base.specs.declared.events.Event.TheVariants.{Tick, Hear, Last, Reset, Inject, Order, Frame}
use Rattle.dg_object.specs.Sizes.{most_bytes}
use Rattle.dg_script.specs.Sizes.{most_motes, most_image, most_used, most_sweeps, most_number, most_content}
use Rattle.dg_script.specs.Results.{allowed_if, or_fault}
use Rattle.dg_script.specs.Words.{one_of, two_of, three_of, four_of, five_of, six_of}
use Rattle.dg_script.specs.Contents.{spelled_name, sized_content, spelled_mask}
use Rattle.dg_script.specs.Verbs.{stands, follows, standing, verb_of}
use Rattle.dg_script.specs.Places.{is_linked, is_narrow}
use Rattle.dg_script.specs.Fields.{number_in, mote_in, other_in, any_image_in, version_in, counted_in}
use Rattle.dg_script.specs.inner.Words.{mote_count_in, image_in, used_in, sweeps_in}
use Rattle.dg_script.specs.Lines.{motes_of, golden_of, none_of, boards_of, link_of, narrow_of, image_of, tick_line_of, hear_of, last_line_of, reset_of, inject_of, order_of, frame_line_of, cut_with, cut_of, round_of, sweeps_of, fields_of, played_verb}
use Rattle.dg_script.specs.Ranges.{AreTwo, IsVersion}
use Rattle.dg_script.specs.Fitting.{is_played, StandsBy, StandsAt, FitsLine, IsTimed, IsPlayed}
use Rattle.dg_script.specs.Reading.{Reads}
use Rattle.dg_script.specs.declared.fault.LineFault.{LineFault}
use Rattle.dg_script.specs.declared.fault.LineFault.TheVariants as fault
use Rattle.dg_script.specs.declared.line.Line.{Line}
use Rattle.dg_script.specs.declared.line.Line.TheVariants.{Motes, Golden, Boards, Link, Narrow, Image, Cut, Happens as EventLine, Round, Sweeps}
use Rattle.dg_script.specs.declared.place.Place.{Place}
use Rattle.dg_script.specs.declared.verbs.Verb.{Verb}
use Rattle.dg_script.specs.declared.verbs.Verb.TheVariants as verb
use Rattle.dg_script.proofs.ResultLemmas.{bound, guarded_ok, tested}
use Rattle.dg_script.proofs.FieldLemmas.{same_of_ok, cut_with-is, number_in-fits, ranged_in-within, mote_in-below, other_in-other, name_of-name, sized_content-is, mask_of-bytes}

-- ---- lines

-- a line of this verb stands at its place, its fields are in their ranges, and it is played if the verb is
record Known (v : Verb) (place : Place) (line : Line) : Type 0 where
  stood : StandsAt place line
  fitting : FitsLine place.motes line
  playing : is_played v ≡ true → IsPlayed line

standing-by : (v : Verb) (place : Place) (u : Unit {0}) → standing v place ≡ Ok u → StandsBy v place
unfolding standing
standing-by v place u h =
    let stood = bound (allowed_if (stands v place) fault.Place) _ u h in
    let fits = guarded_ok (stands v place) fault.Place (tt {0}) stood.0 stood.1 in
    let behind = guarded_ok (follows v place) fault.Cut (tt {0}) u stood.2 in
    record { fits = fits.0; behind = behind.0 }

known_line : (v : Verb) (place : Place) (u : Unit {0}) (found line : Line) → standing v place ≡ Ok u → found ≡ line → (StandsBy v place → StandsAt place found) → FitsLine place.motes found → (is_played v ≡ true → IsPlayed found) → Known v place line
known_line v place u found line stood here at fitting playing =
    let P : Line → Type 0 = λ l. Known v place l in
    subst P here (record { stood = at (standing-by v place u stood); fitting = fitting; playing = playing })

timed : (dt word : List ℕ) (d w : ℕ) → number_in dt ≡ Ok d → number_in word ≡ Ok w → IsTimed d w
timed dt word d w e f = record { dt = number_in-fits dt d e; word = number_in-fits word w f }

counted : (word : List ℕ) (n : ℕ) → counted_in word ≡ Ok n → (1 ≤ n) × (n < 2 ^ 32)
counted word n h = let here = ranged_in-within fault.Number 1 most_number word n h in (here.0, omega (arith, here.1))

numbered : (word : List ℕ) (n : ℕ) → version_in word ≡ Ok n → (1 ≤ n) × (n < 2 ^ 32)
numbered word n h = let here = ranged_in-within fault.Version 1 most_number word n h in (here.0, omega (arith, here.1))

version_known : (image word : List ℕ) (i v : ℕ) → any_image_in image ≡ Ok i → version_in word ≡ Ok v → IsVersion i v
version_known image word i v e f = record { image = (ranged_in-within fault.Image 0 most_image image i e).1; version = (numbered word v f).0 }

two : (motes : ℕ) (first second : List ℕ) (a b : ℕ) → mote_in motes first ≡ Ok a → other_in motes a second ≡ Ok b → AreTwo motes a b
two motes first second a b e f = let other = other_in-other motes a second b f in record { first = mote_in-below motes first a e; second = other.0; two = λ same. other.1 (sym same) }

motes_known : (place : Place) (fields : List (List ℕ)) (line : Line) → motes_of place fields ≡ Ok line → Known verb.Motes place line
unfolding motes_of
motes_known place fields line h =
    let t = bound (one_of fields) _ line h in
    let u = bound (standing verb.Motes place) _ line t.2 in
    let n = bound (mote_count_in t.0) _ line u.2 in
    known_line verb.Motes place u.0 (Motes n.0) line u.1 (cc) (λ s. s) (ranged_in-within fault.Mote 1 most_motes t.0 n.0 n.1) (λ p. p)

golden_known : (place : Place) (fields : List (List ℕ)) (line : Line) → golden_of place fields ≡ Ok line → Known verb.Golden place line
unfolding golden_of
golden_known place fields line h =
    let t = bound (three_of fields) _ line h in
    let u = bound (standing verb.Golden place) _ line t.2 in
    let name = bound (spelled_name t.0.0) _ line u.2 in
    let used = bound (used_in t.0.1) _ line name.2 in
    let content = bound (sized_content 1 most_bytes t.0.2) _ line used.2 in
    let size = sized_content-is 1 most_bytes t.0.2 content.0 content.1 in
    let spent = ranged_in-within fault.Number 0 most_used t.0.1 used.0 used.1 in
    known_line verb.Golden place u.0 (Golden name.0 used.0 content.0) line u.1 (cc) (λ s. s) (record { name = name_of-name t.0.0 name.0 name.1; used = spent.1; some = size.low; fits = size.high; bytes = size.bytes }) (λ p. p)

boards_known : (place : Place) (fields : List (List ℕ)) (line : Line) → boards_of place fields ≡ Ok line → Known verb.Boards place line
unfolding boards_of
boards_known place fields line h =
    let t = bound (none_of fields) _ line h in
    let u = bound (standing verb.Boards place) _ line t.2 in
    known_line verb.Boards place u.0 Boards line u.1 (cc) (λ s. s) tt (λ p. p)

link_known : (place : Place) (fields : List (List ℕ)) (line : Line) → link_of place fields ≡ Ok line → Known verb.Link place line
unfolding link_of
link_known place fields line h =
    let t = bound (two_of fields) _ line h in
    let u = bound (standing verb.Link place) _ line t.2 in
    let a = bound (mote_in place.motes t.0.0) _ line u.2 in
    let b = bound (other_in place.motes a.0 t.0.1) _ line a.2 in
    let new = guarded_ok (not (is_linked place.links a.0 b.0)) fault.Place (Link a.0 b.0) line b.2 in
    known_line verb.Link place u.0 (Link a.0 b.0) line u.1 new.1 (λ s. (s, not-true _ new.0)) (two place.motes t.0.0 t.0.1 a.0 b.0 a.1 b.1) (λ p. p)

narrow_known : (place : Place) (fields : List (List ℕ)) (line : Line) → narrow_of place fields ≡ Ok line → Known verb.Narrow place line
unfolding narrow_of
narrow_known place fields line h =
    let t = bound (one_of fields) _ line h in
    let u = bound (standing verb.Narrow place) _ line t.2 in
    let m = bound (mote_in place.motes t.0) _ line u.2 in
    let new = guarded_ok (not (is_narrow place.narrow m.0)) fault.Place (Narrow m.0) line m.2 in
    known_line verb.Narrow place u.0 (Narrow m.0) line u.1 new.1 (λ s. (s, not-true _ new.0)) (mote_in-below place.motes t.0 m.0 m.1) (λ p. p)

image_known : (place : Place) (fields : List (List ℕ)) (line : Line) → image_of place fields ≡ Ok line → Known verb.Image place line
unfolding image_of
image_known place fields line h =
    let t = bound (four_of fields) _ line h in
    let u = bound (standing verb.Image place) _ line t.2 in
    let image = bound (image_in t.0.0) _ line u.2 in
    let version = bound (version_in t.0.1) _ line image.2 in
    let name = bound (spelled_name t.0.2) _ line version.2 in
    let content = bound (sized_content 0 most_content t.0.3) _ line name.2 in
    let number = ranged_in-within fault.Image 1 most_image t.0.0 image.0 image.1 in
    let some = ranged_in-within fault.Version 1 most_number t.0.1 version.0 version.1 in
    let size = sized_content-is 0 most_content t.0.3 content.0 content.1 in
    known_line verb.Image place u.0 (Image image.0 version.0 name.0 content.0) line u.1 (cc) (λ s. s) (record {
      not_golden = number.0;
      image = number.1;
      version = some.0;
      version_fits = omega (arith, some.1);
      name = name_of-name t.0.2 name.0 name.1;
      fits = size.high;
      bytes = size.bytes;
    }) (λ p. p)

tick_known : (place : Place) (fields : List (List ℕ)) (line : Line) → tick_line_of place fields ≡ Ok line → Known verb.Tick place line
unfolding tick_line_of
tick_known place fields line h =
    let t = bound (three_of fields) _ line h in
    let u = bound (standing verb.Tick place) _ line t.2 in
    let mote = bound (mote_in place.motes t.0.0) _ line u.2 in
    let dt = bound (number_in t.0.1) _ line mote.2 in
    let word = bound (number_in t.0.2) _ line dt.2 in
    known_line verb.Tick place u.0 (EventLine (Tick mote.0 dt.0 word.0)) line u.1 (cc) (λ s. s) (mote_in-below place.motes t.0.0 mote.0 mote.1, timed t.0.1 t.0.2 dt.0 word.0 dt.1 word.1) (λ p. p)

hear_known : (place : Place) (fields : List (List ℕ)) (line : Line) → hear_of place fields ≡ Ok line → Known verb.Hear place line
unfolding hear_of
hear_known place fields line h =
    let t = bound (four_of fields) _ line h in
    let u = bound (standing verb.Hear place) _ line t.2 in
    let mote = bound (mote_in place.motes t.0.0) _ line u.2 in
    let dt = bound (number_in t.0.1) _ line mote.2 in
    let word = bound (number_in t.0.2) _ line dt.2 in
    let frame = bound (counted_in t.0.3) _ line word.2 in
    known_line verb.Hear place u.0 (EventLine (Hear mote.0 dt.0 word.0 frame.0)) line u.1 (cc) (λ s. s) (let count = counted t.0.3 frame.0 frame.1 in ((mote_in-below place.motes t.0.0 mote.0 mote.1, count.0), (timed t.0.1 t.0.2 dt.0 word.0 dt.1 word.1, count.1))) (λ p. p)

last_known : (place : Place) (fields : List (List ℕ)) (line : Line) → last_line_of place fields ≡ Ok line → Known verb.Last place line
unfolding last_line_of
last_known place fields line h =
    let t = bound (four_of fields) _ line h in
    let u = bound (standing verb.Last place) _ line t.2 in
    let a = bound (mote_in place.motes t.0.0) _ line u.2 in
    let b = bound (other_in place.motes a.0 t.0.1) _ line a.2 in
    let dt = bound (number_in t.0.2) _ line b.2 in
    let word = bound (number_in t.0.3) _ line dt.2 in
    known_line verb.Last place u.0 (EventLine (Last a.0 b.0 dt.0 word.0)) line u.1 (cc) (λ s. s) (two place.motes t.0.0 t.0.1 a.0 b.0 a.1 b.1, timed t.0.2 t.0.3 dt.0 word.0 dt.1 word.1) (λ p. p)

reset_known : (place : Place) (fields : List (List ℕ)) (line : Line) → reset_of place fields ≡ Ok line → Known verb.Reset place line
unfolding reset_of
reset_known place fields line h =
    let t = bound (three_of fields) _ line h in
    let u = bound (standing verb.Reset place) _ line t.2 in
    let mote = bound (mote_in place.motes t.0.0) _ line u.2 in
    let dt = bound (number_in t.0.1) _ line mote.2 in
    let word = bound (number_in t.0.2) _ line dt.2 in
    known_line verb.Reset place u.0 (EventLine (Reset mote.0 dt.0 word.0)) line u.1 (cc) (λ s. s) (mote_in-below place.motes t.0.0 mote.0 mote.1, timed t.0.1 t.0.2 dt.0 word.0 dt.1 word.1) (λ p. p)

inject_known : (place : Place) (fields : List (List ℕ)) (line : Line) → inject_of place fields ≡ Ok line → Known verb.Inject place line
unfolding inject_of
inject_known place fields line h =
    let t = bound (five_of fields) _ line h in
    let u = bound (standing verb.Inject place) _ line t.2 in
    let mote = bound (mote_in place.motes t.0.0) _ line u.2 in
    let image = bound (any_image_in t.0.1) _ line mote.2 in
    let version = bound (version_in t.0.2) _ line image.2 in
    let dt = bound (number_in t.0.3) _ line version.2 in
    let word = bound (number_in t.0.4) _ line dt.2 in
    known_line verb.Inject place u.0 (EventLine (Inject mote.0 image.0 version.0 dt.0 word.0)) line u.1 (cc) (λ s. s) (
      (mote_in-below place.motes t.0.0 mote.0 mote.1, version_known t.0.1 t.0.2 image.0 version.0 image.1 version.1),
      (timed t.0.3 t.0.4 dt.0 word.0 dt.1 word.1, (numbered t.0.2 version.0 version.1).1),
    ) (λ p. p)

order_known : (place : Place) (fields : List (List ℕ)) (line : Line) → order_of place fields ≡ Ok line → Known verb.Order place line
unfolding order_of
order_known place fields line h =
    let t = bound (six_of fields) _ line h in
    let u = bound (standing verb.Order place) _ line t.2 in
    let mote = bound (mote_in place.motes t.0.0) _ line u.2 in
    let number = bound (version_in t.0.1) _ line mote.2 in
    let image = bound (any_image_in t.0.2) _ line number.2 in
    let version = bound (version_in t.0.3) _ line image.2 in
    let dt = bound (number_in t.0.4) _ line version.2 in
    let word = bound (number_in t.0.5) _ line dt.2 in
    let count = numbered t.0.1 number.0 number.1 in
    let order : Line = EventLine (Order mote.0 number.0 image.0 version.0 dt.0 word.0) in
    known_line verb.Order place u.0 order line u.1 (same_of_ok order line _ _ refl refl word.2) (λ s. s) (
      (mote_in-below place.motes t.0.0 mote.0 mote.1, version_known t.0.2 t.0.3 image.0 version.0 image.1 version.1, (numbered t.0.3 version.0 version.1).1, count.0, count.1),
      timed t.0.4 t.0.5 dt.0 word.0 dt.1 word.1,
    ) (λ p. p)

frame_known : (place : Place) (fields : List (List ℕ)) (line : Line) → frame_line_of place fields ≡ Ok line → Known verb.Frame place line
unfolding frame_line_of
frame_known place fields line h =
    let t = bound (four_of fields) _ line h in
    let u = bound (standing verb.Frame place) _ line t.2 in
    let mote = bound (mote_in place.motes t.0.0) _ line u.2 in
    let dt = bound (number_in t.0.1) _ line mote.2 in
    let word = bound (number_in t.0.2) _ line dt.2 in
    let content = bound (sized_content 0 longest_frame t.0.3) _ line word.2 in
    let size = sized_content-is 0 longest_frame t.0.3 content.0 content.1 in
    known_line verb.Frame place u.0 (EventLine (Frame mote.0 dt.0 word.0 content.0)) line u.1 (cc) (λ s. s) ((mote_in-below place.motes t.0.0 mote.0 mote.1, record { few = size.high; bytes = size.bytes }), timed t.0.1 t.0.2 dt.0 word.0 dt.1 word.1) (λ p. p)

cut_known : (place : Place) (fields : List (List ℕ)) (line : Line) → cut_of place fields ≡ Ok line → Known verb.Cut place line
unfolding cut_of
cut_known place fields line h =
    let t = bound (two_of fields) _ line h in
    let u = bound (standing verb.Cut place) _ line t.2 in
    let after = bound (counted_in t.0.0) _ line u.2 in
    let mask = bound (spelled_mask t.0.1) _ line after.2 in
    let cut = bound (cut_with after.0 mask.0) _ line mask.2 in
    let is = cut_with-is after.0 mask.0 cut.0 cut.1 in
    let count = counted t.0.0 after.0 after.1 in
    known_line verb.Cut place u.0 (Cut cut.0) line u.1 (cc) (λ s. s) (record {
      range = record { counted = cut.0.numbered; some = cut.0.some; few = cut.0.within };
      fits = omega (arith, is.0, count.1);
      bytes = subst AreBytes (sym is.1) (mask_of-bytes t.0.1 mask.0 mask.1);
    }) (λ p. p)

round_known : (place : Place) (fields : List (List ℕ)) (line : Line) → round_of place fields ≡ Ok line → Known verb.Round place line
unfolding round_of
round_known place fields line h =
    let t = bound (two_of fields) _ line h in
    let u = bound (standing verb.Round place) _ line t.2 in
    let a = bound (mote_in place.motes t.0.0) _ line u.2 in
    let b = bound (other_in place.motes a.0 t.0.1) _ line a.2 in
    known_line verb.Round place u.0 (Round a.0 b.0) line u.1 (cc) (λ s. s) (two place.motes t.0.0 t.0.1 a.0 b.0 a.1 b.1) (λ p. p)

sweeps_known : (place : Place) (fields : List (List ℕ)) (line : Line) → sweeps_of place fields ≡ Ok line → Known verb.Sweeps place line
unfolding sweeps_of
sweeps_known place fields line h =
    let t = bound (one_of fields) _ line h in
    let u = bound (standing verb.Sweeps place) _ line t.2 in
    let n = bound (sweeps_in t.0) _ line u.2 in
    known_line verb.Sweeps place u.0 (Sweeps n.0) line u.1 (cc) (λ s. s) (ranged_in-within fault.Number 1 most_sweeps t.0 n.0 n.1) (λ p. p)

fields_known : (v : Verb) (place : Place) (fields : List (List ℕ)) (line : Line) → fields_of v place fields ≡ Ok line → Known v place line
fields_known verb.Motes place fields line h = motes_known place fields line h
fields_known verb.Golden place fields line h = golden_known place fields line h
fields_known verb.Boards place fields line h = boards_known place fields line h
fields_known verb.Link place fields line h = link_known place fields line h
fields_known verb.Narrow place fields line h = narrow_known place fields line h
fields_known verb.Image place fields line h = image_known place fields line h
fields_known verb.Tick place fields line h = tick_known place fields line h
fields_known verb.Hear place fields line h = hear_known place fields line h
fields_known verb.Last place fields line h = last_known place fields line h
fields_known verb.Reset place fields line h = reset_known place fields line h
fields_known verb.Inject place fields line h = inject_known place fields line h
fields_known verb.Order place fields line h = order_known place fields line h
fields_known verb.Frame place fields line h = frame_known place fields line h
fields_known verb.Cut place fields line h = cut_known place fields line h
fields_known verb.Round place fields line h = round_known place fields line h
fields_known verb.Sweeps place fields line h = sweeps_known place fields line h

-- the verb of a line that is read is played
pub played_verb-plays : (word : List ℕ) (v : Verb) → played_verb word ≡ Ok v → is_played v ≡ true
played_verb-plays word v h = refl

-- what is known of a line of a verb that is played
pub read_stands : (v : Verb) (place : Place) (fields : List (List ℕ)) (r : Result Line LineFault) → Reads r (fields_of v place fields) → IfOk r (StandsAt place)
read_stands v place fields (Ok line) h = (fields_known v place fields line h).stood
read_stands v place fields (Err e) h = tt

pub read_fits : (v : Verb) (place : Place) (fields : List (List ℕ)) (r : Result Line LineFault) → Reads r (fields_of v place fields) → IfOk r (FitsLine place.motes)
read_fits v place fields (Ok line) h = (fields_known v place fields line h).fitting
read_fits v place fields (Err e) h = tt

pub read_plays : (v : Verb) (place : Place) (fields : List (List ℕ)) (r : Result Line LineFault) → is_played v ≡ true → Reads r (fields_of v place fields) → IfOk r IsPlayed
read_plays v place fields (Ok line) plays h = (fields_known v place fields line h).playing plays
read_plays v place fields (Err e) plays h = tt

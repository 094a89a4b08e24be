-- The line that a text spells at a place, or its first fault: first those of the whole line, then the faults of its fields from
-- left to right (docs/SCRIPTS.md, "The script").
use Rattle.std.specs.Prelude.{◌≡◌, refl, ℕ, ◌==◌, ◌≤◌, nat_le, not, Bool, true, false, if◌then◌else◌, List, [], ◌∷◌, length}
use Rattle.std.specs.Prelude.{Result, Ok, Err}
use Rattle.std.proofs.lemmas.Bool.{leb-true}
use Rattle.dg_base.specs.Sizes.{longest_frame, longest_mask}
use Rattle.dg_base.specs.declared.events.Event.TheVariants as event
use Rattle.dg_base.specs.declared.events.Cut.{Cut as CutOfPower}
use Rattle.dg_object.specs.Sizes.{most_bytes}
use Rattle.dg_control.specs.Sizes.{most_room}
use Rattle.dg_script.specs.Sizes.{most_motes, most_image, most_sweeps, most_content, most_line}
use Rattle.dg_script.specs.Results.{◌>>=◌, guarded, allowed_if, or_fault}
use Rattle.dg_script.specs.Words.{words_of, one_of, two_of, three_of, four_of, five_of, six_of}
use Rattle.dg_script.specs.Contents.{spelled_name, sized_content, spelled_mask}
use Rattle.dg_script.specs.Verbs.{standing, verb_of}
use Rattle.dg_script.specs.Places.{is_linked, is_narrow}
use Rattle.dg_script.specs.Fields.{number_in, ranged_in, mote_in, other_in, any_image_in, version_in, counted_in}
use Rattle.dg_script.specs.declared.fault.LineFault.{LineFault}
use Rattle.dg_script.specs.declared.fault.LineFault.TheVariants as fault
use Rattle.dg_script.specs.declared.line.Line.{Line}
use Rattle.dg_script.specs.declared.line.Line.TheVariants.{Nothing, Motes, Golden, Boards, Link, Narrow, Image, Cut}
use Rattle.dg_script.specs.declared.line.Line.TheVariants.{Happens as EventLine}
use Rattle.dg_script.specs.declared.line.Line.TheVariants.{Round, Sweeps}
use Rattle.dg_script.specs.declared.place.Place.{Place}
use Rattle.dg_script.specs.declared.verbs.Verb.{Verb}
use Rattle.dg_script.specs.declared.verbs.Verb.TheVariants as verb

-- ---- the lines before the events

-- `motes N`
unfoldable pub motes_of : Place → List (List ℕ) → Result Line LineFault
motes_of place fields =
    one_of fields >>= λ word. standing verb.Motes place >>= λ u. ranged_in fault.Mote 1 most_motes word >>= λ n. Ok (Motes n)

-- `golden NAME USED CONTENT`
unfoldable pub golden_of : Place → List (List ℕ) → Result Line LineFault
golden_of place fields =
    three_of fields >>= λ t. standing verb.Golden place >>= λ u. spelled_name t.0 >>= λ name.
    ranged_in fault.Number 0 most_room t.1 >>= λ used. sized_content 1 most_bytes t.2 >>= λ content. Ok (Golden name used content)

-- `boards`
abbrev pub none_of : List (List ℕ) → Result (Unit {0}) LineFault
none_of [] = Ok (tt {0})
none_of (word ∷ words) = Err fault.Many

unfoldable pub boards_of : Place → List (List ℕ) → Result Line LineFault
boards_of place fields = none_of fields >>= λ u. standing verb.Boards place >>= λ v. Ok Boards

-- `link A B`
unfoldable pub link_of : Place → List (List ℕ) → Result Line LineFault
link_of place fields =
    two_of fields >>= λ t. standing verb.Link place >>= λ u. mote_in place.motes t.0 >>= λ a. other_in place.motes a t.1 >>= λ b.
    guarded (not (is_linked place.links a b)) fault.Place (Link a b)

-- `narrow M`
unfoldable pub narrow_of : Place → List (List ℕ) → Result Line LineFault
narrow_of place fields =
    one_of fields >>= λ word. standing verb.Narrow place >>= λ u. mote_in place.motes word >>= λ mote.
    guarded (not (is_narrow place.narrow mote)) fault.Place (Narrow mote)

-- `image I V NAME CONTENT`
unfoldable pub image_of : Place → List (List ℕ) → Result Line LineFault
image_of place fields =
    four_of fields >>= λ t. standing verb.Image place >>= λ u. ranged_in fault.Image 1 most_image t.0 >>= λ image. version_in t.1
    >>= λ version. spelled_name t.2 >>= λ name. sized_content 0 most_content t.3 >>= λ content.
    Ok (Image image version name content)

-- ---- events

-- `tick M DT DRAW`
unfoldable pub tick_line_of : Place → List (List ℕ) → Result Line LineFault
tick_line_of place fields =
    three_of fields >>= λ t. standing verb.Tick place >>= λ u. mote_in place.motes t.0 >>= λ mote. number_in t.1 >>= λ dt.
    number_in t.2 >>= λ word. Ok (EventLine (event.Tick mote dt word))

-- `hear M DT DRAW K`
unfoldable pub hear_of : Place → List (List ℕ) → Result Line LineFault
hear_of place fields =
    four_of fields >>= λ t. standing verb.Hear place >>= λ u. mote_in place.motes t.0 >>= λ mote. number_in t.1 >>= λ dt.
    number_in t.2 >>= λ word. counted_in t.3 >>= λ frame. Ok (EventLine (event.Hear mote dt word frame))

-- `last A B DT DRAW`
unfoldable pub last_line_of : Place → List (List ℕ) → Result Line LineFault
last_line_of place fields =
    four_of fields >>= λ t. standing verb.Last place >>= λ u. mote_in place.motes t.0 >>= λ from. other_in place.motes from t.1
    >>= λ to. number_in t.2 >>= λ dt. number_in t.3 >>= λ word. Ok (EventLine (event.Last from to dt word))

-- `reset M DT DRAW`
unfoldable pub reset_of : Place → List (List ℕ) → Result Line LineFault
reset_of place fields =
    three_of fields >>= λ t. standing verb.Reset place >>= λ u. mote_in place.motes t.0 >>= λ mote. number_in t.1 >>= λ dt.
    number_in t.2 >>= λ word. Ok (EventLine (event.Reset mote dt word))

-- `inject M I V DT DRAW`
unfoldable pub inject_of : Place → List (List ℕ) → Result Line LineFault
inject_of place fields =
    five_of fields >>= λ t. standing verb.Inject place >>= λ u. mote_in place.motes t.0 >>= λ mote. any_image_in t.1
    >>= λ image. version_in t.2 >>= λ version.
    number_in t.3 >>= λ dt. number_in t.4 >>= λ word. Ok (EventLine (event.Inject mote image version dt word))

-- `order M K I V DT DRAW`
unfoldable pub order_of : Place → List (List ℕ) → Result Line LineFault
order_of place fields =
    six_of fields >>= λ t. standing verb.Order place >>= λ u. mote_in place.motes t.0 >>= λ mote. version_in t.1
    >>= λ number. any_image_in t.2 >>= λ image.
    version_in t.3 >>= λ version. number_in t.4 >>= λ dt. number_in t.5
    >>= λ word. Ok (EventLine (event.Order mote number image version dt word))

-- `frame M DT DRAW CONTENT`
unfoldable pub frame_line_of : Place → List (List ℕ) → Result Line LineFault
frame_line_of place fields =
    four_of fields >>= λ t. standing verb.Frame place >>= λ u. mote_in place.motes t.0 >>= λ mote. number_in t.1 >>= λ dt.
    number_in t.2 >>= λ word. sized_content 0 longest_frame t.3 >>= λ bytes. Ok (EventLine (event.Frame mote dt word bytes))

-- ---- cuts, rounds and sweeps

-- low is at most high, or the fault
abbrev pub most_by : (low high : ℕ) (holds : Bool) → nat_le low high ≡ holds → LineFault → Result (low ≤ high) LineFault
most_by low high true e fault = Ok (leb-true low high e)
most_by low high false e fault = Err fault

abbrev pub at_most : (low high : ℕ) → LineFault → Result (low ≤ high) LineFault
at_most low high fault = most_by low high (nat_le low high) refl fault

-- the cut in this operation, which leaves this mask
unfoldable pub cut_with : (after : ℕ) (mask : List ℕ) → Result CutOfPower LineFault
cut_with after mask =
    at_most 1 after fault.Number >>= λ numbered. at_most 1 (length mask) fault.Mask
    >>= λ some. at_most (length mask) longest_mask fault.Mask >>= λ within.
    Ok (record { after = after; mask = mask; numbered = numbered; some = some; within = within })

-- `cut AT MASK`
unfoldable pub cut_of : Place → List (List ℕ) → Result Line LineFault
cut_of place fields =
    two_of fields >>= λ t. standing verb.Cut place >>= λ u. counted_in t.0 >>= λ after. spelled_mask t.1
    >>= λ mask. cut_with after mask >>= λ cut. Ok (Cut cut)

-- `round A B`
unfoldable pub round_of : Place → List (List ℕ) → Result Line LineFault
round_of place fields =
    two_of fields >>= λ t. standing verb.Round place >>= λ u. mote_in place.motes t.0 >>= λ a. other_in place.motes a t.1
    >>= λ b. Ok (Round a b)

-- `sweeps N`
unfoldable pub sweeps_of : Place → List (List ℕ) → Result Line LineFault
sweeps_of place fields =
    one_of fields >>= λ word. standing verb.Sweeps place >>= λ u. ranged_in fault.Number 1 most_sweeps word >>= λ n. Ok (Sweeps n)

-- ---- the whole line

-- the table of the lines
abbrev pub fields_of : Verb → Place → List (List ℕ) → Result Line LineFault
fields_of verb.Motes place fields = motes_of place fields
fields_of verb.Golden place fields = golden_of place fields
fields_of verb.Boards place fields = boards_of place fields
fields_of verb.Link place fields = link_of place fields
fields_of verb.Narrow place fields = narrow_of place fields
fields_of verb.Image place fields = image_of place fields
fields_of verb.Tick place fields = tick_line_of place fields
fields_of verb.Hear place fields = hear_of place fields
fields_of verb.Last place fields = last_line_of place fields
fields_of verb.Reset place fields = reset_of place fields
fields_of verb.Inject place fields = inject_of place fields
fields_of verb.Order place fields = order_of place fields
fields_of verb.Frame place fields = frame_line_of place fields
fields_of verb.Cut place fields = cut_of place fields
fields_of verb.Round place fields = round_of place fields
fields_of verb.Sweeps place fields = sweeps_of place fields

-- the verb of a word
unfoldable pub played_verb : List ℕ → Result Verb LineFault
played_verb word = or_fault fault.Verb (verb_of word)

-- a line that says nothing is empty, or its first word begins with `#`
abbrev pub is_comment : List ℕ → Bool
is_comment [] = false
is_comment (c ∷ cs) = c == 35

abbrev pub said : Place → List (List ℕ) → Result Line LineFault
said place [] = Ok Nothing
said place (word ∷ fields) = if is_comment word then Ok Nothing else (played_verb word >>= λ v. fields_of v place fields)

-- the line that a text spells at a place, or its first fault
unfoldable pub line_of : Place → List ℕ → Result Line LineFault
line_of place text = allowed_if (nat_le (length text) most_line) fault.Long >>= λ u. said place (words_of text)

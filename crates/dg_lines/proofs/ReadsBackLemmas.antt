-- A line that is written is read back as the same line.
use Rattle.std.proofs.Common.{◌≡◌, ℕ, ◌<◌, ◌≤◌, true, false, List, [], ◌∷◌, ◌++◌, length, Ok, decimal, refl, sym, arith}
use Rattle.dg_base.specs.Hexadecimal.{hex_text}
use Rattle.dg_base.specs.Sizes.{longest_frame}
use Rattle.dg_base.specs.declared.events.Event.{Event}
use Rattle.dg_base.specs.declared.events.Event.TheVariants.{Tick, Hear, Last, Reset, Inject, Order, Frame}
use Rattle.dg_base.specs.declared.events.Cut.{Cut as CutOfPower}
use Rattle.dg_object.specs.Sizes.{most_bytes}
use Rattle.dg_script.specs.Sizes.{most_motes, most_image, most_used, most_sweeps, most_number, most_content, most_written}
use Rattle.dg_script.specs.Words.{split_of, words_of, behind_spaces, spaced}
use Rattle.dg_script.specs.Verbs.{word_of}
use Rattle.dg_script.specs.Places.{is_linked, is_narrow}
use Rattle.dg_script.specs.Fields.{ranged_in}
use Rattle.dg_script.specs.Lines.{motes_of, golden_of, boards_of, link_of, narrow_of, image_of, tick_line_of, hear_of, last_line_of, reset_of, inject_of, order_of, frame_line_of, cut_of, round_of, sweeps_of, line_of}
use Rattle.dg_script.specs.Ranges.{AreTwo, IsVersion}
use Rattle.dg_script.specs.Fitting.{is_played, StandsBy, StandsAt, FitsLine, FitsEvent, IsPlayed, IsPlayedEvent, verb_of_event}
use Rattle.dg_script.specs.Spelling.{content_text, event_words, line_text, IsShort}
use Rattle.dg_script.specs.declared.fault.LineFault.TheVariants as fault
use Rattle.dg_script.specs.declared.line.Line.{Line}
use Rattle.dg_script.specs.declared.line.Line.TheVariants.{Nothing, Motes, Golden, Boards, Link, Narrow, Image, Cut, Happens as EventLine, Round, Sweeps}
use Rattle.dg_script.specs.declared.place.Place.{Place}
use Rattle.dg_script.specs.declared.verbs.Verb.TheVariants as verb
use Rattle.dg_script.proofs.FieldLemmas.{cut_with-ok}
use Rattle.dg_lines.proofs.WordsReadLemmas.{reads_words, IsNumber, number, ranged, mote, other_mote, name, content, mask, stood}

-- ---- lines

motes_read : (place : Place) (n : ℕ) → StandsBy verb.Motes place → 1 ≤ n → n ≤ most_motes → is_played verb.Motes ≡ true → line_of place (word_of verb.Motes ++ behind_spaces (decimal n ∷ [])) ≡ Ok (Motes n)
unfolding motes_of
motes_read place n stands low high plays =
    let a = number n (omega (arith, high)) in
    reads_words verb.Motes place (decimal n ∷ []) (Motes n) (a.word, tt) (omega (arith, a.short)) plays (rw (stood verb.Motes place stands, ranged fault.Mote 1 n most_motes a low high) refl)

golden_read : (place : Place) (called : List ℕ) (used : ℕ) (bytes : List ℕ) → StandsBy verb.Golden place → FitsLine most_motes (Golden called used bytes) → is_played verb.Golden ≡ true
    → line_of place (word_of verb.Golden ++ behind_spaces (called ∷ decimal used ∷ content_text bytes ∷ [])) ≡ Ok (Golden called used bytes)
unfolding golden_of
golden_read place called used bytes stands fits plays =
    let a = name called fits.name in
    let b = number used (omega (arith, fits.used)) in
    let c = content 1 most_bytes bytes fits.bytes fits.some fits.fits in
    reads_words verb.Golden place (called ∷ decimal used ∷ content_text bytes ∷ []) (Golden called used bytes) (a.word, (b.word, (c.word, tt))) (omega (arith, a.short, b.short, c.size, fits.fits)) plays
    (rw (stood verb.Golden place stands, a.read, ranged fault.Number 0 used most_used b (omega arith) fits.used, c.read) refl)

boards_read : (place : Place) → StandsBy verb.Boards place → is_played verb.Boards ≡ true → line_of place (word_of verb.Boards ++ behind_spaces []) ≡ Ok Boards
unfolding boards_of
boards_read place stands plays = reads_words verb.Boards place [] Boards tt (omega arith) plays (rw (stood verb.Boards place stands) refl)

link_read : (place : Place) (a b : ℕ) → StandsBy verb.Link place → is_linked place.links a b ≡ false → AreTwo most_motes a b → AreTwo place.motes a b → is_played verb.Link ≡ true
    → line_of place (word_of verb.Link ++ behind_spaces (decimal a ∷ decimal b ∷ [])) ≡ Ok (Link a b)
unfolding link_of
link_read place a b stands new few fits plays =
    let x = number a (omega (arith, few.first)) in
    let y = number b (omega (arith, few.second)) in
    reads_words verb.Link place (decimal a ∷ decimal b ∷ []) (Link a b) (x.word, (y.word, tt)) (omega (arith, x.short, y.short)) plays
    (rw (stood verb.Link place stands, mote place.motes a x fits.first, other_mote place.motes a b y fits.second (λ same. fits.two (sym same)), new) refl)

narrow_read : (place : Place) (m : ℕ) → StandsBy verb.Narrow place → is_narrow place.narrow m ≡ false → m < most_motes → m < place.motes → is_played verb.Narrow ≡ true
    → line_of place (word_of verb.Narrow ++ behind_spaces (decimal m ∷ [])) ≡ Ok (Narrow m)
unfolding narrow_of
narrow_read place m stands new few fits plays =
    let x = number m (omega (arith, few)) in
    reads_words verb.Narrow place (decimal m ∷ []) (Narrow m) (x.word, tt) (omega (arith, x.short)) plays
    (rw (stood verb.Narrow place stands, mote place.motes m x fits, new) refl)

image_read : (place : Place) (image version : ℕ) (called bytes : List ℕ) → StandsBy verb.Image place → FitsLine most_motes (Image image version called bytes) → length bytes ≤ most_written → is_played verb.Image ≡ true
    → line_of place (word_of verb.Image ++ behind_spaces (decimal image ∷ decimal version ∷ called ∷ content_text bytes ∷ [])) ≡ Ok (Image image version called bytes)
unfolding image_of
image_read place image version called bytes stands fits short plays =
    let i = number image (omega (arith, fits.image)) in
    let v = number version fits.version_fits in
    let a = name called fits.name in
    let c = content 0 most_content bytes fits.bytes (omega arith) fits.fits in
    reads_words verb.Image place (decimal image ∷ decimal version ∷ called ∷ content_text bytes ∷ []) (Image image version called bytes) (i.word, (v.word, (a.word, (c.word, tt))))
    (omega (arith, i.short, v.short, a.short, c.size, short)) plays
    (rw (stood verb.Image place stands, ranged fault.Image 1 image most_image i fits.not_golden fits.image, ranged fault.Version 1 version most_number v fits.version (omega (arith, fits.version_fits)), a.read, c.read) refl)

cut_read : (place : Place) (cut : CutOfPower) → StandsBy verb.Cut place → FitsLine most_motes (Cut cut) → is_played verb.Cut ≡ true
    → line_of place (word_of verb.Cut ++ behind_spaces (decimal cut.after ∷ hex_text cut.mask ∷ [])) ≡ Ok (Cut cut)
unfolding cut_of
cut_read place cut stands fits plays =
    let a = number cut.after fits.fits in
    let m = mask cut.mask fits.bytes fits.range.some fits.range.few in
    reads_words verb.Cut place (decimal cut.after ∷ hex_text cut.mask ∷ []) (Cut cut) (a.word, (m.word, tt)) (omega (arith, a.short, m.size, fits.range.few)) plays
    (rw (stood verb.Cut place stands, ranged fault.Number 1 cut.after most_number a fits.range.counted (omega (arith, fits.fits)), m.read, cut_with-ok cut) refl)

round_read : (place : Place) (a b : ℕ) → StandsBy verb.Round place → AreTwo most_motes a b → AreTwo place.motes a b → is_played verb.Round ≡ true
    → line_of place (word_of verb.Round ++ behind_spaces (decimal a ∷ decimal b ∷ [])) ≡ Ok (Round a b)
unfolding round_of
round_read place a b stands few fits plays =
    let x = number a (omega (arith, few.first)) in
    let y = number b (omega (arith, few.second)) in
    reads_words verb.Round place (decimal a ∷ decimal b ∷ []) (Round a b) (x.word, (y.word, tt)) (omega (arith, x.short, y.short)) plays
    (rw (stood verb.Round place stands, mote place.motes a x fits.first, other_mote place.motes a b y fits.second (λ same. fits.two (sym same))) refl)

sweeps_read : (place : Place) (n : ℕ) → StandsBy verb.Sweeps place → 1 ≤ n → n ≤ most_sweeps → is_played verb.Sweeps ≡ true → line_of place (word_of verb.Sweeps ++ behind_spaces (decimal n ∷ [])) ≡ Ok (Sweeps n)
unfolding sweeps_of
sweeps_read place n stands low high plays =
    let a = number n (omega (arith, high)) in
    reads_words verb.Sweeps place (decimal n ∷ []) (Sweeps n) (a.word, tt) (omega (arith, a.short)) plays (rw (stood verb.Sweeps place stands, ranged fault.Number 1 n most_sweeps a low high) refl)

-- an event is read back
abbrev EventReads : Place → Event → Type 0
EventReads place event = StandsBy (verb_of_event event) place → FitsEvent most_motes event → FitsEvent place.motes event → is_played (verb_of_event event) ≡ true → line_of place (spaced (event_words event)) ≡ Ok (EventLine event)

tick_read : (place : Place) (m d w : ℕ) → EventReads place (Tick m d w)
unfolding tick_line_of
tick_read place m d w stands few fits plays =
    let a = number m (omega (arith, few.0)) in
    let b = number d fits.1.dt in
    let c = number w fits.1.word in
    reads_words verb.Tick place (decimal m ∷ decimal d ∷ decimal w ∷ []) (EventLine (Tick m d w)) (a.word, (b.word, (c.word, tt))) (omega (arith, a.short, b.short, c.short)) plays
    (rw (stood verb.Tick place stands, mote place.motes m a fits.0, b.read, c.read) refl)

hear_read : (place : Place) (m d w k : ℕ) → EventReads place (Hear m d w k)
unfolding hear_of
hear_read place m d w k stands few fits plays =
    let a = number m (omega (arith, few.0.0)) in
    let b = number d fits.1.0.dt in
    let c = number w fits.1.0.word in
    let e = number k fits.1.1 in
    reads_words verb.Hear place (decimal m ∷ decimal d ∷ decimal w ∷ decimal k ∷ []) (EventLine (Hear m d w k)) (a.word, (b.word, (c.word, (e.word, tt)))) (omega (arith, a.short, b.short, c.short, e.short)) plays
    (rw (stood verb.Hear place stands, mote place.motes m a fits.0.0, b.read, c.read, ranged fault.Number 1 k most_number e fits.0.1 (omega (arith, fits.1.1))) refl)

last_read : (place : Place) (a b d w : ℕ) → EventReads place (Last a b d w)
unfolding last_line_of
last_read place a b d w stands few fits plays =
    let x = number a (omega (arith, few.0.first)) in
    let y = number b (omega (arith, few.0.second)) in
    let p = number d fits.1.dt in
    let q = number w fits.1.word in
    reads_words verb.Last place (decimal a ∷ decimal b ∷ decimal d ∷ decimal w ∷ []) (EventLine (Last a b d w)) (x.word, (y.word, (p.word, (q.word, tt)))) (omega (arith, x.short, y.short, p.short, q.short)) plays
    (rw (stood verb.Last place stands, mote place.motes a x fits.0.first, other_mote place.motes a b y fits.0.second (λ same. fits.0.two (sym same)), p.read, q.read) refl)

reset_read : (place : Place) (m d w : ℕ) → EventReads place (Reset m d w)
unfolding reset_of
reset_read place m d w stands few fits plays =
    let a = number m (omega (arith, few.0)) in
    let b = number d fits.1.dt in
    let c = number w fits.1.word in
    reads_words verb.Reset place (decimal m ∷ decimal d ∷ decimal w ∷ []) (EventLine (Reset m d w)) (a.word, (b.word, (c.word, tt))) (omega (arith, a.short, b.short, c.short)) plays
    (rw (stood verb.Reset place stands, mote place.motes m a fits.0, b.read, c.read) refl)

any_image : (image version : ℕ) → IsNumber image → IsVersion image version → ranged_in fault.Image 0 most_image (decimal image) ≡ Ok image
any_image image version is fits = ranged fault.Image 0 image most_image is (omega arith) fits.image

some_version : (version : ℕ) → IsNumber version → 1 ≤ version → ranged_in fault.Version 1 most_number (decimal version) ≡ Ok version
some_version version is low = ranged fault.Version 1 version most_number is low (omega (arith, is.small))

inject_read : (place : Place) (m i v d w : ℕ) → EventReads place (Inject m i v d w)
unfolding inject_of
inject_read place m i v d w stands few fits plays =
    let a = number m (omega (arith, few.0.0)) in
    let x = number i (omega (arith, fits.0.1.image)) in
    let y = number v fits.1.1 in
    let b = number d fits.1.0.dt in
    let c = number w fits.1.0.word in
    reads_words verb.Inject place (decimal m ∷ decimal i ∷ decimal v ∷ decimal d ∷ decimal w ∷ []) (EventLine (Inject m i v d w)) (a.word, (x.word, (y.word, (b.word, (c.word, tt)))))
    (omega (arith, a.short, x.short, y.short, b.short, c.short)) plays
    (rw (stood verb.Inject place stands, mote place.motes m a fits.0.0, any_image i v x fits.0.1, some_version v y fits.0.1.version, b.read, c.read) refl)

order_read : (place : Place) (m k i v d w : ℕ) → EventReads place (Order m k i v d w)
unfolding order_of
order_read place m k i v d w stands few fits plays =
    let a = number m (omega (arith, few.0.0)) in
    let n = number k fits.0.4 in
    let x = number i (omega (arith, fits.0.1.image)) in
    let y = number v fits.0.2 in
    let b = number d fits.1.dt in
    let c = number w fits.1.word in
    reads_words verb.Order place (decimal m ∷ decimal k ∷ decimal i ∷ decimal v ∷ decimal d ∷ decimal w ∷ []) (EventLine (Order m k i v d w)) (a.word, (n.word, (x.word, (y.word, (b.word, (c.word, tt))))))
    (omega (arith, a.short, n.short, x.short, y.short, b.short, c.short)) plays
    (rw (stood verb.Order place stands, mote place.motes m a fits.0.0, some_version k n fits.0.3, any_image i v x fits.0.1, some_version v y fits.0.1.version, b.read, c.read) refl)

frame_read : (place : Place) (m d w : ℕ) (bytes : List ℕ) → EventReads place (Frame m d w bytes)
unfolding frame_line_of
frame_read place m d w bytes stands few fits plays =
    let a = number m (omega (arith, few.0.0)) in
    let b = number d fits.1.dt in
    let c = number w fits.1.word in
    let f = content 0 longest_frame bytes fits.0.1.bytes (omega arith) fits.0.1.few in
    reads_words verb.Frame place (decimal m ∷ decimal d ∷ decimal w ∷ content_text bytes ∷ []) (EventLine (Frame m d w bytes)) (a.word, (b.word, (c.word, (f.word, tt))))
    (omega (arith, a.short, b.short, c.short, f.size, fits.0.1.few)) plays
    (rw (stood verb.Frame place stands, mote place.motes m a fits.0.0, b.read, c.read, f.read) refl)

event_read : (place : Place) (event : Event) → EventReads place event
event_read place (Tick m d w) = tick_read place m d w
event_read place (Hear m d w k) = hear_read place m d w k
event_read place (Last a b d w) = last_read place a b d w
event_read place (Reset m d w) = reset_read place m d w
event_read place (Inject m i v d w) = inject_read place m i v d w
event_read place (Order m k i v d w) = order_read place m k i v d w
event_read place (Frame m d w bytes) = frame_read place m d w bytes

-- an event's line is read back wherever it may stand and is played
pub event_reads : (place : Place) (event : Event) → FitsEvent most_motes event → StandsAt place (EventLine event) → FitsEvent place.motes event → IsPlayedEvent event → line_of place (line_text (EventLine event)) ≡ Ok (EventLine event)
unfolding line_text
event_reads place event few stands fits plays = event_read place event stands few fits plays

-- a line is read back wherever it may stand and is played
pub line_reads : (place : Place) (line : Line) → FitsLine most_motes line → IsShort line → StandsAt place line → FitsLine place.motes line → IsPlayed line → line_of place (line_text line) ≡ Ok line
unfolding line_text line_of words_of split_of
line_reads place Nothing few short stands fits plays = refl
line_reads place (Motes n) few short stands fits plays = motes_read place n stands few.0 few.1 plays
line_reads place (Golden called used bytes) few short stands fits plays = golden_read place called used bytes stands few plays
line_reads place Boards few short stands fits plays = boards_read place stands plays
line_reads place (Link a b) few short stands fits plays = link_read place a b stands.0 stands.1 few fits plays
line_reads place (Narrow m) few short stands fits plays = narrow_read place m stands.0 stands.1 few fits plays
line_reads place (Image image version called bytes) few short stands fits plays = image_read place image version called bytes stands few short plays
line_reads place (Cut cut) few short stands fits plays = cut_read place cut stands few plays
line_reads place (EventLine event) few short stands fits plays = event_read place event stands few fits plays
line_reads place (Round a b) few short stands fits plays = round_read place a b stands few fits plays
line_reads place (Sweeps n) few short stands fits plays = sweeps_read place n stands few.0 few.1 plays

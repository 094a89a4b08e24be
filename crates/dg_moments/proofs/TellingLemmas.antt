-- What is noted of the lines of an event.
use Rattle.std.proofs.Common.{◌≡◌, ◌≢◌, ℕ, ◌+◌, ◌-◌, ◌*◌, ◌^◌, ◌<◌, ◌≤◌, ◌==◌, ◌&&◌, Bool, true, false, nat_lt, cond, List, [], ◌∷◌, ◌++◌, length, get_or, refl, sym, ap, subst, ◌∙◌, zero, suc, arith, zero-add, inl, inr, ◌⊎◌}
use Rattle.std.specs.Prelude.{slice_index, slice_get, map, Option, Some, None, IfSome, MatchOption}
use Rattle.std.specs.List.{AllByRecursion, count_by}
use Rattle.std.proofs.lemmas.List.Sums.{sum_by-cons}
use Rattle.std.proofs.lemmas.Bool.{ne_eqb, eqb-true, ltb-true, ltb-false, cases_Bool, cases_eq, and_parts, and_cases}
use Rattle.std.proofs.lemmas.Option.{slice_get_within}
use Rattle.std.proofs.lemmas.List.{length_push}
use Rattle.dg_words.specs.Cells.{part}
use Rattle.dg_words.proofs.CellLemmas.{get_or-part}
use Rattle.dg_nor.specs.Chip.{sector}
use Rattle.dg_nor.specs.Device.{Device}
use Rattle.dg_meter.specs.Pages.{pages_at}
use Rattle.dg_slot.specs.Kept.{Held, KeepsImage}
use Rattle.dg_slot.specs.Layout.{header_sector}
use Rattle.dg_volume.specs.Sizes.{images}
use Rattle.dg_volume.specs.Stands.{Stands}
use Rattle.dg_volume.specs.Start.{is_whole}
use Rattle.dg_volume.specs.Store.{Store, held}
use Rattle.dg_rules.specs.Runs.{Played}
use Rattle.dg_rules.specs.World.{store_at}
use Rattle.dg_script.specs.declared.report.Report.{Report}
use Rattle.dg_script.specs.declared.report.Report.TheVariants.{Order, Lost, Have, Start, Off, SentAdvert, SentRequest, SentData}
use Rattle.dg_script.specs.declared.report.Report.TheVariants.{Refused, Taken, End, MoteOn, MoteOff, Kept}
use Rattle.dg_events.specs.Keeps.{keeps_whole, KeepsPages, HaveTells}
use Rattle.dg_moments.specs.declared.wholes.Wholes.{Wholes}
use Rattle.dg_moments.specs.Moments.{event_moment, is_loaded, keeps_version, whole_version, kept_whole, whole_moments, all_moments}
use Rattle.dg_moments.specs.Looking.{ReadsBoards}
use Rattle.dg_moments.specs.Wholes.{KnowsImage, with_kept, is_new, all_new, ChangesKept, KeepsOthers}
use Rattle.dg_events.specs.HaveLines.{is_held_line}
use Rattle.dg_moments.specs.Telling.{image_told, IsTold, IsTelling, KnowsAll, HasNoted, StaysTold, NotesKept, NotesLine}
use Rattle.dg_moments.proofs.MotesLemmas.{not_new_same, both_and, all_same}
use Rattle.dg_moments.proofs.MapLemmas.{no_more}
use Rattle.dg_moments.proofs.MomentLemmas.{few_moments, IsNextEvent, image_stays, image_changes, kept_now, knows_unloaded, knows_as}

pub stays_same : (w : Wholes) → StaysTold w w
stays_same w = record { lost = λ e. e; mounted = refl; given = refl }

pub stays_through : (a b c : Wholes) → StaysTold a b → StaysTold b c → StaysTold a c
stays_through a b c p q = record { lost = λ e. p.lost (q.lost e); mounted = q.mounted ∙ p.mounted; given = q.given ∙ p.given }

-- ---- the number of pages

-- the header of a slot says how many pages it has
header_pages : (c : List ℕ) (image : ℕ) (h : Held) → KeepsImage c image h → slice_index c (pages_at image) ≡ h.pages
unfolding sector
header_pages c image h keeps =
    let k : ℕ = header_sector image in
    let at : 2048 * k + (0 + 3) ≡ pages_at image = omega arith in
    ap (λ (n : ℕ). slice_index c n) (sym at) ∙ sym (get_or-part c (2048 * k) 2048 (0 + 3) 0 (omega arith))
    ∙ sym (get_or-part (part c (2048 * k) 2048) 0 10 3 0 (omega arith)) ∙ ap (λ (bytes : List ℕ). slice_index bytes 3) keeps.header.spelled

same_some : (a b : Held) → Some a ≡ Some b → a ≡ b
same_some a b e = cc

kept_there : (P : Held → Type 0) (o : Option Held) (h : Held) → o ≡ Some h → IfSome o P → P h
kept_there P (Some g) h is all = subst P (same_some g h is) all
kept_there P None h is all = absurd cc

-- the version of which so many pages are complete
pages_version : (o : Option Held) (h : Held) (version done : ℕ) → o ≡ Some h → h.version ≡ version → length h.complete ≡ done
    → whole_version o ≡ cond (done == h.pages) (Some version) None
pages_version o h version done is same complete =
    ap whole_version is ∙ ap (λ (n : ℕ). cond {A = Option ℕ} (n == h.pages) (Some h.version) None) complete
    ∙ ap (λ (v : ℕ). cond {A = Option ℕ} (done == h.pages) (Some v) None) same

-- as the header of the image's slot says
pub told_version : (c : List ℕ) (s : Store) (image version done known : ℕ) → Stands c s → KeepsPages s image version done → slice_index c (pages_at image) ≡ known
    → cond (done == known) (Some version) None ≡ whole_version (held s image)
told_version c s image version done known stands keeps is =
    let at : KeepsImage c image keeps.kept = kept_there (KeepsImage c image) (held s image) keeps.kept keeps.is (stands.contains.kept image keeps.known) in
    let pages : keeps.kept.pages ≡ known = sym (header_pages c image keeps.kept at) ∙ is in
    ap (λ (n : ℕ). cond {A = Option ℕ} (done == n) (Some version) None) (sym pages)
    ∙ sym (pages_version (held s image) keeps.kept version done keeps.is keeps.version_is keeps.done_is)

-- ---- lines

-- whether a line tells of an image
held_line : (image : ℕ) (line : Report) → is_held_line image line ≡ keeps_version (image_told line) image
held_line image (Have mote i version pages) = refl
held_line image (Lost mote i) = refl
held_line image (Order mote number i version) = refl
held_line image (Start mote i version size crc) = refl
held_line image (Off mote) = refl
held_line image (SentAdvert mote) = refl
held_line image (SentRequest mote to i version page count) = refl
held_line image (SentData mote i version page packet) = refl
held_line image (Refused mote cause) = refl
held_line image (Taken i version) = refl
held_line image (End events) = refl
held_line image (MoteOn mote i version) = refl
held_line image (MoteOff mote) = refl
held_line image (Kept mote i version pages) = refl

none_told : (image : ℕ) (lines : List Report) → ((q : ℕ) (line : Report) → slice_get lines q ≡ Some line → keeps_version (image_told line) image ≡ false)
    → count_by (is_held_line image) lines ≡ 0
none_told image [] none = refl
none_told image (line ∷ lines) none =
    sum_by-cons (λ (r : Report). cond (is_held_line image r) 1 0) line lines
    ∙ ap (λ (b : Bool). cond {A = ℕ} b 1 0 + count_by (is_held_line image) lines) (held_line image line ∙ none 0 line refl)
    ∙ zero-add (count_by (is_held_line image) lines) ∙ none_told image lines (λ q r there. none (suc q) r there)

tells_at : (P : Report → Type 0) (lines : List Report) (k : ℕ) (line : Report) → AllByRecursion P lines → slice_get lines k ≡ Some line → P line
tells_at P [] k line all there = absurd cc
tells_at P (r ∷ lines) zero line all there = subst P (same_line r line there) all.0
  where
    same_line : (a b : Report) → Some a ≡ Some b → a ≡ b
    same_line a b e = cc
tells_at P (r ∷ lines) (suc k) line all there = tells_at P lines k line all.1 there

-- an image is known after so many lines of an event: as after the event, or as before it, if no line told of it
abbrev pub Stage : Wholes → List Store → List Played → Played → (image lines : ℕ) → Type 0
Stage w stores past p image lines = KnowsImage w stores (past ++ p ∷ []) image
    ⊎ (((q : ℕ) (line : Report) → q < lines → slice_get p.reports q ≡ Some line → keeps_version (image_told line) image ≡ false) × KnowsImage w stores past image)

pub stage_first : (w : Wholes) (stores : List Store) (past : List Played) (p : Played) (image : ℕ) → KnowsImage w stores past image → Stage w stores past p image 0
stage_first w stores past p image knows = inr ((λ q line lt there. absurd (omega (arith, lt))), knows)

next_event : {mote : ℕ} {d : Device} {stores : List Store} {past : List Played} {p : Played} → IsTold mote d stores past p → IsNextEvent stores past p
next_event told = record { before = told.before }

-- of other motes nothing changed
others_same : {mote : ℕ} {d : Device} {stores : List Store} {past : List Played} {p : Played} → IsTold mote d stores past p
    → (m image v : ℕ) → m < length stores → m ≢ mote → keeps_whole p.after m image v ≡ keeps_whole p.before m image v
others_same told m image v lt apart = ap (λ (s : Store). is_whole (held s image) v) (told.others m lt apart)

both_sides : (a b : Bool) → a ≡ true → b ≡ true → (a && b) ≡ true
both_sides a b p q = cc

pub stage_last : (w : Wholes) (mote : ℕ) (d : Device) (stores : List Store) (past : List Played) (p : Played) (image k : ℕ) → IsTold mote d stores past p → length p.reports ≤ k
    → Stage w stores past p image k → KnowsImage w stores (past ++ p ∷ []) image
stage_last w mote d stores past p image k told all (inl after) = after
stage_last w mote d stores past p image k told all (inr before) = elim (cases_Bool (is_loaded image)) [
  | inl loaded ↦
      image_stays w stores past p image (next_event told) (λ m v lt. elim (cases_eq m mote) [
        | inl same ↦ subst (λ (n : ℕ). keeps_whole p.after n image v ≡ keeps_whole p.before n image v) (sym same)
            (told.untold image v (ltb-true image images (and_parts (nat_lt 0 image) (nat_lt image images) loaded).1)
            (none_told image p.reports (λ q line there. before.0 q line (within q line there) there)))
        | inr apart ↦ others_same told m image v lt apart
      ]) before.1
  | inr unloaded ↦ knows_unloaded w (length stores) (length stores) image _ (kept_whole stores (past ++ p ∷ []) image) _ _ _ _ unloaded before.1
]
  where
    within : (q : ℕ) (line : Report) → slice_get p.reports q ≡ Some line → q < k
    within q line there = omega (arith, slice_get_within p.reports q line there, all)

-- the same is told again
image_again : (before after : Wholes) (stores : List Store) (past : List Played) (p : Played) (mote image : ℕ) (o : Option ℕ) → mote < length stores → is_loaded image ≡ true
    → length past + 4 < 2 ^ 32 - 1 → whole_version (held (store_at p.after mote) image) ≡ o
    → ChangesKept before after (length stores) mote image o (event_moment (past ++ p ∷ []))
    → KnowsImage before stores (past ++ p ∷ []) image → KnowsImage after stores (past ++ p ∷ []) image
image_again before after stores past p mote image o lt loaded room is changes knows =
    let all : List Played = past ++ p ∷ [] in
    let kept : ℕ → Option ℕ = kept_whole stores all image in
    knows_as after (length stores) image (with_kept kept mote o) kept _ (λ m v. whole_moments stores all m image v) _ (λ v. all_moments stores all image v)
    (λ m within. sym (same m (mote == m) refl))
    (λ m v within. no_more (whole_moments stores all m image v) (is_new (kept m) (with_kept kept mote o m) v) (event_moment all)
    (ap (λ (q : Option ℕ). is_new (kept m) q v) (sym (same m (mote == m) refl)) ∙ not_new_same (kept m) v))
    (λ v. no_more (all_moments stores all image v) (all_new (length stores) kept (with_kept kept mote o) v) (event_moment all)
    (both_and _ _ (all_same (length stores) (λ (m : ℕ). keeps_version (kept m) v) (λ (m : ℕ). keeps_version (with_kept kept mote o m) v)
    (λ m within. ap (λ (q : Option ℕ). keeps_version q v) (same m (mote == m) refl)))))
    (changes kept (λ m v. whole_moments stores all m image v) (λ v. all_moments stores all image v) lt loaded
    (λ v. omega (arith, few_moments stores all mote image v, length_push past p, room)) knows)
  where
    same : (m : ℕ) (b : Bool) → (mote == m) ≡ b → kept_whole stores (past ++ p ∷ []) image m ≡ cond b o (kept_whole stores (past ++ p ∷ []) image m)
    same m true e = ap (kept_whole stores (past ++ p ∷ []) image) (sym (eqb-true mote m e)) ∙ kept_now stores past p mote image ∙ is
    same m false e = refl

same_image : (a b : ℕ) → Some a ≡ Some b → a ≡ b
same_image a b e = cc

same_report : (a b : Report) → Some a ≡ Some b → a ≡ b
same_report a b e = cc

-- a line tells of an image that there is
image_known : (mote : ℕ) (s : Store) (r : Report) (i : ℕ) → HaveTells mote s r → image_told r ≡ Some i → i < images
image_known mote s (Have m j version pages) i tells is = subst (λ (k : ℕ). k < images) (same_image j i is) tells.1.known
image_known mote s (Lost m j) i tells is = subst (λ (k : ℕ). k < images) (same_image j i is) tells.1
image_known mote s (Order m number j version) i tells is = absurd cc
image_known mote s (Start m j version size crc) i tells is = absurd cc
image_known mote s (Off m) i tells is = absurd cc
image_known mote s (SentAdvert m) i tells is = absurd cc
image_known mote s (SentRequest m to j version page count) i tells is = absurd cc
image_known mote s (SentData m j version page packet) i tells is = absurd cc
image_known mote s (Refused m cause) i tells is = absurd cc
image_known mote s (Taken j version) i tells is = absurd cc
image_known mote s (End events) i tells is = absurd cc
image_known mote s (MoteOn m j version) i tells is = absurd cc
image_known mote s (MoteOff m) i tells is = absurd cc
image_known mote s (Kept m j version pages) i tells is = absurd cc

-- only the last of these lines is new
one_more_line : (p : Played) (image k : ℕ) (line : Report) → slice_get p.reports k ≡ Some line → keeps_version (image_told line) image ≡ false
    → ((q : ℕ) (r : Report) → q < k → slice_get p.reports q ≡ Some r → keeps_version (image_told r) image ≡ false)
    → (q : ℕ) (r : Report) → q < k + 1 → slice_get p.reports q ≡ Some r → keeps_version (image_told r) image ≡ false
one_more_line p image k line there none before q r lt is = elim (cases_eq q k) [
  | inl same ↦
      subst (λ (x : Report). keeps_version (image_told x) image ≡ false) (same_report line r (sym there ∙ ap (slice_get p.reports) (sym same) ∙ is)) none
  | inr apart ↦ before q r (omega (arith, lt, apart)) is
]

-- a line told of no image
stage_silent : (before after : Wholes) (stores : List Store) (past : List Played) (p : Played) (line : Report) (image k : ℕ) → slice_get p.reports k ≡ Some line
    → image_told line ≡ None → after ≡ before → Stage before stores past p image k → Stage after stores past p image (k + 1)
stage_silent before after stores past p line image k there silent same (inl known) = inl (subst (λ (w : Wholes). KnowsImage w stores (past ++ p ∷ []) image) (sym same) known)
stage_silent before after stores past p line image k there silent same (inr known) = inr (
  one_more_line p image k line there (ap (λ (o : Option ℕ). keeps_version o image) silent) known.0,
  subst (λ (w : Wholes). KnowsImage w stores past image) (sym same) known.1,
)

-- a line told of another image
stage_other : (before after : Wholes) (stores : List Store) (past : List Played) (p : Played) (line : Report) (image i k : ℕ) → slice_get p.reports k ≡ Some line
    → image_told line ≡ Some i → (image ≡ i → ⊥) → KeepsOthers before after i → Stage before stores past p image k → Stage after stores past p image (k + 1)
stage_other before after stores past p line image i k there told apart keeps (inl known) = inl (keeps (length stores) image _ _ _ apart known)
stage_other before after stores past p line image i k there told apart keeps (inr known) = inr (
  one_more_line p image k line there (ap (λ (o : Option ℕ). keeps_version o image) told ∙ ne_eqb i image (λ same. apart (sym same))) known.0,
  keeps (length stores) image _ _ _ apart known.1,
)

-- a line told of the image
stage_here : (before after : Wholes) (mote : ℕ) (d : Device) (stores : List Store) (past : List Played) (p : Played) (image k : ℕ) → IsTold mote d stores past p
    → after.lost ≡ false → image < images
    → NotesKept before after (length stores) mote image (whole_version (held (store_at p.after mote) image)) (event_moment (past ++ p ∷ []))
    → Stage before stores past p image k → Stage after stores past p image (k + 1)
stage_here before after mote d stores past p image k told kept_on known notes stage = inl (elim (cases_Bool (is_loaded image)) [
  | inl loaded ↦ here loaded stage
  | inr unloaded ↦ golden unloaded stage
])
  where
    now : Option ℕ
    now = whole_version (held (store_at p.after mote) image)

    here : is_loaded image ≡ true → Stage before stores past p image k → KnowsImage after stores (past ++ p ∷ []) image
    here loaded (inl after_it) =
        image_again before after stores past p mote image now told.within loaded (omega (arith, told.few)) refl (notes.changes kept_on) after_it
    here loaded (inr before_it) =
        image_changes before after stores past p mote image now (next_event told) told.within loaded (omega (arith, told.few)) refl
        (λ m v lt apart. others_same told m image v lt apart) (notes.changes kept_on) before_it.1

    unchanged_by : is_loaded image ≡ false → after ≡ before
    unchanged_by unloaded = notes.golden (elim (and_cases (nat_lt 0 image) (nat_lt image images) unloaded) [
      | inl low ↦ omega (arith, ltb-false 0 image low)
      | inr high ↦ absurd (omega (arith, ltb-false image images high, known))
    ])

    golden : is_loaded image ≡ false → Stage before stores past p image k → KnowsImage after stores (past ++ p ∷ []) image
    golden unloaded (inl after_it) = subst (λ (w : Wholes). KnowsImage w stores (past ++ p ∷ []) image) (sym (unchanged_by unloaded)) after_it
    golden unloaded (inr before_it) =
        knows_unloaded after (length stores) (length stores) image _ (kept_whole stores (past ++ p ∷ []) image) _ _ _ _ unloaded
        (subst (λ (w : Wholes). KnowsImage w stores past image) (sym (unchanged_by unloaded)) before_it.1)

-- one more line
pub stage_next : (before after : Wholes) (mote : ℕ) (d : Device) (stores : List Store) (past : List Played) (p : Played) (line : Report) (image k : ℕ)
    → IsTold mote d stores past p → slice_get p.reports k ≡ Some line → NotesLine before after (length stores) mote d line (event_moment (past ++ p ∷ []))
    → after.lost ≡ false → Stage before stores past p image k → Stage after stores past p image (k + 1)
stage_next before after mote d stores past p line image k told there notes kept_on stage =
    by (image_told line) refl (notes (store_at p.after mote) tells told.stands told.awake)
  where
    tells : HaveTells mote (store_at p.after mote) line
    tells = tells_at (HaveTells mote (store_at p.after mote)) p.reports k line told.tells there

    by : (o : Option ℕ) → image_told line ≡ o
        → MatchOption o (after ≡ before) (λ i. NotesKept before after (length stores) mote i (whole_version (held (store_at p.after mote) i)) (event_moment (past ++ p ∷ [])))
        → Stage after stores past p image (k + 1)
    by None is noted = stage_silent before after stores past p line image k there is noted stage
    by (Some i) is noted = elim (cases_eq i image) [
      | inl same ↦
          stage_here before after mote d stores past p image k told kept_on (subst (λ (j : ℕ). j < images) same (image_known mote (store_at p.after mote) line i tells is))
          (subst (λ (j : ℕ). NotesKept before after (length stores) mote j (whole_version (held (store_at p.after mote) j)) (event_moment (past ++ p ∷ []))) same noted) stage
      | inr apart ↦ stage_other before after stores past p line image i k there is (λ same. apart (sym same)) (noted.others kept_on) stage
    ]

-- ---- events

-- nothing was told, at no mote that there is or by no line
pub wholes_stay : (w : Wholes) (mote : ℕ) (boards initial : List Device) (stores : List Store) (past : List Played) (p : Played) → IsTelling mote boards stores past p
    → (mote < length stores → p.reports ≡ []) → HasNoted w initial stores past → HasNoted w initial stores (past ++ p ∷ [])
wholes_stay w mote boards initial stores past p tells none has = (
  has.0,
  λ kept_on image. elim (cases_Bool (is_loaded image)) [
    | inl loaded ↦
        image_stays w stores past p image (record { before = tells.before }) (λ m v lt. elim (cases_eq m mote) [
          | inl same ↦
              let within : mote < length stores = omega (arith, lt, same) in
              subst (λ (n : ℕ). keeps_whole p.after n image v ≡ keeps_whole p.before n image v) (sym same)
              (tells.untold image v within (ltb-true image images (and_parts (nat_lt 0 image) (nat_lt image images) loaded).1)
              (ap (λ (lines : List Report). count_by (is_held_line image) lines) (none within)))
          | inr apart ↦ ap (λ (s : Store). is_whole (held s image) v) (tells.others m lt apart)
        ]) (has.1 kept_on image)
    | inr unloaded ↦
        knows_unloaded w (length stores) (length stores) image _ (kept_whole stores (past ++ p ∷ []) image) _ _ _ _ unloaded (has.1 kept_on image)
  ],
)

-- what the board of a mote is told of it
pub told_of : (mote : ℕ) (boards : List Device) (d : Device) (stores : List Store) (past : List Played) (p : Played) → IsTelling mote boards stores past p
    → mote < length stores → slice_get boards mote ≡ Some d → IsTold mote d stores past p
told_of mote boards d stores past p tells lt there = record {
  within = lt;
  few = tells.few;
  tells = tells.tells lt;
  stands = tells.stands d lt there;
  awake = tells.awake d lt there;
  before = tells.before;
  others = tells.others;
  untold = λ image v known none. tells.untold image v lt known none;
}

-- what was noted of the lines was noted of the event
pub wholes_told : (before after : Wholes) (initial : List Device) (stores : List Store) (past : List Played) (p : Played) → StaysTold before after
    → (KnowsAll before stores past → after.lost ≡ false → KnowsAll after stores (past ++ p ∷ []))
    → HasNoted before initial stores past → HasNoted after initial stores (past ++ p ∷ [])
wholes_told before after initial stores past p goes notes has =
    (subst (λ g. ReadsBoards g.items initial) (sym goes.given) has.0, λ kept_on. notes (has.1 (goes.lost kept_on)) kept_on)

-- the board of a mote, as a device
pub device_there : {A B : Type 0} (f : A → B) (xs : List A) (i j : ℕ) (x : A) → j ≡ i → i < length xs → x ≡ get_or xs j x → slice_get (map f xs) i ≡ Some (f x)
device_there f [] i j x same lt is = absurd (omega (arith, lt))
device_there f (y ∷ xs) zero j x same lt is = ap (λ z. Some (f z)) (sym (is ∙ ap (λ (k : ℕ). get_or (y ∷ xs) k x) same))
device_there f (y ∷ xs) (suc i) j x same lt is = device_there f xs i i x refl (omega (arith, lt)) (is ∙ ap (λ (k : ℕ). get_or (y ∷ xs) k x) same)

any_default : {A : Type 0} (xs : List A) (i : ℕ) (d e : A) → i < length xs → get_or xs i d ≡ get_or xs i e
any_default [] i d e lt = absurd (omega (arith, lt))
any_default (x ∷ xs) zero d e lt = refl
any_default (x ∷ xs) (suc i) d e lt = any_default xs i d e (omega (arith, lt))

-- the line at a place of the same lines
pub line_at : {A : Type 0} (xs ys : List A) (i : ℕ) (d : A) → xs ≡ ys → i < length ys → get_or xs i (get_or ys i d) ≡ get_or ys i d
line_at xs ys i d same lt = ap (λ ls. get_or ls i (get_or ys i d)) same ∙ any_default ys i (get_or ys i d) d lt

pub length_devices : {A B : Type 0} (f : A → B) (xs : List A) → length (map f xs) ≡ length xs
length_devices f [] = refl
length_devices f (x ∷ xs) = ap suc (length_devices f xs)

pub no_items : {A : Type 0} (xs : List A) → (length xs == 0) ≡ true → xs ≡ []
no_items [] e = refl
no_items (x ∷ xs) e = absurd (omega (arith, eqb-true (length (x ∷ xs)) 0 e))

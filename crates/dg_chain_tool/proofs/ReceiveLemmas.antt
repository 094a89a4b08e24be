-- The outcome of receiving an image.
use Rattle.std.proofs.Common.{◌≡◌, ◌≢◌, map, ℕ, ◌+◌, ◌-◌, ◌<◌, ◌≤◌, Bool, true, false, List, ◌∷◌, length, drop, take, Option, Some, None, Result, Ok, Err, refl, sym, ap, subst, ◌∙◌, inr, arith, cond}
use Rattle.std.specs.Prelude.{◌==◌, nat_lt, nat_le}
use Rattle.std.proofs.lemmas.Bool.{cond_both}
use Rattle.std.proofs.lemmas.Bool.Decides.{nat_tests}
use Rattle.std.proofs.lemmas.List.{drop-take}
use Rattle.dg_nor.specs.Device.{Device}
use Rattle.dg_nor.specs.Reads.{Looked}
use Rattle.dg_nor.specs.Trail.{Trail, last, joined, resting, stepping}
use Rattle.dg_nor.proofs.TrailLemmas.{EachWorks-resting, last-stepping, last-joined, joined-assoc}
use Rattle.dg_object.specs.Object.{Row, IsRow, object, profile}
use Rattle.dg_slot.specs.Layout.{page_operations}
use Rattle.dg_slot.specs.Kept.{Held}
use Rattle.dg_volume.specs.Store.{Store, held}
use Rattle.dg_volume.specs.Changes.{paged, is_version, inject_refusal, take_refusal, stale_or_worn, worn, UnlessTakeRefused}
use Rattle.dg_volume.specs.Trails.{BeginsAt, take_trail, fill_trail, done_of}
use Rattle.dg_volume.specs.Acts.{Acted, Stops}
use Rattle.dg_volume.specs.declared.volume.Volume.{Volume}
use Rattle.dg_volume.specs.declared.volume.InjectFault.{InjectFault}
use Rattle.dg_volume.specs.declared.volume.InjectFault.TheVariants as inject
use Rattle.dg_volume.specs.declared.volume.TakeFault.{TakeFault}
use Rattle.dg_volume.specs.declared.volume.TakeFault.TheVariants as take_fault
use Rattle.dg_volume.proofs.ActLemmas.{acted_then, stops_first, stops_then}
use Rattle.dg_volume.proofs.BeginLemmas.{begins_resting, begins_joined, take_begins, fill_begins, inject_begins}
use Rattle.dg_volume.proofs.FillLemmas.{fill_first, fill_works}
use Rattle.dg_volume.proofs.InjectLemmas.{Older, anew_is, kept_trail, looked_acted, looked_stops, older_worn, older_free}
use Rattle.dg_chain.specs.Checking.{Break}
use Rattle.dg_chain.specs.Receiving.{fill_operations}
use Rattle.dg_end.specs.declared.refusal.Refusal.{Refusal}
use Rattle.dg_end.specs.declared.refusal.Refusal.TheVariants as refusals
use Rattle.dg_end.specs.Lines.{Outcome}
use Rattle.dg_end.specs.Conversions.{end_of_injection, end_of_take}
use Rattle.dg_end.specs.declared.ends.End.{End}
use Rattle.dg_end.specs.declared.ends.End.TheVariants as ends
use Rattle.dg_tool.specs.Endings.{VerbEnding, Reading}
use Rattle.dg_tool.specs.Verbs.{have_text}
use Rattle.dg_tool.specs.Done.{Completed, NeedsBoard, NeedsInput}
use Rattle.dg_tool.specs.inner.OneBoard.{OnStore}
use Rattle.dg_tool.proofs.OutcomeLemmas.{made_store, refused_store, stopped_store, halts_stopped}
use Rattle.dg_nor.proofs.ReadLemmas.{Looked-none}
use Rattle.dg_tool.proofs.TrailLemmas.{looked_same}
use Rattle.dg_words.specs.Counts.{Rose}
use Rattle.dg_outside.specs.Outside.{InputState}
use Rattle.dg_tool.specs.Endings.{FirstAs}
use Rattle.dg_tool.specs.Done.{VerbStopsOn, OnBoards, FedBoards}
use Rattle.dg_tool.specs.inner.OnChip.{CompletedOn}
use Rattle.dg_tool.specs.Rules.{trail_rule}
use Rattle.dg_tool.specs.Input.{ImageRead, end_of_image}
use Rattle.dg_tool.specs.declared.input.ImageFault.{ImageFault}
use Rattle.dg_tool.proofs.BoardLemmas.{some_mapped}
use Rattle.dg_tool.proofs.InputLemmas.{fed, fed_none}
use Rattle.dg_chain_tool.specs.Done.{receive_rule}
use Rattle.dg_chain_tool.specs.Receiving.{expected, done_in, foreign_in, keep_trail, with_foreign, trail_by, receive_trail}
use Rattle.dg_chain_tool.specs.inner.Words.{compared_from, first_foreign}
use Rattle.dg_chain_tool.specs.Verbs.{receive_ending}
use Rattle.dg_chain_tool.specs.inner.Words.{receive_to, receive_into}
use Rattle.dg_chain_tool.specs.inner.Filling.{fill_to, FillEnds}
use Rattle.dg_chain_tool.proofs.FillLemmas.{break_above, to_first, to_works, to_more}

-- ---- the trail begins where the chip is

keep_begins : (s : Store) (row : Row) (pages : List (List ℕ)) → BeginsAt s (keep_trail s row pages)
keep_begins s row pages =
    cond_both (is_version (held s row.image) row.version) _ _ (BeginsAt s)
    (λ _. fill_begins s row.image _)
    (λ _. begins_joined s (take_trail s (profile row)) _ (take_begins s (profile row)) (fill_works (last (take_trail s (profile row))) row.image pages))

begins_by : (refusal : Option InjectFault) (found : Option Break) (s : Store) (row : Row) → BeginsAt s (trail_by refusal found s row)
begins_by (Some fault) found s row = begins_resting s 0
begins_by None None s row = inject_begins s row
begins_by None (Some at) s row =
    let t = keep_trail s row (take at.page (object row)) in
    begins_joined s t (resting (last t) fill_operations) (keep_begins s row (take at.page (object row))) (EachWorks-resting (last t) fill_operations)

pub receive_begins : (root : List ℕ) (s : Store) (row : Row) → BeginsAt s (receive_trail root s row)
unfolding receive_trail
receive_begins root s row = begins_by (inject_refusal s row) (foreign_in root s row) s row

trail_is : (root : List ℕ) (s : Store) (row : Row) (found : Option Break) → inject_refusal s row ≡ None → foreign_in root s row ≡ found → receive_trail root s row ≡ trail_by None found s row
unfolding receive_trail
trail_is root s row found none same = ap (λ (o : Option InjectFault). trail_by o (foreign_in root s row) s row) none ∙ ap (λ (f : Option Break). trail_by None f s row) same

-- ---- the ending is found after the board was read

by_needs : (row : Row) (refusal : Option InjectFault) (found : Option Break) → NeedsBoard (receive_ending row refusal found)
by_needs row (Some fault) found = tt
by_needs row None None = tt
by_needs row None (Some at) = tt

pub receive_needs : (root : List ℕ) (row : Row) (s : Store) → NeedsBoard (receive_to root row s)
receive_needs root row s = by_needs row (inject_refusal s row) (foreign_in root s row)

by_input_needs : (row : Row) (refusal : Option InjectFault) (found : Option Break) → NeedsInput (receive_ending row refusal found)
by_input_needs row (Some fault) found = tt
by_input_needs row None None = tt
by_input_needs row None (Some at) = tt

pub receive_into_needs : (root : List ℕ) (row : Row) (chip : Option Store) → NeedsInput (receive_into root row chip)
receive_into_needs root row None = tt
receive_into_needs root row (Some s) = by_input_needs row (inject_refusal s row) (foreign_in root s row)

-- ---- the outcome

went : (t : Trail Store) (a b : Device) (v : Volume) → Acted t a b v → Completed t a b
went t a b v h = record { ran = h.ran; stands = h.mounted.stands }

module _ (root : List ℕ) (s : Store) (row : Row) (a b : Device) where
  abbrev pub Received : Outcome → Type 0
  Received outcome = OnStore outcome (receive_to root row s) (Completed (receive_trail root s row)) (Stops (receive_trail root s row)) a b

  abbrev By : Outcome → Option InjectFault → Option Break → Type 0
  By outcome refusal found = OnStore outcome (receive_ending row refusal found) (Completed (receive_trail root s row)) (Stops (receive_trail root s row)) a b

  ends_by : (outcome : Outcome) (refusal : Option InjectFault) (found : Option Break) → inject_refusal s row ≡ refusal → foreign_in root s row ≡ found → By outcome refusal found → Received outcome
  ends_by outcome refusal found e f h = subst (λ (o : Option InjectFault). By outcome o (foreign_in root s row)) (sym e) (subst (λ (o : Option Break). By outcome refusal o) (sym f) h)

  pub received_stops : Stops (receive_trail root s row) a b → Received (Err ends.FlashFault)
  received_stops h = stopped_store (Completed (receive_trail root s row)) (Stops (receive_trail root s row)) a b (receive_to root row s) (receive_needs root row s) h (halts_stopped h.halts)

  pub received_refused : (fault : InjectFault) (cause : Refusal) → inject_refusal s row ≡ Some fault → end_of_injection (length row.bytes) fault ≡ ends.Refused cause → Looked a b → Received (Err (ends.Refused cause))
  received_refused fault cause e same looked =
      ends_by (Err (ends.Refused cause)) (Some fault) (foreign_in root s row) e refl
      (subst (λ (x : End). OnStore (Err (ends.Refused cause)) (Reading x) (Completed (receive_trail root s row)) (Stops (receive_trail root s row)) a b) (sym same) (refused_store (Completed (receive_trail root s row)) (Stops (receive_trail root s row)) a b cause looked))

  filled_foreign : (k : ℕ) (at : Break) (v : Volume) → inject_refusal s row ≡ None → foreign_in root s row ≡ Some at → at.page ≡ k → Acted (receive_trail root s row) a b v → Received (Err (ends.Refused (refusals.Foreign k)))
  filled_foreign k at v none found page acted =
      ends_by (Err (ends.Refused (refusals.Foreign k))) None (Some at) none found
      (subst (λ (n : ℕ). By (Err (ends.Refused (refusals.Foreign n))) None (Some at)) page
      (record { rules = (refl, went (receive_trail root s row) a b v acted); stops = λ e. cc; of_verb = tt; on_board = λ h. h }))

  -- all that was missing is filled
  pub received_whole : (T : Type 0) (x : T) (found : Option Break) (t : Trail Store) (v : Volume) → inject_refusal s row ≡ None → found ≡ foreign_in root s row → t ≡ receive_trail root s row → FillEnds (Ok x) found t a b v → Received (Ok (have_text row))
  received_whole T x found t v none same is h =
      ends_by (Ok (have_text row)) None None none (sym same ∙ h.0)
      (made_store (Completed (receive_trail root s row)) (Stops (receive_trail root s row)) a b (have_text row) (have_text row) refl (went (receive_trail root s row) a b v (subst (λ (u : Trail Store). Acted u a b v) is h.1)))

  abbrev filling : (T : Type 0) → End → Result T End
  filling T e = Err e

  -- or it is not
  pub received_part : (T : Type 0) (fault : End) (found : Option Break) (t : Trail Store) (v : Volume) → inject_refusal s row ≡ None → found ≡ foreign_in root s row → t ≡ receive_trail root s row → FillEnds (filling T fault) found t a b v → Received (Err fault)
  received_part T (ends.Refused (refusals.Foreign k)) found t v none same is h = filled_foreign k h.0.0 v none (sym same ∙ h.0.1) h.0.2 (subst (λ (u : Trail Store). Acted u a b v) is h.1)
  received_part T ends.FlashFault found t v none same is h = received_stops (subst (λ (u : Trail Store). Stops u a b) is h)
  received_part T end found t v none same is h = absurd h

-- ---- acts before the pages

pub ends_looked : {T : Type 0} (r : Result T End) (found : Option Break) (t : Trail Store) (a b c : Device) (w : Volume) → Looked a b → FillEnds r found t b c w → FillEnds r found t a c w
ends_looked (Ok x) found t a b c w looked h = (h.0, looked_acted t a b c w looked h.1)
ends_looked (Err (ends.Refused (refusals.Foreign k))) found t a b c w looked h = (h.0, looked_acted t a b c w looked h.1)
ends_looked (Err ends.FlashFault) found t a b c w looked h = looked_stops t a b c looked h
ends_looked (Err end) found t a b c w looked h = absurd h

pub ends_then : {T : Type 0} (r : Result T End) (found : Option Break) (t u : Trail Store) (a b c : Device) (v w : Volume) → last t ≡ u.first → Acted t a b v → FillEnds r found u b c w → FillEnds r found (joined t u) a c w
ends_then (Ok x) found t u a b c v w same acted h = (h.0, acted_then t u a b c v w same acted h.1)
ends_then (Err (ends.Refused (refusals.Foreign k))) found t u a b c v w same acted h = (h.0, acted_then t u a b c v w same acted h.1)
ends_then (Err ends.FlashFault) found t u a b c v w same acted h = stops_then t u a b c v same acted h
ends_then (Err end) found t u a b c v w same acted h = absurd h

-- ---- a version that is kept

kept_version : (s : Store) (row : Row) (h : Held) → held s row.image ≡ Some h → h.version ≡ row.version → is_version (held s row.image) row.version ≡ true
kept_version s row h here same = ap (λ (o : Option Held). is_version o row.version) here ∙ test h.version row.version same
  where
    test : (m n : ℕ) → m ≡ n → (m == n) ≡ true
    test m n e = grind (arith, nat_tests)

pub kept_done : (s : Store) (row : Row) (h : Held) (n : ℕ) → held s row.image ≡ Some h → h.version ≡ row.version → n ≡ length h.complete → done_in s row ≡ n
kept_done s row h n here same count = ap (λ (b : Bool). cond b (done_of (held s row.image)) 0) (kept_version s row h here same) ∙ ap done_of here ∙ sym count

front_drop : (m n : ℕ) (pages : List (List ℕ)) → n ≤ m → take (m - n) (drop n pages) ≡ drop n (take m pages)
front_drop m n pages h = let e : n + (m - n) ≡ m = omega (arith, h) in sym (drop-take n (m - n) pages) ∙ ap (λ (k : ℕ). drop n (take k pages)) e

kept_by : (root : List ℕ) (s : Store) (row : Row) (h : Held) (n : ℕ) (found : Option Break) → inject_refusal s row ≡ None → held s row.image ≡ Some h → h.version ≡ row.version → n ≡ length h.complete → ((at : Break) → found ≡ Some at → n ≤ at.page)
    → fill_to found n s row.image (drop n (object row)) ≡ trail_by None found s row
kept_by root s row h n None none here same count above = sym (kept_trail s row h n none here same count)
kept_by root s row h n (Some at) none here same count above =
    let pages = take at.page (object row) in
    let whole : keep_trail s row pages ≡ fill_trail s row.image (drop n pages) =
    ap (λ (b : Bool). cond b (fill_trail s row.image (drop (done_of (held s row.image)) pages)) (joined (take_trail s (profile row)) (fill_trail (last (take_trail s (profile row))) row.image pages))) (kept_version s row h here same)
    ∙ ap (λ (k : ℕ). fill_trail s row.image (drop k pages)) (ap done_of here ∙ sym count) in
    ap (λ (l : List (List ℕ)). with_foreign (fill_trail s row.image l)) (front_drop at.page n (object row) (above at refl)) ∙ ap with_foreign (sym whole)

above_by : (b : Bool) (n : ℕ) → (n == 0) ≡ b → n ≤ cond b 1 n
above_by true n e = grind (arith, nat_tests)
above_by false n e = omega arith

pub from_some : (n : ℕ) → 1 ≤ n → compared_from n ≡ n
from_some n h = let test : (n == 0) ≡ false = grind (arith, nat_tests) in ap (λ (b : Bool). cond b 1 n) test

foreign_above : (root : List ℕ) (pages : List (List ℕ)) (n : ℕ) (at : Break) → first_foreign root pages n ≡ Some at → n ≤ at.page
foreign_above root pages n at e = omega (arith, above_by (n == 0) n refl, break_above (expected root pages (compared_from n)) (compared_from n) (drop (compared_from n) pages) at e)

-- the pages after those that are complete are filled
pub kept_is : (root : List ℕ) (s : Store) (row : Row) (h : Held) (n : ℕ) → inject_refusal s row ≡ None → held s row.image ≡ Some h → h.version ≡ row.version → n ≡ length h.complete
    → fill_to (first_foreign root (object row) n) n s row.image (drop n (object row)) ≡ receive_trail root s row
kept_is root s row h n none here same count =
    kept_by root s row h n (first_foreign root (object row) n) none here same count (foreign_above root (object row) n)
    ∙ sym (trail_is root s row (first_foreign root (object row) n) none (ap (first_foreign root (object row)) (kept_done s row h n here same count)))

-- ---- a version for which the slot is taken

other_version : (version : ℕ) (o : Option Held) → ((h : Held) → o ≡ Some h → h.version < version) → is_version o version ≡ false
other_version version None older = refl
other_version version (Some h) older = let less = older h refl in grind (arith, nat_tests)

pub anew_done : (s : Store) (row : Row) → Older s row → done_in s row ≡ 0
anew_done s row older = ap (λ (b : Bool). cond b (done_of (held s row.image)) 0) (other_version row.version (held s row.image) older)

anew_by : (s : Store) (row : Row) (found : Option Break) → inject_refusal s row ≡ None → Older s row → joined (take_trail s (profile row)) (fill_to found 0 (last (take_trail s (profile row))) row.image (object row)) ≡ trail_by None found s row
anew_by s row None none older = sym (anew_is s row none older)
anew_by s row (Some at) none older =
    let t = take_trail s (profile row) in
    let pages = take at.page (object row) in
    let u = fill_trail (last t) row.image pages in
    let whole : keep_trail s row pages ≡ joined t u = ap (λ (b : Bool). cond b (fill_trail s row.image (drop (done_of (held s row.image)) pages)) (joined t u)) (other_version row.version (held s row.image) older) in
    let zero_less : at.page - 0 ≡ at.page = omega arith in
    ap (λ (k : ℕ). joined t (with_foreign (fill_trail (last t) row.image (take k (object row))))) zero_less
    ∙ sym (joined-assoc t u (resting (last u) fill_operations))
    ∙ ap (λ (x : Store). joined (joined t u) (resting x fill_operations)) (sym (last-joined t u (sym (fill_first (last t) row.image pages))))
    ∙ ap with_foreign (sym whole)

-- its slot is taken, and all pages are filled
pub anew_fill : (root : List ℕ) (s : Store) (row : Row) → inject_refusal s row ≡ None → Older s row
    → joined (take_trail s (profile row)) (fill_to (first_foreign root (object row) 0) 0 (last (take_trail s (profile row))) row.image (object row)) ≡ receive_trail root s row
anew_fill root s row none older = anew_by s row (first_foreign root (object row) 0) none older ∙ sym (trail_is root s row (first_foreign root (object row) 0) none (ap (first_foreign root (object row)) (anew_done s row older)))

pub anew_stops : (root : List ℕ) (s : Store) (row : Row) (a b : Device) → inject_refusal s row ≡ None → Older s row → Stops (take_trail s (profile row)) a b → Stops (receive_trail root s row) a b
anew_stops root s row a b none older h =
    let t = take_trail s (profile row) in
    let found = first_foreign root (object row) 0 in
    let u = fill_to found 0 (last t) row.image (object row) in
    subst (λ (x : Trail Store). Stops x a b) (anew_fill root s row none older) (stops_first t u a b (to_works found 0 (last t) row.image (object row)) (sym (to_first found 0 (last t) row.image (object row))) h)

-- ---- a slot that is not taken

older_by : (s : Store) (version : ℕ) (o : Option Held) → ((h : Held) → o ≡ Some h → h.version < version) → stale_or_worn o version s ≡ worn s
older_by s version None older = refl
older_by s version (Some h) older =
    let less = older h refl in
    let test : nat_le version h.version ≡ false = grind (arith, nat_tests) in
    ap (λ (b : Bool). cond b (Some (take_fault.Stale h.version)) (worn s)) test

pub take_by_room : (s : Store) (row : Row) → 1 ≤ row.image → Older s row → take_refusal s (profile row) ≡ worn s
take_by_room s row some older =
    let test : (row.image == 0) ≡ false = grind (arith, nat_tests) in
    ap (λ (b : Bool). cond b (Some take_fault.Reserved) (stale_or_worn (held s row.image) row.version s)) test ∙ older_by s row.version (held s row.image) older

abbrev worn_by : Bool → ℕ → Option TakeFault
worn_by b room = cond b (Some (take_fault.Worn room)) None

room_by : (b : Bool) (room k : ℕ) → nat_lt room 2 ≡ b → worn_by b room ≡ Some (take_fault.Worn k) → (room ≡ k) × (k < 2)
room_by true room k test e = let same : room ≡ k = cc in (same, grind (arith, nat_tests))
room_by false room k test e = let f : None ≡ Some (take_fault.Worn k) = e in absurd cc

free_by : (b : Bool) (room : ℕ) → nat_lt room 2 ≡ b → worn_by b room ≡ None → 2 ≤ room
free_by true room test e = let f : Some (take_fault.Worn room) ≡ None = e in absurd cc
free_by false room test e = grind (arith, nat_tests)

stale_by : (b : Bool) (room k : ℕ) → worn_by b room ≡ Some (take_fault.Stale k) → ⊥
stale_by true room k e = cc
stale_by false room k e = cc

reserved_by : (b : Bool) (room : ℕ) → worn_by b room ≡ Some take_fault.Reserved → ⊥
reserved_by true room e = cc
reserved_by false room e = cc

pub take_worn : (s : Store) (row : Row) (k : ℕ) → IsRow row → 1 ≤ row.image → Older s row → take_refusal s (profile row) ≡ Some (take_fault.Worn k) → inject_refusal s row ≡ Some (inject.Worn k)
take_worn s row k is some older e =
    let r = room_by (nat_lt s.room 2) s.room k refl (sym (take_by_room s row some older) ∙ e) in
    older_worn s row k is some older r.0 r.1

pub take_free : (s : Store) (row : Row) → IsRow row → 1 ≤ row.image → Older s row → take_refusal s (profile row) ≡ None → inject_refusal s row ≡ None
take_free s row is some older e = older_free s row is some older (free_by (nat_lt s.room 2) s.room refl (sym (take_by_room s row some older) ∙ e))

pub not_stale : (s : Store) (row : Row) (k : ℕ) → 1 ≤ row.image → Older s row → take_refusal s (profile row) ≡ Some (take_fault.Stale k) → ⊥
not_stale s row k some older e = stale_by (nat_lt s.room 2) s.room k (sym (take_by_room s row some older) ∙ e)

pub not_reserved : (s : Store) (row : Row) → 1 ≤ row.image → Older s row → take_refusal s (profile row) ≡ Some take_fault.Reserved → ⊥
not_reserved s row some older e = reserved_by (nat_lt s.room 2) s.room (sym (take_by_room s row some older) ∙ e)

-- ---- what is reported of it

pub told_made : (text told : List ℕ) (ending : VerbEnding) (acted halted : Device → Device → Type 0) (a b : Device) → OnStore (Ok told) ending acted halted a b → text ≡ told → OnStore (Ok text) ending acted halted a b
told_made text told ending acted halted a b h is = subst (λ (t : List ℕ). OnStore (Ok t) ending acted halted a b) (sym is) h

pub told_wants : (told : List ℕ) (ending : VerbEnding) (acted halted : Device → Device → Type 0) (a b : Device) → OnStore (Ok told) ending acted halted a b → OnStore (Err ends.Memory) ending acted halted a b
told_wants told ending acted halted a b h = record { rules = inr h.rules.1; stops = λ e. cc; of_verb = tt; on_board = λ x. x }

-- ---- page 0, and the data pages after it

module _ (found : Option Break) (s : Store) (image : ℕ) (page : List ℕ) (rest pages : List (List ℕ)) (above : (at : Break) → found ≡ Some at → 1 ≤ at.page) (whole : pages ≡ page ∷ rest) where
  abbrev One : Trail Store
  One = stepping s page_operations (paged image page s)

  one_more : (y : Store) → last One ≡ y → joined One (fill_to found 1 y image rest) ≡ fill_to found 0 s image pages
  one_more y e =
      ap (λ (z : Store). joined One (fill_to found 1 z image rest)) (sym e ∙ last-stepping s page_operations (paged image page s))
      ∙ to_more found 0 s image page rest above ∙ ap (fill_to found 0 s image) (sym whole)

  pub whole_ends : {T : Type 0} (r : Result T End) (a b d : Device) (v w : Volume) → Acted One a b v → FillEnds r found (fill_to found 1 (last One) image rest) b d w → FillEnds r found (fill_to found 0 s image pages) a d w
  whole_ends r a b d v w acted h =
      subst (λ (t : Trail Store). FillEnds r found t a d w) (one_more (last One) refl) (ends_then r found One (fill_to found 1 (last One) image rest) a b d v w (sym (to_first found 1 (last One) image rest)) acted h)

  pub whole_stops : (a b : Device) → Stops One a b → Stops (fill_to found 0 s image pages) a b
  whole_stops a b h =
      let u = fill_to found 1 (last One) image rest in
      subst (λ (t : Trail Store). Stops t a b) (one_more (last One) refl) (stops_first One u a b (to_works found 1 (last One) image rest) (sym (to_first found 1 (last One) image rest)) h)

-- ---- a slot that is not taken, or a stop in its taking

pub take_fails : (root : List ℕ) (s : Store) (row : Row) (a b : Device) (fault : TakeFault) → IsRow row → 1 ≤ row.image → Older s row
    → UnlessTakeRefused {T = ℕ} (Err fault) (take_refusal s (profile row)) → (fault ≢ take_fault.Stopped → take_refusal s (profile row) ≡ Some fault) → (fault ≢ take_fault.Stopped → b ≡ a) → (fault ≡ take_fault.Stopped → Stops (take_trail s (profile row)) a b)
    → Received root s row a b (Err (end_of_take fault))
take_fails root s row a b take_fault.Stopped is some older free says still gone = received_stops root s row a b (anew_stops root s row a b (take_free s row is some older free) older (gone refl))
take_fails root s row a b (take_fault.Worn k) is some older free says still gone = received_refused root s row a b (inject.Worn k) (refusals.Worn k) (take_worn s row k is some older (says (λ x. cc))) refl (looked_same a b (still (λ x. cc)))
take_fails root s row a b (take_fault.Stale k) is some older free says still gone = absurd (not_stale s row k some older (says (λ x. cc)))
take_fails root s row a b take_fault.Reserved is some older free says still gone = absurd (not_reserved s row some older (says (λ x. cc)))

abbrev caused : InjectFault → (size : ℕ) → Type 0
caused fault size = (cause : Refusal) × (end_of_injection size fault ≡ ends.Refused cause)

has_cause : (size : ℕ) (fault : InjectFault) → fault ≢ inject.Stopped → caused fault size
has_cause size inject.Stopped other = absurd (other refl)
has_cause size inject.Empty other = (refusals.Empty, refl)
has_cause size inject.TooLarge other = (refusals.TooLarge size, refl)
has_cause size (inject.Stale kept) other = (refusals.Stale kept, refl)
has_cause size inject.Reserved other = (refusals.Reserved, refl)
has_cause size (inject.Worn room) other = (refusals.Worn room, refl)
has_cause size inject.Taken other = (refusals.Taken, refl)

-- it is refused before the board is used
pub refused_at : (root : List ℕ) (s : Store) (row : Row) (a : Device) (fault : InjectFault) (end : End) → inject_refusal s row ≡ Some fault → fault ≢ inject.Stopped → end ≡ end_of_injection (length row.bytes) fault → Received root s row a a (Err end)
refused_at root s row a fault end e other same =
    let x = has_cause (length row.bytes) fault other in
    subst (λ (y : End). Received root s row a a (Err y)) (sym (same ∙ x.1)) (received_refused root s row a a fault x.0 e x.1 (Looked-none a))

-- ---- the image that the input spells

pub fed_receive : {N T : Type 0} (f : N → Device) (items : List N) (root : List ℕ) (row : List ℕ → Row) (view : T → List ℕ) (image : T) (outcome : Outcome) (a b : InputState) (new : List Device) → 0 < length items → ImageRead view (Ok image) a b
    → OnBoards outcome (trail_rule (map f items) (receive_to root (row (view image))) (λ s. receive_trail root s (row (view image)))) (Rose a.reads b.reads) (map f items) new → FedBoards outcome (receive_rule (map f items) root row) a b (map f items) new
fed_receive f items root row view image outcome a b new some read did =
    fed (FirstAs (map f items)) (λ bytes chip. receive_into root (row bytes) chip) (λ bytes. CompletedOn (λ s. receive_trail root s (row bytes))) (λ bytes. VerbStopsOn (λ s. receive_trail root s (row bytes))) (λ bytes chip. receive_into_needs root (row bytes) chip) view image outcome a b (map f items) new (some_mapped f items some) read did

pub unfed_receive : {N T : Type 0} (f : N → Device) (items : List N) (root : List ℕ) (row : List ℕ → Row) (view : T → List ℕ) (fault : ImageFault) (a b : InputState) → 0 < length items → ImageRead view (Err fault) a b → FedBoards (Err (end_of_image fault)) (receive_rule (map f items) root row) a b (map f items) (map f items)
unfed_receive f items root row view fault a b some read =
    fed_none (FirstAs (map f items)) (λ bytes chip. receive_into root (row bytes) chip) (λ bytes. CompletedOn (λ s. receive_trail root s (row bytes))) (λ bytes. VerbStopsOn (λ s. receive_trail root s (row bytes))) (λ bytes chip. receive_into_needs root (row bytes) chip) view fault a b (map f items) (some_mapped f items some) read

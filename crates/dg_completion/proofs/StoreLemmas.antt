-- What a tick and a heard frame leave of what a chip keeps: room does not grow, and no page of a newest version is lost.
use Rattle.std.proofs.Common.{◌≡◌, ◌⊎◌, ℕ, ◌+◌, ◌-◌, ◌<◌, ◌≤◌, Bool, true, false, not, ◌&&◌, ◌||◌, cond, eqb, ltb, List, [], ◌∷◌, length, get_or, set, Option, Some, None, option_map, IfSome, Result, Ok, Err, refl, sym, ap, subst, ◌∙◌, inl, inr, arith}
use Rattle.std.proofs.lemmas.Bool.{cond_both, cases_Bool, cases_eq, cases_lt, and_parts, eq-eqb, ne_eqb, eqb-true}
use Rattle.std.proofs.lemmas.List.{get_or-set_same, get_or-set_other, get_or_past, length-append, take_all}
use Rattle.dg_words.proofs.ListLemmas.{length-tabulate}
use Rattle.dg_nor.specs.Trail.{last, resting}
use Rattle.dg_nor.proofs.TrailLemmas.{last-resting}
use Rattle.dg_nor.proofs.ThroughLemmas.{Through-last}
use Rattle.dg_nor.specs.Through.{Through}
use Rattle.dg_bits.specs.Sets.{Numbers}
use Rattle.dg_control.specs.declared.snapshot.Order.{Order}
use Rattle.dg_object.specs.Object.{Row, object, profile}
use Rattle.dg_slot.specs.Kept.{Held, held_begun, with_page}
use Rattle.dg_volume.specs.Sizes.{golden_version}
use Rattle.dg_volume.specs.Store.{Store, App, held}
use Rattle.dg_volume.specs.Table.{row_at}
use Rattle.dg_volume.specs.Agreement.{Agrees, KeepsRow}
use Rattle.dg_volume.specs.RowLaws.{SoundRows}
use Rattle.dg_volume.specs.Changes.{spent, paged, gesture_cleared}
use Rattle.dg_volume.specs.Start.{Runs, Boot, boot, boot_counted, counts, count_trail, by_gesture, order_waits, is_whole, is_set_to, kept_runs, golden_boot, golden_done, sound, held_sound, pages_sound}
use Rattle.dg_volume.specs.Ends.{BootEnds, Boots, OnTheWay, ordered_runs, order_started, golden_started, golden_runs, blanked}
use Rattle.dg_volume.specs.declared.volume.StartCause.{StartCause}
use Rattle.dg_volume.specs.declared.volume.StartCause.TheVariants as cause
use Rattle.dg_frame.specs.Grammar.{message_of}
use Rattle.dg_frame.proofs.ReadingLemmas.{wider}
use Rattle.dg_frame.specs.declared.Entry.{Entry}
use Rattle.dg_frame.specs.declared.FrameFault.{FrameFault}
use Rattle.dg_frame.specs.declared.Message.{Message}
use Rattle.dg_frame.specs.declared.Message.TheVariants as message
use Rattle.dg_mote.specs.Model.{MoteState}
use Rattle.dg_mote.specs.Summary.{entry_for, no_entry, advert_by}
use Rattle.dg_mote.specs.Adverts.{outline}
use Rattle.dg_mote.specs.Ticks.{tick_of}
use Rattle.dg_mote.specs.Hears.{by_message, heard_of}
use Rattle.dg_mote.specs.Agreement.{HonestEntry, HonestMessage, IsHonest}
use Rattle.dg_mote.specs.Changes.{MayClear, IsBehind, TakesAdvert, Completes}
use Rattle.dg_rules.proofs.BootLemmas.{waits_whole}
use Rattle.dg_completion.specs.Completion.{newest, pages_kept}
use Rattle.dg_completion.proofs.NewestLemmas.{has_newest, count}

-- room does not grow, and no page of a newest version is lost
pub record Stays (table : List Row) (s t : Store) : Type 0 where
  pub room : t.room ≤ s.room
  pub pages : (row : Row) → newest table row.image ≡ Some row → pages_kept s row ≤ pages_kept t row

pub stays_same : (table : List Row) (s : Store) → Stays table s s
stays_same table s = record { room = omega arith; pages = λ row n. omega arith }

-- what is kept stays
stays_kept : (table : List Row) (s t : Store) → t.room ≤ s.room → t.kept ≡ s.kept → Stays table s t
stays_kept table s t room kept = record { room = room; pages = λ row n. let e = ap (λ (k : List (Option Held)). count (get_or k row.image None) row.version) kept in omega (arith, e) }

pub stays_clear : (table : List Row) (s t : Store) → MayClear s t → Stays table s t
stays_clear table s t (inl e) = subst (Stays table s) (sym e) (stays_same table s)
stays_clear table s t (inr e) = subst (Stays table s) (sym e) (stays_kept table s (gesture_cleared s) (omega arith) refl)

-- ---- a start for the order

-- what is promised below of starts
pub record StartLaws : Type 0 where
  pub boots : (k : StartCause) (s : Store) → Boots s (boot k s)
  pub count : (k : StartCause) (s : Store) → last (count_trail k s) ≡ cond (counts k s) (record (spent s) { gesture = s.gesture + 1 }) s
  pub counted : (k : StartCause) (s : Store) → ((boot k s).runs ≡ (boot_counted (last (count_trail k s))).runs) × (last (boot k s).trail ≡ last (boot_counted (last (count_trail k s))).trail)
  pub chosen : (s : Store) → by_gesture s ≡ true → boot_counted s ≡ golden_boot s true
  pub order : (s : Store) → by_gesture s ≡ false → order_waits s ≡ true → sound s s.order.image ≡ true → BootEnds (boot_counted s) (ordered_runs s) (order_started s)
  pub golden_copied : (s : Store) (three : Bool) → is_set_to s.app 0 golden_version ≡ false → sound s 0 ≡ true
      → BootEnds (golden_boot s three) (kept_runs s 0 golden_version) (golden_started (blanked s) (kept_runs s 0 golden_version) three)
  pub golden_stays : (s : Store) (app : App) (three : Bool) → s.app ≡ Some app → is_set_to (Some app) 0 golden_version ≡ true
      → BootEnds (golden_boot s three) (golden_runs app) (golden_started s (golden_runs app) three)

started_room : (s : Store) (r : Runs) (three : Bool) → (golden_started s r three).room ≤ s.room
started_room s r three =
    cond_both (ltb 0 s.room && (not (is_set_to s.app 0 golden_version) || three)) (golden_done s r three) s (λ (t : Store). t.room ≤ s.room) (λ _. omega arith) (λ _. omega arith)

-- what is kept whole is sound
pub whole_sound : (table : List Row) → SoundRows table → (image version : ℕ) (o : Option Held) → IfSome o (KeepsRow table image) → is_whole o version ≡ true → held_sound o ≡ true
whole_sound table sound_rows image version None k e = cc
whole_sound table sound_rows image version (Some h) k e =
    let full = (and_parts (eqb h.version version) (eqb (length h.complete) h.pages) e).1 in
    let many : length (object k.row) ≡ length h.complete = length-tabulate (profile k.row).pages _ ∙ sym k.pages ∙ sym (eqb-true (length h.complete) h.pages full) in
    let all : h.complete ≡ object k.row = k.first ∙ take_all (length h.complete) (object k.row) (omega (arith, many)) in
    (λ i. pages_sound (k.crc i) (all i)) ∙ sound_rows image h.version k.row k.in_table

module _ (laws : StartLaws) where
  golden_room : (s : Store) → sound s 0 ≡ true → (o : Option App) → s.app ≡ o → (last (golden_boot s true).trail).room ≤ s.room
  golden_room s fine None is =
      let e = (laws.golden_copied s true (ap (λ a. is_set_to a 0 golden_version) is) fine).ends in
      omega (arith, ap (λ (t : Store). t.room) e, started_room (blanked s) (kept_runs s 0 golden_version) true)
  golden_room s fine (Some app) is = elim (cases_Bool (is_set_to (Some app) 0 golden_version)) [
    | inl set ↦
        let e = (laws.golden_stays s app true is set).ends in
        omega (arith, ap (λ (t : Store). t.room) e, started_room s (golden_runs app) true)
    | inr other ↦
        let e = (laws.golden_copied s true (ap (λ a. is_set_to a 0 golden_version) is ∙ other) fine).ends in
        omega (arith, ap (λ (t : Store). t.room) e, started_room (blanked s) (kept_runs s 0 golden_version) true)
  ]

  counted_room : (s : Store) → sound s 0 ≡ true → order_waits s ≡ true → sound s s.order.image ≡ true → (last (boot_counted s).trail).room ≤ s.room
  counted_room s golden waits fine = elim (cases_Bool (by_gesture s)) [
    | inl three ↦ let e : (last (boot_counted s).trail).room ≡ (last (golden_boot s true).trail).room = ap (λ (b : Boot). (last {S = Store} b.trail).room) (laws.chosen s three) in omega (arith, e, golden_room s golden s.app refl)
    | inr few ↦ let e = ap (λ (t : Store). t.room) (laws.order s few waits fine).ends in omega (arith, e)
  ]

  -- a start for the order, over a store that agrees
  pub stays_start : (table : List Row) (s : Store) → SoundRows table → Agrees table s → order_waits s ≡ true → Stays table s (last (boot cause.Order s).trail)
  stays_start table s rows agrees waits =
      let way = Through-last (OnTheWay s (boot cause.Order s).runs) (boot cause.Order s).trail (laws.boots cause.Order s).way in
      let golden : sound s 0 ≡ true = ap held_sound agrees.golden.2 ∙ rows 0 golden_version agrees.golden.0 agrees.golden.1 in
      let image = s.order.image in
      let fine : sound s image ≡ true = whole_sound table rows image s.order.version (held s image) (agrees.kept image) (waits_whole s waits) in
      let same : last (boot cause.Order s).trail ≡ last (boot_counted s).trail = (laws.counted cause.Order s).1 ∙ ap (λ c. last (boot_counted c).trail) (laws.count cause.Order s) in
      let e = ap (λ (t : Store). t.room) same in
      stays_kept table s (last (boot cause.Order s).trail) (omega (arith, e, counted_room s golden waits fine)) way.kept

-- ---- frames

-- what is kept of an image outside the range
count_past : (s : Store) (i v : ℕ) → length s.kept ≤ i → count (held s i) v ≡ 0
count_past s i v h = ap (λ o. count o v) (get_or_past s.kept i None h)

-- an entry of which the advertiser has a page belongs to a row
entry_row : (table : List Row) (i : ℕ) (e : Entry) → HonestEntry table i e → 1 ≤ e.have → (row : Row) × (row_at table i e.version ≡ Some row)
entry_row table i e (inl none) some = absurd (omega (arith, some, ap (λ (x : Entry). x.have) none))
entry_row table i e (inr row) some = (row.0, row.1)

-- nothing is kept of the newest version where the entry is newer
older_count : (o : Option Held) (n v : ℕ) → IfSome o (λ h. h.version < n) → n ≤ v → count o v ≡ 0
older_count None n v older low = refl
older_count (Some h) n v older low = ap (λ c. cond c (length h.complete) 0) (ne_eqb h.version v (λ e. omega (arith, older, low, e)))

behind_count : (table : List Row) (entries : List Entry) (i : ℕ) (row : Row) (o : Option Held) → newest table i ≡ Some row
    → ((k : ℕ) → 1 ≤ k → k ≤ length entries → HonestEntry table k (entry_for entries k)) → 1 ≤ i → IsBehind (entry_for entries i) o → count o row.version ≡ 0
behind_count table entries i row o is honest low behind = elim (cases_lt (length entries) i) [
  | inl past ↦
      let e : entry_for entries i ≡ no_entry = get_or_past entries (i - 1) no_entry (omega (arith, past)) in
      absurd (omega (arith, behind.some, ap (λ (x : Entry). x.have) e))
  | inr there ↦
      let found = entry_row table i (entry_for entries i) (honest i low (omega (arith, there))) behind.some in
      let m = has_newest table i (entry_for entries i).version found.0 found.1 in
      let twice : Some m.row ≡ Some row = sym m.is ∙ is in
      let same : m.row ≡ row = cc in
      older_count o (entry_for entries i).version row.version behind.older (omega (arith, m.bound, ap (λ (r : Row). r.version) same))
]

-- only what is kept of one image changes
stays_but : (table : List Row) (s t : Store) (image : ℕ) (here : Option Held) → t.room ≤ s.room → t.kept ≡ set s.kept image here
    → ((row : Row) → newest table row.image ≡ Some row → row.image ≡ image → count (held s image) row.version ≤ count here row.version) → Stays table s t
stays_but table s t image here room kept more = record { room = room; pages = each }
  where
    each : (row : Row) → newest table row.image ≡ Some row → count (held s row.image) row.version ≤ count (held t row.image) row.version
    each row n = elim (cases_eq row.image image) [
      | inr other ↦
          let e : held t row.image ≡ held s row.image = ap (λ (k : List (Option Held)). get_or k row.image None) kept ∙ get_or-set_other s.kept image row.image here None other in
          omega (arith, ap (λ o. count o row.version) e)
      | inl same ↦ elim (cases_lt row.image (length s.kept)) [
        | inr past ↦ omega (arith, count_past s row.image row.version (omega (arith, past)))
        | inl there ↦
            let e : held t row.image ≡ here = ap (λ (k : List (Option Held)). get_or k row.image None) kept ∙ ap (λ k. get_or (set s.kept image here) k None) same ∙ get_or-set_same s.kept image here None (omega (arith, there, same)) in
            omega (arith, ap (λ o. count o row.version) e, ap (λ k. count (held s k) row.version) same, more row n same)
      ]
    ]

stays_better : (table : List Row) (entries : List Entry) (order : Order) (s t : Store) → ((k : ℕ) → 1 ≤ k → k ≤ length entries → HonestEntry table k (entry_for entries k))
    → TakesAdvert entries order false s t → Stays table s t
stays_better table entries order s t honest h = stays_but table s t h.image h.here h.room h.kept (more h.change)
  where
    more : (h.here ≡ held s h.image) ⊎ (IsBehind (entry_for entries h.image) (held s h.image) × ((h.here ≡ Some (held_begun (outline h.image (entry_for entries h.image)))) ⊎ ((false ≡ true) × (h.here ≡ None)))) → (row : Row) → newest table row.image ≡ Some row → row.image ≡ h.image
        → count (held s h.image) row.version ≤ count h.here row.version
    more (inl e) row n same = omega (arith, ap (λ o. count o row.version) e)
    more (inr b) row n same = omega (arith, behind_count table entries h.image row (held s h.image) (ap (newest table) (sym same) ∙ n) honest h.not_golden b.0)

paged_count : (o : Option Held) (page : List ℕ) (v : ℕ) → count o v ≤ count (option_map (λ h. with_page h page) o) v
paged_count None page v = omega arith
paged_count (Some h) page v = elim (cases_eq h.version v) [
  | inl e ↦ omega (arith, ap (λ c. cond c (length h.complete) 0) (eq-eqb h.version v e), ap (λ c. cond c (length (with_page h page).complete) 0) (eq-eqb h.version v e), length-append h.complete (page ∷ []))
  | inr e ↦ omega (arith, ap (λ c. cond c (length h.complete) 0) (ne_eqb h.version v e))
]

stays_paged : (table : List Row) (s : Store) (image : ℕ) (page : List ℕ) → Stays table s (paged image page s)
stays_paged table s image page =
    stays_but table s (paged image page s) image (option_map (λ h. with_page h page) (held s image)) (omega arith) refl (λ row n e. paged_count (held s image) page row.version)

-- what is promised below of frames
pub record ChangeLaws : Type 0 where
  pub ticked : (m : MoteState) (s : Store) (now word : ℕ) → Through (MayClear s) (tick_of m s now word).trail
  pub advert : (m : MoteState) (s : Store) (now word : ℕ) (bytes : List ℕ) (wide : Bool) (source : ℕ) (entries : List Entry) (order : Order) → message_of bytes m.wide ≡ Ok (advert_by wide source entries order)
      → Through (TakesAdvert entries order true s) (heard_of m s now word bytes).trail × TakesAdvert entries order false s (last (heard_of m s now word bytes).trail)
  pub request : (m : MoteState) (s : Store) (now word : ℕ) (bytes : List ℕ) (source to image version page : ℕ) (want : Numbers) → message_of bytes m.wide ≡ Ok (message.Request source to image version page want)
      → (heard_of m s now word bytes).trail ≡ resting s 0
  pub packet : (m : MoteState) (s : Store) (now word : ℕ) (bytes : List ℕ) (source image version page q : ℕ) (content : List ℕ) → message_of bytes m.wide ≡ Ok (message.Packet source image version page q content)
      → Through (λ t. (t ≡ s) ⊎ Completes m.mode image version page q s t) (heard_of m s now word bytes).trail

-- what a mote reads of an honest frame is honest
read_honest : (table : List Row) (wide : Bool) (bytes : List ℕ) (r : Result Message FrameFault) → message_of bytes wide ≡ r → IsHonest table bytes → HonestMessage table r
read_honest table wide bytes (Err fault) is honest = tt
read_honest table true bytes (Ok heard) is honest = subst (HonestMessage table) is honest
read_honest table false bytes (Ok heard) is honest = subst (HonestMessage table) (wider bytes heard is) honest

-- an honest frame, whatever it is
pub stays_heard : ChangeLaws → (table : List Row) (m : MoteState) (s : Store) (now word : ℕ) (bytes : List ℕ) → IsHonest table bytes → Stays table s (last (heard_of m s now word bytes).trail)
unfolding heard_of
stays_heard laws table m s now word bytes honest = by_read (message_of bytes m.wide) refl (read_honest table m.wide bytes (message_of bytes m.wide) refl honest)
  where
    after : Store
    after = last (heard_of m s now word bytes).trail

    by_read : (r : Result Message FrameFault) → message_of bytes m.wide ≡ r → HonestMessage table r → Stays table s after
    by_read (Err fault) is honest = subst (λ (r : Result Message FrameFault). Stays table s (last (by_message r m s now word).trail)) (sym is) (subst (Stays table s) (sym (last-resting s 0)) (stays_same table s))
    by_read (Ok (message.Advert source entries order)) is honest = stays_better table entries order s after honest (laws.advert m s now word bytes false source entries order is).1
    by_read (Ok (message.Wide source entries order)) is honest = stays_better table entries order s after honest (laws.advert m s now word bytes true source entries order is).1
    by_read (Ok (message.Request source to image version page want)) is honest =
        subst (Stays table s) (sym (ap last (laws.request m s now word bytes source to image version page want is) ∙ last-resting s 0)) (stays_same table s)
    by_read (Ok (message.Packet source image version page q content)) is honest =
        by_case (Through-last (λ t. (t ≡ s) ⊎ Completes m.mode image version page q s t) (heard_of m s now word bytes).trail (laws.packet m s now word bytes source image version page q content is))
      where
        by_case : (after ≡ s) ⊎ Completes m.mode image version page q s after → Stays table s after
        by_case (inl e) = subst (Stays table s) (sym e) (stays_same table s)
        by_case (inr c) = subst (Stays table s) (sym c.paged_is) (stays_paged table s image c.content)

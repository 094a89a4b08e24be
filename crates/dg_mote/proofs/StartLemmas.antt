-- Starts over agreeing stores: there is an image to start, and it is a row of the table.
use Rattle.std.proofs.Common.{◌≡◌, ℕ, ◌+◌, Bool, true, false, ◌&&◌, not, cond, List, length, Option, Some, None, IfSome, refl, sym, ap, subst, ◌∙◌, inl, inr, arith}
use Rattle.std.specs.Prelude.{◌==◌, nat_le}
use Rattle.std.proofs.lemmas.Bool.{cases_Bool, and_parts, eqb-true}
use Rattle.std.proofs.lemmas.List.{take_all}
use Rattle.dg_nor.specs.Trail.{last}
use Rattle.dg_object.specs.Object.{Row, object, profile}
use Rattle.dg_slot.specs.Kept.{Held}
use Rattle.dg_volume.specs.Sizes.{golden_version, short_starts}
use Rattle.dg_volume.specs.Store.{App, Store, held}
use Rattle.dg_volume.specs.Changes.{spent}
use Rattle.dg_volume.specs.Start.{Runs, Boot, boot, counts, count_trail, boot_counted, by_gesture, order_waits, golden_boot, kept_runs, complete_pages, is_whole, is_set_to, pages_sound, held_sound, sound, app_of}
use Rattle.dg_volume.specs.Ends.{blanked, ordered_runs, order_started, golden_started, golden_runs, app_runs, BootEnds}
use Rattle.dg_volume.specs.RowLaws.{SoundRows}
use Rattle.dg_volume.specs.Table.{row_at}
use Rattle.dg_volume.specs.Agreement.{HoldsRow, Agrees}
use Rattle.dg_volume.specs.declared.volume.StartCause.{StartCause}
use Rattle.dg_mote.proofs.RowLemmas.{keeps_row}

-- what lower crates promise of starts and of rows
pub record BootLaws (table : List Row) : Type 0 where
  pub count : (k : StartCause) (s : Store) → last (count_trail k s) ≡ cond (counts k s) (record (spent s) { gesture = s.gesture + 1 }) s
  pub counted : (k : StartCause) (s : Store) → ((boot k s).runs ≡ (boot_counted (last (count_trail k s))).runs) × (last (boot k s).trail ≡ last (boot_counted (last (count_trail k s))).trail)
  pub gesture : (s : Store) → by_gesture s ≡ true → boot_counted s ≡ golden_boot s true
  pub order : (s : Store) → by_gesture s ≡ false → order_waits s ≡ true → sound s s.order.image ≡ true → BootEnds (boot_counted s) (ordered_runs s) (order_started s)
  pub kept : (s : Store) (app : App) → by_gesture s ≡ false → order_waits s ≡ false → s.app ≡ Some app → BootEnds (boot_counted s) (app_runs app) s
  pub blank : (s : Store) → by_gesture s ≡ false → order_waits s ≡ false → s.app ≡ None → boot_counted s ≡ golden_boot s (s.gesture == short_starts)
  pub copied : (s : Store) (three : Bool) → is_set_to s.app 0 golden_version ≡ false → sound s 0 ≡ true
      → BootEnds (golden_boot s three) (kept_runs s 0 golden_version) (golden_started (blanked s) (kept_runs s 0 golden_version) three)
  pub stays : (s : Store) (app : App) (three : Bool) → s.app ≡ Some app → is_set_to (Some app) 0 golden_version ≡ true → BootEnds (golden_boot s three) (golden_runs app) (golden_started s (golden_runs app) three)
  pub rows_sound : SoundRows table
  pub pages : (row : Row) → length (object row) ≡ (profile row).pages

-- an image of which this version is kept whole is the row's, and sound
record KeepsWhole (table : List Row) (s : Store) (image version : ℕ) : Type 0 where
  row : Row
  in_table : row_at table image version ≡ Some row
  pages : complete_pages (held s image) ≡ object row
  is_sound : sound s image ≡ true

module _ (table : List Row) (laws : BootLaws table) where
  -- what starts is a row of the table
  abbrev pub Starts : Boot → Type 0
  Starts b = (r : Runs) × (b.runs ≡ Some r) × HoldsRow table (app_of r)

  whole_by : (o : Option Held) (s : Store) (image version : ℕ) → Agrees table s → held s image ≡ o → is_whole o version ≡ true → KeepsWhole table s image version
  whole_by None s image version a here is = cc
  whole_by (Some h) s image version a here is =
      let k = keeps_row table s image h a here in
      let parts = and_parts (h.version == version) (length h.complete == h.pages) is in
      let in_table : row_at table image version ≡ Some k.row = ap (row_at table image) (sym (eqb-true h.version version parts.0)) ∙ k.in_table in
      let complete : h.complete ≡ object k.row = k.first ∙ take_all (length h.complete) (object k.row) (omega (arith, eqb-true (length h.complete) h.pages parts.1, k.pages, laws.pages k.row)) in
      record {
        row = k.row;
        in_table = in_table;
        pages = ap complete_pages here ∙ complete;
        is_sound = ap (λ (o : Option Held). held_sound o) here ∙ (λ i. pages_sound (k.crc i) (complete i)) ∙ laws.rows_sound image version k.row in_table;
      }

  golden_whole : (s : Store) → Agrees table s → KeepsWhole table s 0 golden_version
  golden_whole s a =
      record {
        row = a.golden.0;
        in_table = a.golden.1;
        pages = ap complete_pages a.golden.2;
        is_sound = ap (λ (o : Option Held). held_sound o) a.golden.2 ∙ laws.rows_sound 0 golden_version a.golden.0 a.golden.1;
      }

  waits_whole : (s : Store) → Agrees table s → order_waits s ≡ true → KeepsWhole table s s.order.image s.order.version
  waits_whole s a waits =
      let rest = is_whole (held s s.order.image) s.order.version && (not (is_set_to s.app s.order.image s.order.version) && nat_le 2 s.room) in
      let one = and_parts (not (s.order.number == 0)) (not s.waived && rest) waits in
      let two = and_parts (not s.waived) rest one.1 in
      let three = and_parts (is_whole (held s s.order.image) s.order.version) (not (is_set_to s.app s.order.image s.order.version) && nat_le 2 s.room) two.1 in
      whole_by (held s s.order.image) s s.order.image s.order.version a refl three.0

  holds_kept : (s : Store) (image version : ℕ) → KeepsWhole table s image version → HoldsRow table (app_of (kept_runs s image version))
  holds_kept s image version k = record { row = k.row; in_table = k.in_table; pages = k.pages }

  holds_app : (s : Store) (app : App) → Agrees table s → s.app ≡ Some app → HoldsRow table app
  holds_app s app a is = subst (λ (o : Option App). IfSome o (HoldsRow table)) is a.app

  stays_starts : (o : Option App) (s : Store) (three : Bool) → Agrees table s → s.app ≡ o → is_set_to o 0 golden_version ≡ true → Starts (golden_boot s three)
  stays_starts None s three a is set_to = cc
  stays_starts (Some app) s three a is set_to =
      let h = holds_app s app a is in
      let parts = and_parts (app.image == 0) (app.version == golden_version) set_to in (
        golden_runs app,
        (laws.stays s app three is set_to).started,
        record { row = h.row; in_table = (λ i. row_at table (sym (eqb-true app.image 0 parts.0) i) (sym (eqb-true app.version golden_version parts.1) i)) ∙ h.in_table; pages = h.pages },
      )

  golden_starts : (s : Store) (three : Bool) → Agrees table s → Starts (golden_boot s three)
  golden_starts s three a =
      elim (cases_Bool (is_set_to s.app 0 golden_version)) [
        | inl set_to ↦ stays_starts s.app s three a refl set_to
        | inr other ↦
            let k = golden_whole s a in
            (kept_runs s 0 golden_version, (laws.copied s three other k.is_sound).started, holds_kept s 0 golden_version k)
      ]

  kept_starts : (o : Option App) (s : Store) → Agrees table s → by_gesture s ≡ false → order_waits s ≡ false → s.app ≡ o → Starts (boot_counted s)
  kept_starts None s a gesture waits is = subst Starts (sym (laws.blank s gesture waits is)) (golden_starts s (s.gesture == short_starts) a)
  kept_starts (Some app) s a gesture waits is =
      let h = holds_app s app a is in (app_runs app, (laws.kept s app gesture waits is).started, record { row = h.row; in_table = h.in_table; pages = h.pages })

  counted_starts : (s : Store) → Agrees table s → Starts (boot_counted s)
  counted_starts s a =
      elim (cases_Bool (by_gesture s)) [
        | inl golden ↦ subst Starts (sym (laws.gesture s golden)) (golden_starts s true a)
        | inr gesture ↦ elim (cases_Bool (order_waits s)) [
          | inl waits ↦
              let k = waits_whole s a waits in
              (ordered_runs s, (laws.order s gesture waits k.is_sound).started, holds_kept s s.order.image s.order.version k)
          | inr kept ↦ kept_starts s.app s a gesture kept refl
        ]
      ]

  counted_agrees : (b : Bool) (s : Store) (n : ℕ) → Agrees table s → Agrees table (cond b (record (spent s) { gesture = n }) s)
  counted_agrees true s n a = record { golden = a.golden; kept = a.kept; app = a.app }
  counted_agrees false s n a = a

  pub boot_starts : (k : StartCause) (s : Store) → Agrees table s → Starts (boot k s)
  boot_starts k s a =
      let x = counted_starts (last (count_trail k s)) (subst (λ (t : Store). Agrees table t) (sym (laws.count k s)) (counted_agrees (counts k s) s (s.gesture + 1) a)) in
      (x.0, (laws.counted k s).0 ∙ x.1, x.2)

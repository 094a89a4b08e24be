-- Trails that go through agreeing stores.
use Rattle.std.proofs.Common.{◌≡◌, ℕ, ◌<◌, ◌≤◌, true, List, [], ◌∷◌, ◌++◌, take, drop, length, Option, Some, None, IfSome, refl, sym, ap, subst, ◌∙◌, arith}
use Rattle.dg_volume.proofs.HeldLemmas.{each_keeping, golden_held, held_paged}
use Rattle.std.proofs.Math.ListN.{length-set}
use Rattle.std.proofs.Math.Seq.{take-append_seam, take-length}
use Rattle.std.proofs.lemmas.Bool.{eqb-true, and_parts}
use Rattle.std.proofs.lemmas.Option.{same_Some}
use Rattle.std.proofs.lemmas.List.{append_assoc, take-append-drop}
use Rattle.std.specs.Prelude.{◌==◌, option_map}
use Rattle.dg_words.proofs.ListLemmas.{length-tabulate}
use Rattle.dg_nor.specs.Through.{Through}
use Rattle.dg_object.specs.Object.{Row, object, profile, pages_for, page_of_row}
use Rattle.dg_slot.specs.Kept.{Held, held_begun, with_page}
use Rattle.dg_volume.specs.Sizes.{golden_version}
use Rattle.dg_volume.specs.Store.{Store, App, held}
use Rattle.dg_volume.specs.Changes.{keeping, paged, is_version}
use Rattle.dg_volume.specs.Trails.{fill_trail, inject_trail, done_of}
use Rattle.dg_volume.specs.Table.{row_at}
use Rattle.dg_volume.specs.Agreement.{KeepsRow, HoldsRow, Agrees}
use Rattle.dg_volume.specs.Start.{complete_pages, is_whole, is_set_to, app_of, kept_runs}
use Rattle.dg_volume.proofs.StayLemmas.{Stays, fill_through, inject_through as inject_as}
use Rattle.dg_volume.proofs.BootLemmas.{Loads, whole_of}

-- ---- stores

pub agrees_stays : (table : List Row) → Stays (Agrees table) (HoldsRow table)
agrees_stays table = record {
  memory = λ s a. a.app;
  loaded = λ s t kept app a.
      record {
        golden = (a.golden.0, a.golden.1, ap (λ (xs : List (Option Held)). Rattle.std.specs.Prelude.slice_index_or xs 0 None) kept ∙ a.golden.2);
        kept = subst (λ (xs : List (Option Held)). (i : ℕ) → IfSome (Rattle.std.specs.Prelude.slice_index_or xs i None) (KeepsRow table i)) (sym kept) a.kept;
        app = app;
      };
}

pub agrees_keeping : (table : List Row) (s : Store) (i : ℕ) (o : Option Held) → 1 ≤ i → i < length s.kept → IfSome o (KeepsRow table i) → Agrees table s → Agrees table (keeping i o s)
agrees_keeping table s i o low within keeps a = record {
  golden = (a.golden.0, a.golden.1, golden_held s i o low ∙ a.golden.2);
  kept = each_keeping (λ j x. IfSome x (KeepsRow table j)) s i o within keeps (λ j other. a.kept j);
  app = a.app;
}

pub begun_keeps : (table : List Row) (row : Row) → row_at table row.image row.version ≡ Some row → KeepsRow table row.image (held_begun (profile row))
begun_keeps table row in_table = record { row = row; in_table = in_table; pages = refl; crc = refl; first = refl }

-- ---- pages that are filled

-- what is kept of a row's image, if its pages and the missing ones make the object
pub record Part (table : List Row) (s : Store) (row : Row) (h : Held) (pages : List (List ℕ)) : Type 0 where
  pub here : held s row.image ≡ Some h
  pub version : h.version ≡ row.version
  pub count : h.pages ≡ (profile row).pages
  pub crc : h.crc ≡ (profile row).crc
  pub split : h.complete ++ pages ≡ object row

part_keeps : (table : List Row) (s : Store) (row : Row) (h : Held) (pages : List (List ℕ)) → row_at table row.image row.version ≡ Some row → Part table s row h pages → KeepsRow table row.image h
part_keeps table s row h pages in_table p = record {
  row = row;
  in_table = ap (row_at table row.image) p.version ∙ in_table;
  pages = p.count;
  crc = p.crc;
  first = sym (take-append_seam h.complete pages) ∙ ap (take (length h.complete)) p.split;
}

part_next : (table : List Row) (s : Store) (row : Row) (h : Held) (page : List ℕ) (pages : List (List ℕ)) → row.image < length s.kept → Part table s row h (page ∷ pages) → Part table (paged row.image page s) row (with_page h page) pages
part_next table s row h page pages within p = record {
  here = held_paged s row.image h page within p.here;
  version = p.version;
  count = p.count;
  crc = p.crc;
  split = append_assoc h.complete (page ∷ []) pages ∙ p.split;
}

pub paged_agrees : (table : List Row) (s : Store) (row : Row) (h : Held) (page : List ℕ) (pages : List (List ℕ)) → 1 ≤ row.image → row.image < length s.kept → row_at table row.image row.version ≡ Some row → Part table s row h (page ∷ pages) → Agrees table s
    → Agrees table (paged row.image page s)
paged_agrees table s row h page pages low within in_table p a =
    let o = option_map (λ x. with_page x page) (held s row.image) in
    let is : o ≡ Some (with_page h page) = ap (option_map (λ x. with_page x page)) p.here in
    agrees_keeping table s row.image o low within
    (subst (λ (x : Option Held). IfSome x (KeepsRow table row.image)) (sym is) (part_keeps table (paged row.image page s) row (with_page h page) pages in_table (part_next table s row h page pages within p))) a

module _ (table : List Row) (row : Row) (in_table : row_at table row.image row.version ≡ Some row) where
  -- the missing pages of the row
  abbrev Left : List (List ℕ) → Store → Type 0
  Left pages s = (row.image < length s.kept) × (h : Held) × Part table s row h pages

  left_through : 1 ≤ row.image → (pages : List (List ℕ)) (s : Store) → Left pages s → Agrees table s → Through (Agrees table) (fill_trail s row.image pages)
  left_through low = fill_through (Agrees table) (HoldsRow table) (agrees_stays table) (KeepsRow table) (agrees_keeping table) row.image Left
      (λ s page pages left a. (
        paged_agrees table s row left.1 page pages low left.0 in_table left.2 a,
        (
          omega (arith, left.0, length-set s.kept row.image (option_map (λ x. with_page x page) (held s row.image))),
          with_page left.1 page,
          part_next table s row left.1 page pages left.0 left.2,
        ),
      ))

  rest_left : (s : Store) (o : Option Held) → held s row.image ≡ o → is_version o row.version ≡ true → row.image < length s.kept → Agrees table s → Left (drop (done_of o) (object row)) s
  rest_left s None here is within a = cc
  rest_left s (Some h) here is within a =
      let version : h.version ≡ row.version = eqb-true h.version row.version is in
      let k : KeepsRow table row.image h = subst (λ (x : Option Held). IfSome x (KeepsRow table row.image)) here (a.kept row.image) in
      let same : k.row ≡ row = same_Some k.row row (sym k.in_table ∙ ap (row_at table row.image) version ∙ in_table) in (
        within,
        h,
        record {
          here = here;
          version = version;
          count = k.pages ∙ ap (λ (r : Row). (profile r).pages) same;
          crc = k.crc ∙ ap (λ (r : Row). (profile r).crc) same;
          split = ap (λ (xs : List (List ℕ)). xs ++ drop (length h.complete) (object row)) (k.first ∙ ap (λ (r : Row). take (length h.complete) (object r)) same) ∙ take-append-drop (length h.complete) (object row);
        },
      )

  pub inject_through : (s : Store) → row.image < length s.kept → Agrees table s → Through (Agrees table) (inject_trail s row)
  inject_through s within a = inject_as (Agrees table) (HoldsRow table) (agrees_stays table) (KeepsRow table) (agrees_keeping table) s row within (begun_keeps table row in_table)
      (λ low free version. left_through low _ s (rest_left s (held s row.image) refl version within a) a)
      (λ low t known here agrees. left_through low (object row) t (known, held_begun (profile row), record { here = here; version = refl; count = refl; crc = refl; split = refl }) agrees)
      a

-- ---- what a start loads

module _ (table : List Row) where
  golden_holds : (s : Store) → Agrees table s → HoldsRow table (app_of (kept_runs s 0 golden_version))
  golden_holds s a = record { row = a.golden.0; in_table = a.golden.1; pages = ap complete_pages a.golden.2 }

  whole_holds_by : (image version : ℕ) (o : Option Held) → is_whole o version ≡ true → IfSome o (KeepsRow table image) → HoldsRow table (record { image = image; version = version; pages = complete_pages o })
  whole_holds_by image version None is keeps = cc
  whole_holds_by image version (Some h) is keeps =
      let same : h.version ≡ version = eqb-true h.version version ((and_parts (h.version == version) (length h.complete == h.pages) is).0) in
      let all : length h.complete ≡ h.pages = eqb-true (length h.complete) h.pages ((and_parts (h.version == version) (length h.complete == h.pages) is).1) in
      let many : length h.complete ≡ length (object keeps.row) = all ∙ keeps.pages ∙ sym (length-tabulate (pages_for (length keeps.row.bytes)) (page_of_row keeps.row)) in
      record {
        row = keeps.row;
        in_table = ap (row_at table image) (sym same) ∙ keeps.in_table;
        pages = keeps.first ∙ ap (λ (n : ℕ). take n (object keeps.row)) many ∙ take-length (object keeps.row);
      }

  stays_holds : (app : App) → is_set_to (Some app) 0 golden_version ≡ true → HoldsRow table app → HoldsRow table (record { image = 0; version = golden_version; pages = app.pages })
  stays_holds app is h =
      let image : app.image ≡ 0 = eqb-true app.image 0 ((and_parts (app.image == 0) (app.version == golden_version) is).0) in
      let version : app.version ≡ golden_version = eqb-true app.version golden_version ((and_parts (app.image == 0) (app.version == golden_version) is).1) in
      record { row = h.row; in_table = ap (λ (i : ℕ). row_at table i golden_version) (sym image) ∙ ap (row_at table app.image) (sym version) ∙ h.in_table; pages = h.pages }

  pub agrees_loads : Loads (Agrees table) (HoldsRow table)
  agrees_loads = record {
    golden = λ s fits a. golden_holds s a;
    ordered = λ s waits fits a. whole_holds_by s.order.image s.order.version (held s s.order.image) (whole_of s waits) (a.kept s.order.image);
    stays = stays_holds;
  }

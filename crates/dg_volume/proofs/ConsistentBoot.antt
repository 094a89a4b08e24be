-- What a start of a consistent store loads is sound.
use Rattle.std.proofs.Common.{◌≡◌, ◌<◌, ℕ, true, List, [], ◌∷◌, length, Option, Some, None, IfSome, sym, ap, subst, ◌∙◌, arith}
use Rattle.std.proofs.lemmas.Bool.{eqb-true, and_parts}
use Rattle.std.specs.Prelude.{◌==◌}
use Rattle.std.proofs.lemmas.Bool.Decides.{nat_tests}
use Rattle.dg_object.proofs.RowLemmas.{length-object}
use Rattle.dg_object.specs.Object.{Row, object}
use Rattle.dg_slot.specs.Kept.{Held}
use Rattle.dg_volume.specs.Sizes.{golden_version}
use Rattle.dg_volume.specs.Store.{Store, App, held, held_whole}
use Rattle.dg_volume.specs.Consistent.{IsSoundSoFar, IsSoundApp, Consistent}
use Rattle.dg_volume.specs.Start.{complete_pages, is_whole, is_set_to, app_of, kept_runs, sound, held_sound, pages_sound}
use Rattle.dg_volume.proofs.BootLemmas.{Loads, whole_of}

module _ (golden : Row) where
  sound_some : (crc : ℕ) (pages : List (List ℕ)) → pages_sound crc pages ≡ true → 0 < length pages
  sound_some crc [] e = cc
  sound_some crc (first ∷ rest) e = omega arith

  whole_holds_by : (image version : ℕ) (o : Option Held) → is_whole o version ≡ true → held_sound o ≡ true → IfSome o (IsSoundSoFar image) → (image ≡ 0 → complete_pages o ≡ object golden) → IsSoundApp golden (record { image = image; version = version; pages = complete_pages o })
  whole_holds_by image version None is fits keeps zero = cc
  whole_holds_by image version (Some h) is fits keeps zero =
      let same : h.version ≡ version = eqb-true h.version version ((and_parts (h.version == version) (length h.complete == h.pages) is).0) in
      let all : length h.complete ≡ h.pages = eqb-true (length h.complete) h.pages ((and_parts (h.version == version) (length h.complete == h.pages) is).1) in
      let d = (keeps.first (sound_some h.crc h.complete fits)).described in
      record { described = (d.0, d.1, d.2, d.3 ∙ same, d.4 ∙ sym all); rest = keeps.rest; golden = zero }

  golden_whole : (version : ℕ) (o : Option Held) → golden.version ≡ version → o ≡ Some (held_whole golden) → is_whole o version ≡ true
  golden_whole version o v e =
      let many = length-object golden in
      subst (λ (x : Option Held). is_whole x version ≡ true) (sym e) (grind (arith, nat_tests))

  golden_holds : (s : Store) → sound s 0 ≡ true → Consistent golden s → IsSoundApp golden (app_of (kept_runs s 0 golden_version))
  golden_holds s fits a = whole_holds_by 0 golden_version (held s 0) (golden_whole golden_version (held s 0) a.version a.golden) fits (a.kept 0) (λ _. ap complete_pages a.golden)

  stays_holds : (app : App) → is_set_to (Some app) 0 golden_version ≡ true → IsSoundApp golden app → IsSoundApp golden (record { image = 0; version = golden_version; pages = app.pages })
  stays_holds app is h =
      let image : app.image ≡ 0 = eqb-true app.image 0 ((and_parts (app.image == 0) (app.version == golden_version) is).0) in
      let version : app.version ≡ golden_version = eqb-true app.version golden_version ((and_parts (app.image == 0) (app.version == golden_version) is).1) in
      let d = h.described in
      record { described = (d.0, d.1, d.2 ∙ image, d.3 ∙ version, d.4); rest = h.rest; golden = λ _. h.golden image }

  pub consistent_loads : Loads (Consistent golden) (IsSoundApp golden)
  consistent_loads = record {
    golden = golden_holds;
    ordered = λ s waits fits a. whole_holds_by s.order.image s.order.version (held s s.order.image) (whole_of s waits) fits (a.kept s.order.image)
        (λ zero. ap (λ (i : ℕ). complete_pages (held s i)) zero ∙ ap complete_pages a.golden);
    stays = stays_holds;
  }

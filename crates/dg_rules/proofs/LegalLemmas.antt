-- What an event may change of the small state.
use Rattle.std.proofs.Common.{◌≡◌, ◌⊎◌, ℕ, true, false, List, length, map, Option, Some, None, option_map, IfSome, refl, sym, ap, subst, ◌∙◌, inl, inr, ⊎_elim, eqb-true}
use Rattle.std.proofs.Math.ListN.{get_or-map}
use Rattle.std.proofs.lemmas.Bool.{and_parts}
use Rattle.std.specs.Prelude.{◌==◌, take}
use Rattle.std.proofs.Math.Seq.{take-length}
use Rattle.dg_words.proofs.ListLemmas.{length-tabulate}
use Rattle.dg_nor.specs.Trail.{last}
use Rattle.dg_nor.specs.Through.{Through}
use Rattle.dg_nor.proofs.ThroughLemmas.{Through-last}
use Rattle.dg_object.specs.Object.{Row, IsRow, object, pages_for, page_of_row}
use Rattle.dg_slot.specs.Kept.{Held}
use Rattle.dg_volume.specs.Store.{Store, App, held, held_whole}
use Rattle.dg_volume.specs.Start.{Runs, boot, order_waits, is_whole, app_of, kept_runs}
use Rattle.dg_volume.specs.Ends.{OnTheWay, Boots}
use Rattle.dg_volume.specs.Table.{row_at, IsTable}
use Rattle.dg_volume.specs.Agreement.{KeepsRow, Agrees}
use Rattle.dg_volume.specs.RowLaws.{RowLaws}
use Rattle.dg_volume.specs.declared.volume.StartCause.{StartCause}
use Rattle.dg_volume.specs.declared.volume.StartCause.TheVariants as cause
use Rattle.dg_mote.specs.Model.{MoteState}
use Rattle.dg_base.specs.declared.events.ImageVersion.{ImageVersion}
use Rattle.dg_rules.specs.World.{Site, Running}
use Rattle.dg_rules.specs.Small.{Holding, SmallMote, holding, app_image_version, small_mote, holds, whole}
use Rattle.dg_rules.specs.Events.{image_version_of}
use Rattle.dg_rules.specs.Legal.{HoldsWholeRow, MayStart, OrdersWholeRow, LegalStart, LegalTick, CutStart}
use Rattle.dg_rules.proofs.ThroughLemmas.{Through-map}
use Rattle.dg_rules.proofs.TableLemmas.{row_at-image_version, row_at-each}
use Rattle.dg_rules.proofs.BootLemmas.{IsWaiting, MayRun, IsSettled, boot_start, order_alone, waits_whole, waits_some}

-- a mote with what runs
abbrev pub mote : Store → Option Running → SmallMote
mote s runs = small_mote (record { store = s; runs = runs })

pub holds_at : (x : Site) (i : ℕ) → holds (small_mote x) i ≡ option_map holding (held x.store i)
holds_at x i = get_or-map (option_map holding) x.store.kept i None

-- ---- an image that is kept whole

-- what a row's image is if it is whole
pub record Whole (table : List Row) (image version : ℕ) (o : Option Held) : Type 0 where
  pub row : Row
  pub in_table : row_at table image version ≡ Some row
  pub is : o ≡ Some (held_whole row)

same_held_as : (a b : Held) → a.version ≡ b.version → a.pages ≡ b.pages → a.crc ≡ b.crc → a.complete ≡ b.complete → a ≡ b
same_held_as a b version pages crc complete i = record { version = version i; pages = pages i; crc = crc i; complete = complete i }

whole_by : (table : List Row) (image version : ℕ) (o : Option Held) → is_whole o version ≡ true → IfSome o (KeepsRow table image) → Whole table image version o
whole_by table image version None is keeps = absurd cc
whole_by table image version (Some h) is keeps =
    let parts = and_parts (h.version == version) (length h.complete == h.pages) is in
    let same : h.version ≡ version = eqb-true h.version version parts.0 in
    let all : length h.complete ≡ h.pages = eqb-true (length h.complete) h.pages parts.1 in
    let row = keeps.row in
    let many : length h.complete ≡ length (object row) = all ∙ keeps.pages ∙ sym (length-tabulate (pages_for (length row.bytes)) (page_of_row row)) in
    let own = row_at-image_version table image h.version row keeps.in_table in
    record {
      row = row;
      in_table = ap (row_at table image) (sym same) ∙ keeps.in_table;
      is = ap (λ (x : Held). Some x)
          (same_held_as h (held_whole row) (sym own.1) keeps.pages keeps.crc (keeps.first ∙ ap (λ (n : ℕ). take n (object row)) many ∙ take-length (object row)));
    }

-- the order's image, where it waits
pub waiting_whole : (table : List Row) (s : Store) → Agrees table s → is_whole (held s s.order.image) s.order.version ≡ true → Whole table s.order.image s.order.version (held s s.order.image)
waiting_whole table s agrees is = whole_by table s.order.image s.order.version (held s s.order.image) is (agrees.kept s.order.image)

holding_whole : (row : Row) → holding (held_whole row) ≡ whole row
holding_whole row i = record { version = row.version; pages = length-tabulate (pages_for (length row.bytes)) (page_of_row row) i }

holds_whole : (table : List Row) (x : Site) (image_version : ImageVersion) (o : Option Held) → held x.store image_version.image ≡ o → Whole table image_version.image image_version.version o → HoldsWholeRow table (small_mote x) image_version
holds_whole table x image_version o here w = record {
  row = w.row;
  in_table = w.in_table;
  whole_row = holds_at x image_version.image ∙ ap (option_map holding) (here ∙ w.is) ∙ ap (λ (h : Holding). Some h) (holding_whole w.row);
}

-- ---- starts

-- program memory during a start: as before, blank, or what runs
abbrev AppOnWay : Option App → Option Runs → Option App → Type 0
AppOnWay old runs new = (new ≡ old) ⊎ ((new ≡ None) ⊎ ((r : Runs) × (runs ≡ Some r) × (new ≡ Some (app_of r))))

module _ (ends : (k : StartCause) (s : Store) → Boots s (boot k s)) (table : List Row) (x : Site) (agrees : Agrees table x.store) where
  abbrev Waits : Runs → Type 0
  Waits r = OrdersWholeRow table (small_mote x) (image_version_of r)

  waits_legal : (r : Runs) → IsWaiting x.store.order (held x.store x.store.order.image) r → Waits r
  waits_legal r w =
      let o = x.store.order in
      let there : Whole table o.image o.version (held x.store o.image) = waiting_whole table x.store agrees w.whole in
      let here : Whole table r.image r.version (held x.store r.image) =
      subst (λ (i : ℕ). Whole table i r.version (held x.store i)) w.image (subst (λ (v : ℕ). Whole table o.image v (held x.store o.image)) w.version there) in
      (record { some = w.some; image = w.image; version = w.version }, holds_whole table x (image_version_of r) (held x.store r.image) refl here)

  may_start : (r : Runs) → MayRun x.store r → MayStart table (small_mote x) (image_version_of r)
  may_start r may =
      ⊎_elim
      (λ golden. inl (ap (λ (k : ImageVersion). k.image) golden, ap (λ (k : ImageVersion). k.version) golden))
      (λ other. ⊎_elim (λ set. inr (inl set)) (λ waits. inr (inr (waits_legal r waits))) other)
      may

  -- where the start is not stopped
  pub legal_start : (k : StartCause) (r : Runs) (n : MoteState) → (boot k x.store).runs ≡ Some r → LegalStart table (small_mote x) (mote (last (boot k x.store).trail) (Some (record { image_version = image_version_of r; mote = n })))
  legal_start k r n runs =
      let b = boot k x.store in
      let start = boot_start k x.store in
      let way = Through-last (OnTheWay x.store b.runs) b.trail (ends k x.store).way in
      record {
        image_version = image_version_of r;
        app = option_map app_image_version (last b.trail).app;
        chosen = may_start r (start.chosen r runs);
        memory =
            ⊎_elim
            (λ set. inl set)
            (λ blank. inr (ap (option_map app_image_version) blank.0, (ap (λ (q : ImageVersion). q.image) blank.1, ap (λ (q : ImageVersion). q.version) blank.1)))
            (start.memory r runs);
        change = λ i. record { holdings = map (option_map holding) (way.kept i); app = option_map app_image_version (last b.trail).app; order = way.order i; runs = Some (image_version_of r) };
      }

  pub chosen_start : (k : StartCause) (r : Runs) → (boot k x.store).runs ≡ Some r → MayStart table (small_mote x) (image_version_of r)
  chosen_start k r runs = may_start r ((boot_start k x.store).chosen r runs)

  cut_app : (k : StartCause) (may : ImageVersion → Type 0) → ((r : Runs) → (boot k x.store).runs ≡ Some r → may (image_version_of r)) → (new : Option App) → AppOnWay x.store.app (boot k x.store).runs new
      → (option_map app_image_version new ≡ (small_mote x).app) ⊎ ((option_map app_image_version new ≡ None) ⊎ ((image_version : ImageVersion) × (option_map app_image_version new ≡ Some image_version) × may image_version))
  cut_app k may chosen new way =
      ⊎_elim
      (λ same. inl (ap (option_map app_image_version) same))
      (λ other. ⊎_elim
      (λ blank. inr (inl (ap (option_map app_image_version) blank)))
      (λ set. inr (inr (image_version_of set.0, ap (option_map app_image_version) set.2, chosen set.0 set.1)))
      other)
      way

  -- where a cut fired in it
  pub cut_start : (k : StartCause) (may : ImageVersion → Type 0) → ((r : Runs) → (boot k x.store).runs ≡ Some r → may (image_version_of r)) → Through (λ s. CutStart may (small_mote x) (mote s None)) (boot k x.store).trail
  cut_start k may chosen =
      let b = boot k x.store in
      Through-map (OnTheWay x.store b.runs) (λ s. CutStart may (small_mote x) (mote s None))
      (λ s way. record {
        app = option_map app_image_version s.app;
        how = cut_app k may chosen s.app way.app;
        change = λ i. record { holdings = map (option_map holding) (way.kept i); app = option_map app_image_version s.app; order = way.order i; runs = None };
      })
      b.trail (ends k x.store).way

  -- a tick starts only the order's image
  pub tick_starts : IsTable table → ((row : Row) → IsRow row → RowLaws row) → order_waits x.store ≡ true → IsSettled x.store
      → (boot cause.Order x.store).runs ≡ Some (kept_runs x.store x.store.order.image x.store.order.version)
  tick_starts is_table laws waits settled =
      let o = x.store.order in
      let w = waiting_whole table x.store agrees (waits_whole x.store waits) in
      let known = laws w.row (row_at-each IsRow table o.image o.version w.row is_table.each w.in_table) in
      order_alone x.store waits settled (known.is_sound x.store o.image w.is)

  pub tick_waits : order_waits x.store ≡ true → Waits (kept_runs x.store x.store.order.image x.store.order.version)
  tick_waits waits =
      let o = x.store.order in
      waits_legal (kept_runs x.store o.image o.version) (record { some = waits_some x.store waits; image = refl; version = refl; whole = waits_whole x.store waits })

  pub tick_start : (n : MoteState) → order_waits x.store ≡ true → (boot cause.Order x.store).runs ≡ Some (kept_runs x.store x.store.order.image x.store.order.version)
      → LegalTick table false (small_mote x) (mote (last (boot cause.Order x.store).trail) (Some (record { image_version = image_version_of (kept_runs x.store x.store.order.image x.store.order.version); mote = n })))
  unfolding legal_start
  tick_start n waits chosen =
      inr (legal_start cause.Order (kept_runs x.store x.store.order.image x.store.order.version) n chosen, tick_waits waits)

-- What starts is a row of the table, byte for byte.
use Rattle.std.proofs.Common.{◌≡◌, ℕ, ◌<◌, List, [], Option, Some, None, IfSome, length, refl, ap, ◌∙◌}
use Rattle.std.specs.Prelude.{slice_index_or}
use Rattle.dg_base.specs.Crc.{crc_of}
use Rattle.dg_object.specs.Object.{Row, IsRow, content}
use Rattle.dg_volume.specs.Store.{Store}
use Rattle.dg_volume.specs.Start.{Runs, boot, app_of, runs_length, length_in}
use Rattle.dg_volume.specs.Table.{IsTable}
use Rattle.dg_volume.specs.Agreement.{HoldsRow, Agrees}
use Rattle.dg_volume.specs.RowLaws.{RowLaws}
use Rattle.dg_volume.specs.declared.volume.StartCause.{StartCause}
use Rattle.dg_volume.specs.declared.volume.StartCause.TheVariants as cause
use Rattle.dg_rules.specs.World.{World, store_at}
use Rattle.dg_rules.specs.Events.{does}
use Rattle.dg_script.specs.Ranges.{EventInRange}
use Rattle.dg_rules.specs.Premises.{WorldAgrees}
use Rattle.dg_rules.specs.Promises.{RunsRow, StartsDoes}
use Rattle.dg_base.specs.declared.events.Event.{Event}
use Rattle.dg_rules.proofs.TableLemmas.{row_at-each}
use Rattle.dg_rules.proofs.BootLemmas.{boot_start}
use Rattle.dg_rules.proofs.EventLemmas.{RestartLaws, does_cases, all_sent}

if_some : {A : Type 0} (P : A → Type 0) (o : Option A) → ((x : A) → o ≡ Some x → P x) → IfSome o P
if_some P None f = tt
if_some P (Some x) f = f x refl

module _ (laws : (row : Row) → IsRow row → RowLaws row) (table : List Row) (is_table : IsTable table) where
  runs_row : (r : Runs) → HoldsRow table (app_of r) → RunsRow table r
  runs_row r h =
      let row = h.row in
      let known = laws row (row_at-each IsRow table r.image r.version row is_table.each h.in_table) in
      let told : runs_length r ≡ length row.bytes = ap (λ (pages : List (List ℕ)). length_in (slice_index_or pages 0 [])) h.pages ∙ known.length_told in
      record {
        row = row;
        in_table = h.in_table;
        pages = h.pages;
        length_reported = told;
        crc_reported = ap crc_of (ap (λ (n : ℕ). content n r.pages) told ∙ ap (content (length row.bytes)) h.pages ∙ known.bytes);
      }

  boot_row : (k : StartCause) (s : Store) → Agrees table s → IfSome (boot k s).runs (RunsRow table)
  boot_row k s agrees = if_some (RunsRow table) (boot k s).runs (λ r e. runs_row r ((boot_start k s).row table agrees r e))

pub starts_row : RestartLaws → ((row : Row) → IsRow row → RowLaws row) → (w : World) → WorldAgrees w → (e : Event) → EventInRange (length w.sites) e → StartsDoes (does w e) w.table
starts_row restarts laws w agrees =
    let boots : (k : StartCause) (m : ℕ) → m < length w.sites → IfSome (boot k (store_at w m)).runs (RunsRow w.table) = λ k m low. boot_row laws w.table agrees.table k (store_at w m) (agrees.sites m low).store.agrees in
    does_cases restarts w (λ f. Unit {0}) (all_sent w.sent) (λ e D. EventInRange (length w.sites) e → StartsDoes D w.table)
    (λ e why fits. tt)
    (λ m dt word r is fits. tt)
    (λ m dt word r is waits fits. boots cause.Order m fits)
    (λ m dt word fits. boots cause.Power m fits)
    (λ m dt word number f r is at q fits. tt)
    (λ from m dt word f r is at q fits. tt)
    (λ m dt word bytes r is fits. tt)
    (λ m image version dt word row known none fits. tt)
    (λ m number image version dt word none fits. tt)

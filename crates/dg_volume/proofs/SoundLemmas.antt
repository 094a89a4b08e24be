-- Rows of a table are sound, and their pages fit.
use Rattle.std.proofs.Common.{◌≡◌, ℕ, ◌<◌, true, List, [], length, get_or, sym, ap, ◌∙◌, arith}
use Rattle.dg_object.specs.Object.{Row, IsRow, object}
use Rattle.dg_object.proofs.RowLemmas.{length-object, get_or-object, length-page_of_row}
use Rattle.dg_slot.specs.Layout.{page_size}
use Rattle.dg_slot.specs.Kept.{Held}
use Rattle.dg_slot.specs.Fits.{may_seal}
use Rattle.dg_volume.specs.Store.{held_to}
use Rattle.dg_volume.specs.Table.{IsTable}
use Rattle.dg_volume.specs.RowLaws.{SoundRows, RowsFit}
use Rattle.dg_volume.proofs.TableLemmas.{row_at-image_version, row_at-each}
use Rattle.dg_volume.proofs.AgreedLemmas.{same_held}
use Rattle.dg_volume.proofs.RowLemmas.{Tested, next_fits}
use Rattle.dg_volume.proofs.WholeLemmas.{object_is_sound}

pub rows_sound : (table : List Row) → IsTable table → SoundRows table
rows_sound table t image version row e = object_is_sound row (row_at-each IsRow table image version row t.each e)

pub rows_fit : Tested → (table : List Row) → IsTable table → RowsFit table
rows_fit tested table t image row h e pages crc front more =
    let own = row_at-image_version table image h.version row e in
    let is : IsRow row = row_at-each IsRow table image h.version row t.each e in
    let n = length h.complete in
    let page = get_or (object row) n [] in
    let within : n < length (object row) = omega (arith, more, pages, length-object row) in
    let same : h ≡ held_to row n = same_held h (held_to row n) (sym own.1) pages crc front in
    let fits : may_seal row.image (held_to row n) page ≡ true = next_fits tested row n is within in
    let long : length page ≡ page_size = ap length (get_or-object row n [] (omega (arith, within, length-object row))) ∙ length-page_of_row row n is in
    (ap (λ (i : ℕ). may_seal i h page) (sym own.0) ∙ ap (λ (g : Held). may_seal row.image g page) same ∙ fits, long)

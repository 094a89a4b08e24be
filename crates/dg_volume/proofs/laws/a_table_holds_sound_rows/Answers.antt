use Rattle.dg_volume.proofs.TableLemmas.{row_at-image_version, row_at-each}
use Rattle.dg_volume.proofs.SoundLemmas.{rows_sound, rows_fit}
use Rattle.dg_object.specs.Object.{IsRow}
use Rattle.dg_volume.proofs.laws.a_table_holds_sound_rows.Goals as goal

pub returns-clause-image_version : goal.returns-clause-image_version
returns-clause-image_version c = row_at-image_version

pub returns-clause-row : goal.returns-clause-row
returns-clause-row c table image version row t e = row_at-each IsRow table image version row t.each e

pub returns-clause-sound : goal.returns-clause-sound
returns-clause-sound c = rows_sound

pub returns-clause-fit : goal.returns-clause-fit
returns-clause-fit c = rows_fit c.a_descriptor_is_tested.ensures.described

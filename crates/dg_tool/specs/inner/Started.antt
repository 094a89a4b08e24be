-- What a start reports of the image that runs (docs/COMMANDS.md, "Over one chip").
use Rattle.std.specs.Prelude.{◌≡◌}
use Rattle.dg_boot.specs.declared.Started.{Started}
use Rattle.dg_volume.specs.Start.{Runs, runs_length, runs_crc}

-- the answer of a start reports what runs
pub record TellsStarted (told : Started) (r : Runs) : Type 0 where
  pub image : told.image ≡ r.image
  pub version : told.version ≡ r.version
  pub length : told.length ≡ runs_length r
  pub crc : told.crc ≡ runs_crc r

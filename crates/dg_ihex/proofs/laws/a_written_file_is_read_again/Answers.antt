use Rattle.dg_ihex.proofs.RoundLemmas.{hex_file-written_file}
use Rattle.dg_ihex.proofs.laws.a_written_file_is_read_again.Goals as goal

pub returns : goal.returns
returns c image some fits each = hex_file-written_file image (record { some = some; fits = fits; each = each })

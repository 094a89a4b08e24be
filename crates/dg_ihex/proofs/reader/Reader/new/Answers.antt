use Rattle.std.proofs.Common.{refl}
use Rattle.dg_ihex.specs.Files.{blocks_of}
use Rattle.dg_ihex.proofs.reader.Reader.new.Goals as goal

pub returns : goal.returns
unfolding blocks_of
returns c = record { base = refl; has_ended = refl; window = c.new.ensures }

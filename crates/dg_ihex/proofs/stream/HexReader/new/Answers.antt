use Rattle.std.proofs.Common.{refl}
use Rattle.dg_ihex.proofs.stream.HexReader.new.Goals as goal

pub returns : goal.returns
returns c = record { counts = refl; stands = c.new.ensures }

use Rattle.std.proofs.Common.{ap}
use Rattle.dg_base.specs.Crc.{crc_of}
use Rattle.dg_object.proofs.object.profile_of.Goals as goal

pub returns : goal.returns
returns c =
    let crc = ap crc_of c.write_descriptor.ensures in
    cc

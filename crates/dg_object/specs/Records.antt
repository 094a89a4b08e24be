-- What the records of the code say (docs/IMAGES.md, "Objects and descriptors").
use Rattle.dg_object.specs.Object.{Outline}
use Rattle.dg_object.specs.Descriptor.{Details}
use Rattle.dg_object.specs.declared.profile.Profile.{Profile}
use Rattle.dg_object.specs.declared.descriptor.Descriptor.{Descriptor}

abbrev pub outline_of : Profile → Outline
outline_of p = record { image = p.image; version = p.version; pages = p.pages; crc = p.crc }

abbrev pub details_of : Descriptor → Details
details_of d = record { image = d.image; version = d.version; pages = d.pages; length = d.length; name = d.name }

use Rattle.std.proofs.Common.{Some, refl}
use Rattle.dg_slot.specs.Pages.{program}
use Rattle.dg_object.specs.Records.{details_of}
use Rattle.dg_volume.proofs.mounting.mount_program.Goals as goal

pub returns-then-descriptor-version-clause-app : goal.returns-then-descriptor-version-clause-app
returns-then-descriptor-version-clause-app g c =
    let found = rw c.in-Some.is at c.in_ok-descriptor.ensures.descriptor in
    let d = details_of c.in-Some.descriptor in (
      Some (record { image = c.in-Set.image; version = c.in-Set.version; pages = program (g.N.Nor.device c.args.nor.now).image d.pages }),
      record { state = c.in-Set.is; holds = record { described = (d, found, c.if-descriptor-image.true, c.if-descriptor-version.true, refl) } },
    )

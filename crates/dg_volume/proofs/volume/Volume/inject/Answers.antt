use Rattle.dg_object.specs.Object.{row_of}
use Rattle.dg_volume.proofs.InjectLemmas.{ends_refused}
use Rattle.dg_volume.proofs.volume.Volume.inject.Goals as goal

pub returns-in-Some-clause-ends : goal.returns-in-Some-clause-ends
returns-in-Some-clause-ends g c = λ s mounted.
    let row = row_of c.args.image c.args.version c.args.name.now c.args.bytes.now in
    let told = c.injection_fault.ensures in
    let refusal = told.refusal c.in-Some.fault c.in-Some.is c.args.self.now s c.args.name.now mounted.tells c.kept.ensures c.requires.known_image in
    ends_refused c.in-Some.fault s row _ _ c.args.self.now refusal (told.other c.in-Some.fault c.in-Some.is).0

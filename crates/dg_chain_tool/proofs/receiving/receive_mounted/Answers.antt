use Rattle.dg_object.specs.Object.{row_of}
use Rattle.dg_chain_tool.proofs.ReceiveLemmas.{refused_at}
use Rattle.dg_chain_tool.proofs.receiving.receive_mounted.Goals as goal

pub returns-in-Some : goal.returns-in-Some
returns-in-Some g c = λ s mounted.
    let row = row_of c.args.image c.args.version c.args.name.now c.args.bytes.now in
    let x = c.injection_fault.ensures in
    refused_at c.args.root.now s row _ c.in-Some.fault c.end_of_injection.result (x.refusal c.in-Some.fault c.in-Some.is c.args.volume.now s c.args.name.now mounted.tells c.kept.ensures c.requires.image) (x.other c.in-Some.fault c.in-Some.is).0
    c.end_of_injection.ensures

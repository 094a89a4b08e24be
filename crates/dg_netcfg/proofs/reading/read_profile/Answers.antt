use Rattle.toml.specs.View.{table_view}
use Rattle.dg_netcfg.proofs.ProfileLemmas.{document_of-some, document_of-none, reads_document, refuses_document}
use Rattle.dg_netcfg.proofs.ReadingLemmas.{reads_causes, allowed}
use Rattle.dg_netcfg.proofs.reading.read_profile.Goals as goal
use Rattle.std.proofs.Common.{Err}
use Rattle.dg_netcfg.specs.declared.profile.ProfileFault.TheVariants.{NotToml}

pub returns-in-Ok : goal.returns-in-Ok
returns-in-Ok c =
    let read = document_of-some c.args.bytes.now (table_view c.in-Ok.table) c.in-Ok.ensures.ok.0 c.in-Ok.ensures.ok.1 in
    let value = reads_document c.args.bytes.now (table_view c.in-Ok.table) c.profile_of.result read c.profile_of.ensures in
    let reading = reads_causes c.args.bytes.now c.profile_of.result value in
    record { value = value; reading = reading; allowed = allowed c.args.bytes.now c.profile_of.result reading }

pub returns-in-Err-2 : goal.returns-in-Err-2
returns-in-Err-2 c =
    let none = document_of-none c.args.bytes.now (c.in-Err.ensures.refused (λ memory. let is = c.is_memory.ensures.1 memory in absurd cc)) in
    let value = refuses_document c.args.bytes.now none in
    record { value = value; reading = reads_causes c.args.bytes.now (Err NotToml) value; allowed = tt }

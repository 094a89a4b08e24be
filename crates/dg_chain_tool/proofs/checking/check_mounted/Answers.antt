use Rattle.std.proofs.Common.{sym, ◌∙◌, Some, None, Err}
use Rattle.dg_nor.specs.Reads.{Looked, ReadStopped}
use Rattle.dg_nor.proofs.ReadLemmas.{Looked-none}
use Rattle.dg_end.specs.declared.refusal.Refusal.TheVariants as refusals
use Rattle.dg_end.specs.declared.ends.End.TheVariants as ends
use Rattle.dg_tool.proofs.OutcomeLemmas.{refused_store}
use Rattle.dg_tool.proofs.KeptLemmas.{held_none, held_some, kept_there}
use Rattle.dg_chain_tool.proofs.CheckLemmas.{checked_at}
use Rattle.dg_chain_tool.proofs.checking.check_mounted.Goals as goal

pub check_kept-requires-clause-keeps : goal.check_kept-requires-clause-keeps
check_kept-requires-clause-keeps g c = kept_there _ c.args.volume.now c.args.image c.in-Some.kept c.requires.mounted c.requires.known_image (sym c.kept.ensures ∙ c.in-Some.is)

pub returns-in-None-clause-done : goal.returns-in-None-clause-done
returns-in-None-clause-done g c = λ s mounted. checked_at _ _ (Err (ends.Refused refusals.Absent)) c.args.root.now s c.args.image None (held_none _ c.args.volume.now s c.args.image mounted c.requires.known_image (sym c.kept.ensures ∙ c.in-None.is)) (refused_store Looked ReadStopped _ _ refusals.Absent (Looked-none _))

pub returns-in-Some-clause-done : goal.returns-in-Some-clause-done
returns-in-Some-clause-done g c = λ s mounted.
    let h = held_some _ c.args.volume.now s c.args.image c.in-Some.kept mounted c.requires.known_image (sym c.kept.ensures ∙ c.in-Some.is) in
    checked_at _ _ _ c.args.root.now s c.args.image (Some h.kept) h.here (c.check_kept.ensures.done h.kept h.keeps h.told_is)

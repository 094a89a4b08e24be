use Rattle.std.proofs.Common.{take}
use Rattle.std.specs.List.{AllByRecursion}
use Rattle.dg_frame.specs.Spelling.{EntryFitsTypes}
use Rattle.dg_frame.proofs.sent.entries_fit_types.Given as goal

abbrev pub invariant-loop-entry : goal.invariant-loop-entry
invariant-loop-entry l = record {
  fit : AllByRecursion EntryFitsTypes (take l.entry-index l.entries);
}

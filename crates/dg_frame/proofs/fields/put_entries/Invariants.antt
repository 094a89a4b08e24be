use Rattle.std.proofs.Common.{◌≡◌, ◌+◌, ◌*◌, ◌++◌, take}
use Rattle.std.specs.List.{AllByRecursion, flat_map}
use Rattle.arrayvec.specs.ArrayVec.{array_vec_len}
use Rattle.dg_frame.specs.Spelling.{entry_bytes, EntryFitsTypes}
use Rattle.dg_frame.proofs.fields.put_entries.Given as goal

abbrev pub invariant-loop-entry : goal.invariant-loop-entry
invariant-loop-entry l = record {
  items : l.frame.items ≡ l.initial.frame.items ++ flat_map entry_bytes (take l.entry-index l.entries);
  fit : AllByRecursion EntryFitsTypes (take l.entry-index l.entries);
  len : array_vec_len l.frame ≡ array_vec_len l.initial.frame + 8 * l.entry-index;
}

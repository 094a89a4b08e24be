use Rattle.std.proofs.Common.{◌≢◌, ℕ, ◌<◌, slice_index}
use Rattle.dg_script.proofs.words.length_before.Given as goal

-- none of the bytes so far is the one that is searched for
abbrev pub invariant-loop-count : goal.invariant-loop-count
invariant-loop-count l = (k : ℕ) → k < l.count → slice_index l.text k ≢ l.stop

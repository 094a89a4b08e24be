use Rattle.dg_volume.proofs.BehindLemmas.{memory_free, slot_counts, slot_same}
use Rattle.dg_volume.proofs.laws.what_is_after_the_commits_does_not_count.Goals as goal

pub returns-clause-memory : goal.returns-clause-memory
returns-clause-memory x c d v s none keeps m = memory_free c d v s none keeps m

pub returns-clause-same : goal.returns-clause-same
returns-clause-same x c d v s i h low known here keeps image m = slot_same (λ j. ⊥) c d v s i h low known here keeps image m

pub returns-clause-slot : goal.returns-clause-slot
returns-clause-slot x c d v s i h g low known here version keeps image m = slot_counts c d v s i h g low known here version keeps image m

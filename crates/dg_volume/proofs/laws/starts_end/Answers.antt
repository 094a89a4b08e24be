use Rattle.dg_volume.proofs.StartEndLemmas.{count_last, counted_ends, golden_is, order_ends, kept_ends, blank_is, golden_copied_ends, golden_stays_ends}
use Rattle.dg_volume.proofs.laws.starts_end.Goals as goal

pub returns-clause-count : goal.returns-clause-count
returns-clause-count c cause s = count_last cause s

pub returns-clause-counted : goal.returns-clause-counted
returns-clause-counted c cause s = counted_ends cause s

pub returns-clause-order : goal.returns-clause-order
returns-clause-order c s golden waits fine = order_ends s golden waits fine

pub returns-clause-by_gesture : goal.returns-clause-by_gesture
returns-clause-by_gesture c s golden = golden_is s golden

pub returns-clause-kept : goal.returns-clause-kept
returns-clause-kept c s app golden none here = kept_ends s app golden none here

pub returns-clause-blank : goal.returns-clause-blank
returns-clause-blank c s golden none blank = blank_is s golden none blank

pub returns-clause-golden_copied : goal.returns-clause-golden_copied
returns-clause-golden_copied c s three other fine = golden_copied_ends s three other fine

pub returns-clause-golden_stays : goal.returns-clause-golden_stays
returns-clause-golden_stays c s app three here set = golden_stays_ends s app three here set

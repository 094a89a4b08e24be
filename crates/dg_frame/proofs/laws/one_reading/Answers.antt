use Rattle.std.proofs.Common.{subst}
use Rattle.dg_frame.specs.Readings.{IsReading}
use Rattle.dg_frame.proofs.ReadingLemmas.{ranges, reads, is_read, wider, wider_range}
use Rattle.dg_frame.proofs.laws.one_reading.Goals as goal

pub returns-clause-ranges : goal.returns-clause-ranges
returns-clause-ranges c wide m = ranges wide m

pub returns-clause-reading : goal.returns-clause-reading
returns-clause-reading c b wide r = (λ e. subst (IsReading b wide) e (reads b wide), is_read b wide r)

pub returns-clause-wider : goal.returns-clause-wider
returns-clause-wider c b m e = wider b m e

pub returns-clause-wider_range : goal.returns-clause-wider_range
returns-clause-wider_range c wide m h = wider_range wide m h

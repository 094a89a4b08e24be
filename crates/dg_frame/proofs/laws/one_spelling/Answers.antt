use Rattle.dg_frame.specs.Spelling.{frame_of}
use Rattle.dg_frame.specs.Readings.{IsReading}
use Rattle.std.proofs.Common.{subst, Ok}
use Rattle.dg_frame.proofs.ReadingLemmas.{reads, is_read}
use Rattle.dg_frame.proofs.SpellingLemmas.{spelled, fits, written}
use Rattle.dg_frame.proofs.laws.one_spelling.Goals as goal

pub returns-clause-written : goal.returns-clause-written
returns-clause-written c wide m f r = is_read (frame_of m) wide (Ok m) (written wide m f r)

pub returns-clause-read : goal.returns-clause-read
returns-clause-read c b wide m h e = spelled b wide m h (subst (IsReading b wide) e (reads b wide))

pub returns-clause-fits : goal.returns-clause-fits
returns-clause-fits c b wide m h e = fits b wide m h (subst (IsReading b wide) e (reads b wide))

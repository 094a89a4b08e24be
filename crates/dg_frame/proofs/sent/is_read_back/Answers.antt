use Rattle.std.proofs.Common.{Ok}
use Rattle.dg_frame.specs.Spelling.{frame_of}
use Rattle.dg_frame.proofs.ReadingLemmas.{is_read}
use Rattle.dg_frame.proofs.SpellingLemmas.{written}
use Rattle.dg_frame.proofs.sent.is_read_back.Goals as goal

pub returns : goal.returns
returns c wide h = let m = c.args.message.now in is_read (frame_of m) wide (Ok m) (written wide m c.fits_types.ensures h)

use Rattle.std.proofs.Common.{rules, ◌≡◌, true, Ok, ap, ◌∙◌}
use Rattle.dg_frame.specs.Spelling.{frame_of}
use Rattle.dg_frame.specs.Grammar.{message_of}
use Rattle.dg_frame.proofs.ReadingLemmas.{is_read}
use Rattle.dg_frame.proofs.SpellingLemmas.{written}
use Rattle.dg_frame.proofs.writing.write.Goals as goal

pub returns-clause-reads_back : goal.returns-clause-reads_back
returns-clause-reads_back c =
    let m = c.args.message.now in
    let spelled : c.frame.result.items ≡ frame_of m = search rules in
    ap (λ b. message_of b true) spelled ∙ is_read (frame_of m) true (Ok m) (written true m c.frame.ensures.fits c.requires)

pub returns-clause-read_by : goal.returns-clause-read_by
returns-clause-read_by c wide h =
    let m = c.args.message.now in
    let spelled : c.frame.result.items ≡ frame_of m = search rules in
    ap (λ b. message_of b wide) spelled ∙ is_read (frame_of m) wide (Ok m) (written wide m c.frame.ensures.fits h)

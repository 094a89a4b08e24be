use Rattle.std.proofs.Common.{◌≡◌, false, true, Ok, sym, ap, subst, ◌∙◌}
use Rattle.dg_frame.specs.Grammar.{message_of}
use Rattle.dg_frame.specs.Spelling.{frame_of}
use Rattle.dg_frame.specs.Readings.{IsReading}
use Rattle.dg_frame.proofs.ReadingLemmas.{wider, reads}
use Rattle.dg_frame.proofs.sent.narrow_refusal.Goals as goal

-- what a narrow reader reads of the frame is the message, since a wide one reads the message
read_as : (c : goal.In-Ok) → message_of (frame_of c.args.message.now) false ≡ Ok c.args.message.now
read_as c =
    let bytes = c.as_slice.ensures.value ∙ c.write.ensures.spelled in
    let again : message_of (frame_of c.args.message.now) false ≡ Ok c.in-Ok.field-0 = ap (λ b. message_of b false) (sym bytes) ∙ sym c.read.ensures.value ∙ c.in-Ok.is in
    again ∙ sym (wider (frame_of c.args.message.now) c.in-Ok.field-0 again) ∙ ap (λ b. message_of b true) (sym c.write.ensures.spelled) ∙ c.write.ensures.reads_back

pub returns-in-Ok-clause-read : goal.returns-in-Ok-clause-read
returns-in-Ok-clause-read c = read_as c

pub returns-in-Ok-clause-range : goal.returns-in-Ok-clause-range
returns-in-Ok-clause-range c = (subst (IsReading (frame_of c.args.message.now) false) (read_as c) (reads (frame_of c.args.message.now) false)).5

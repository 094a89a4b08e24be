-- From the status of a command back to its outcome.
use Rattle.std.proofs.Common.{◌≡◌, ◌≢◌, ℕ, List, Option, Some, None, Ok, Err, refl, ⊎_elim}
use Rattle.dg_base.specs.declared.answers.Status.{Status}
use Rattle.dg_base.specs.declared.answers.Status.TheVariants as statuses
use Rattle.dg_outside.specs.Outside.{OutputState}
use Rattle.dg_end.specs.Lines.{Outcome, outcome_status, outcome_line, status_of}
use Rattle.dg_end.specs.Writes.{WritesLast, WritesAnswer}
use Rattle.dg_end.specs.declared.ends.End.{End}
use Rattle.dg_end.specs.declared.ends.End.TheVariants as ends

pub written_status : (status wanted : Status) (line : Option (List ℕ)) (a b : OutputState) → WritesLast status wanted line a b → status ≢ statuses.WriteFault → status ≢ statuses.Memory → status ≡ wanted
written_status status wanted None a b h whole room = h.0
written_status status wanted (Some text) a b h whole room = ⊎_elim (λ x. x.0) (λ y. ⊎_elim (λ x. absurd (whole x.0)) (λ x. absurd (room x.0)) y) h

-- unless a write failed or memory ran out, the status is that of the outcome
pub answered_status : (status : Status) (outcome : Outcome) (a b : OutputState) → WritesAnswer status outcome a b → status ≢ statuses.WriteFault → status ≢ statuses.Memory → status ≡ outcome_status outcome
answered_status status outcome a b h whole room = written_status status (outcome_status outcome) (outcome_line outcome) a b h whole room

not_done : (end : End) → statuses.Done ≢ status_of end
not_done ends.Memory e = cc
not_done ends.ReadFault e = cc
not_done ends.WriteFault e = cc
not_done ends.FlashFault e = cc
not_done ends.LinkFault e = cc
not_done ends.NotAVolume e = cc
not_done ends.NoImage e = cc
not_done ends.TooLong e = cc
not_done ends.TooMany e = cc
not_done (ends.NoBoard need have) e = cc
not_done (ends.BadHex fault) e = cc
not_done (ends.BadLine number fault) e = cc
not_done (ends.BadProfile fault) e = cc
not_done (ends.Refused cause) e = cc

-- the outcome of one that is done is its answer
pub done_came : (outcome : Outcome) → statuses.Done ≡ outcome_status outcome → (text : List ℕ) × (outcome ≡ Ok text)
done_came (Ok text) e = (text, refl)
done_came (Err end) e = absurd (not_done end e)

pub answered_done : (outcome : Outcome) (a b : OutputState) → WritesAnswer statuses.Done outcome a b → (text : List ℕ) × (outcome ≡ Ok text)
answered_done outcome a b h = done_came outcome (answered_status statuses.Done outcome a b h (λ e. cc) (λ e. cc))

-- a status of one end alone
pub link_came : (outcome : Outcome) → statuses.LinkFault ≡ outcome_status outcome → outcome ≡ Err ends.LinkFault
link_came (Ok text) e = cc
link_came (Err ends.LinkFault) e = refl
link_came (Err ends.Memory) e = cc
link_came (Err ends.ReadFault) e = cc
link_came (Err ends.WriteFault) e = cc
link_came (Err ends.FlashFault) e = cc
link_came (Err ends.NotAVolume) e = cc
link_came (Err ends.NoImage) e = cc
link_came (Err ends.TooLong) e = cc
link_came (Err ends.TooMany) e = cc
link_came (Err (ends.NoBoard need have)) e = cc
link_came (Err (ends.BadHex fault)) e = cc
link_came (Err (ends.BadLine number fault)) e = cc
link_came (Err (ends.BadProfile fault)) e = cc
link_came (Err (ends.Refused cause)) e = cc

use Rattle.std.proofs.Common.{ℕ, List, [], ◌∷◌, ◌++◌, ap, subst}
use Rattle.std.specs.Prelude.{codes}
use Rattle.dg_end.specs.Texts.{numbers, line}
use Rattle.dg_end.specs.Lines.{bad_line, HasFixedLine}
use Rattle.dg_end.specs.declared.ends.End.TheVariants as ends
use Rattle.dg_end.proofs.FinishLemmas.{at_end, of_line}
use Rattle.dg_end.proofs.last_line.fail.Goals as goal

pub returns-in-NotAVolume-clause-ends : goal.returns-in-NotAVolume-clause-ends
returns-in-NotAVolume-clause-ends g c = at_end _ c.args.end ends.NotAVolume _ _ c.in-NotAVolume.is (c.write_last.ensures.ends)

pub returns-in-NoImage-clause-ends : goal.returns-in-NoImage-clause-ends
returns-in-NoImage-clause-ends g c = at_end _ c.args.end ends.NoImage _ _ c.in-NoImage.is (c.write_last-in-NoImage.ensures.ends)

pub returns-in-TooLong-clause-ends : goal.returns-in-TooLong-clause-ends
returns-in-TooLong-clause-ends g c = at_end _ c.args.end ends.TooLong _ _ c.in-TooLong.is (c.write_last-in-TooLong.ensures.ends)

pub returns-in-TooMany-clause-ends : goal.returns-in-TooMany-clause-ends
returns-in-TooMany-clause-ends g c = at_end _ c.args.end ends.TooMany _ _ c.in-TooMany.is (c.write_last-in-TooMany.ensures.ends)

pub returns-in-NoBoard-clause-ends : goal.returns-in-NoBoard-clause-ends
returns-in-NoBoard-clause-ends g c =
    let x = c.in-NoBoard in
    at_end _ c.args.end (ends.NoBoard x.need x.have) _ _ x.is
    (of_line _ _ _ _ _ _ (ap (λ (n : ℕ). line (codes "noboard" ++ numbers (n ∷ x.have ∷ []))) c.from.ensures) (c.write_made.ensures.ends _ c.line_of-line.ensures))

pub returns-in-BadHex-clause-ends : goal.returns-in-BadHex-clause-ends
returns-in-BadHex-clause-ends g c =
    at_end _ c.args.end (ends.BadHex c.in-BadHex.fault) _ _ c.in-BadHex.is (c.write_made-in-BadHex.ensures.ends _ c.line_of_hex_fault.ensures)

pub returns-in-BadLine-clause-ends : goal.returns-in-BadLine-clause-ends
returns-in-BadLine-clause-ends g c =
    at_end _ c.args.end (ends.BadLine c.in-BadLine.line c.in-BadLine.fault) _ _ c.in-BadLine.is
    (of_line _ _ _ _ _ _ (ap (λ (t : List ℕ). bad_line c.in-BadLine.line t) c.name.ensures) (c.write_made-in-BadLine.ensures.ends _ c.line_of_bad_line.ensures))

pub returns-in-BadProfile-clause-ends : goal.returns-in-BadProfile-clause-ends
returns-in-BadProfile-clause-ends g c =
    at_end _ c.args.end (ends.BadProfile c.in-BadProfile.fault) _ _ c.in-BadProfile.is (c.write_made-in-BadProfile.ensures.ends _ c.line_of_profile_fault.ensures)

pub returns-in-Refused-clause-ends : goal.returns-in-Refused-clause-ends
returns-in-Refused-clause-ends g c =
    at_end _ c.args.end (ends.Refused c.in-Refused.cause) _ _ c.in-Refused.is (c.write_made-in-Refused.ensures.ends _ c.line_of_refusal.ensures)

-- ---- memory

pub returns-in-NotAVolume-clause-room : goal.returns-in-NotAVolume-clause-room
returns-in-NotAVolume-clause-room g c = λ fixed. c.write_last.ensures.room (λ e. cc)

pub returns-in-NoImage-clause-room : goal.returns-in-NoImage-clause-room
returns-in-NoImage-clause-room g c = λ fixed. c.write_last-in-NoImage.ensures.room (λ e. cc)

pub returns-in-TooLong-clause-room : goal.returns-in-TooLong-clause-room
returns-in-TooLong-clause-room g c = λ fixed. c.write_last-in-TooLong.ensures.room (λ e. cc)

pub returns-in-TooMany-clause-room : goal.returns-in-TooMany-clause-room
returns-in-TooMany-clause-room g c = λ fixed. c.write_last-in-TooMany.ensures.room (λ e. cc)

pub returns-in-NoBoard-clause-room : goal.returns-in-NoBoard-clause-room
returns-in-NoBoard-clause-room g c = λ fixed. absurd (subst HasFixedLine c.in-NoBoard.is fixed)

pub returns-in-BadHex-clause-room : goal.returns-in-BadHex-clause-room
returns-in-BadHex-clause-room g c = λ fixed. absurd (subst HasFixedLine c.in-BadHex.is fixed)

pub returns-in-BadLine-clause-room : goal.returns-in-BadLine-clause-room
returns-in-BadLine-clause-room g c = λ fixed. absurd (subst HasFixedLine c.in-BadLine.is fixed)

pub returns-in-BadProfile-clause-room : goal.returns-in-BadProfile-clause-room
returns-in-BadProfile-clause-room g c = λ fixed. absurd (subst HasFixedLine c.in-BadProfile.is fixed)

pub returns-in-Refused-clause-room : goal.returns-in-Refused-clause-room
returns-in-Refused-clause-room g c = λ fixed. absurd (subst HasFixedLine c.in-Refused.is fixed)

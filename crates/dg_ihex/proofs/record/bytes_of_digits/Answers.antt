use Rattle.std.proofs.Common.{inl, inr, ap, Err}
use Rattle.dg_ihex.proofs.DigitLemmas.{refused_digits}
use Rattle.dg_ihex.proofs.record.bytes_of_digits.Goals as goal

pub returns-in-Err-Odd-clause-refused : goal.returns-in-Err-Odd-clause-refused
returns-in-Err-Odd-clause-refused c = refused_digits c.args.digits.now (inl (c.in-Err-Odd.ensures.odd.0 (ap Err c.in-Err-Odd.field-0-is)))

pub returns-in-Err-Digit-clause-refused : goal.returns-in-Err-Digit-clause-refused
returns-in-Err-Digit-clause-refused c = refused_digits c.args.digits.now (inr (c.in-Err-Digit.ensures.digit (ap Err c.in-Err-Digit.field-0-is)))

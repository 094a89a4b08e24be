use Rattle.dg_xmss.proofs.DigitLemmas.{message_digit, checksum_digit}
use Rattle.dg_xmss.proofs.chains.digit.Goals as goal

pub returns-then-i-ge-MESSAGE_DIGITS-clause-digit : goal.returns-then-i-ge-MESSAGE_DIGITS-clause-digit
returns-then-i-ge-MESSAGE_DIGITS-clause-digit c =
    checksum_digit c.args.digest.now c.args.checksum c.args.i c.checksum_digit.result c.told-digest c.if-i-ge-MESSAGE_DIGITS.true c.requires.known c.requires.sum c.requires.most
    c.checksum_digit.ensures.first c.checksum_digit.ensures.second c.checksum_digit.ensures.third

pub returns-clause-digit : goal.returns-clause-digit
returns-clause-digit c =
    message_digit c.args.digest.now c.args.i c.digit_of.result c.told-digest c.if-i-ge-MESSAGE_DIGITS.false c.digit_of.ensures.upper c.digit_of.ensures.lower

use Rattle.dg_sign.specs.Lines.{signed_line}
use Rattle.std.proofs.Common.{rules}
use Rattle.dg_sign.proofs.lines.signed_line.Goals as goal

pub returns : goal.returns
unfolding signed_line
returns c = search rules

-- the text so far is in upper case, and the rest is unchanged
use Rattle.std.proofs.Common.{◌≡◌, take, drop, map}
use Rattle.std.specs.Char.{to_ascii_uppercase}
use Rattle.dg_ihex.proofs.writer.capitalize.Given as goal

abbrev pub invariant-loop-at : goal.invariant-loop-at
invariant-loop-at l = record {
  done : take l.at l.text ≡ map to_ascii_uppercase (take l.at l.fn.text);
  rest : drop l.at l.text ≡ drop l.at l.fn.text;
}

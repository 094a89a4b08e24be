-- What an output keeps of what it wrote last.
use Rattle.std.specs.Prelude.{◌≢◌, ℕ, ◌≤◌, List, length, slice_index}
use Rattle.dg_messages.specs.declared.streams.Output.{Output}

abbrev pub kept_of : {W : Type 0} → Output W → List ℕ
kept_of output = output.kept.items

-- what is written may be the last line of a command: it is short, and does not begin with `s`
pub record MayEnd (text : List ℕ) : Type 0 where
  pub short : length text ≤ 192
  pub begins : slice_index text 0 ≢ 115

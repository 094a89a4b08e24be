-- Words of private contracts and proofs.
use Rattle.std.specs.Prelude.{ℕ, List, map}
use Rattle.dg_base.specs.Numbers.{number_of}
use Rattle.dg_drip_script.specs.Fields.{Field}
use Rattle.std.specs.Prelude.{◌&&◌, not, Bool}
use Rattle.dg_drip_script.specs.declared.line.Standing.{Standing}
use Rattle.dg_drip_script.specs.Lines.{has_nodes}

abbrev pub numbers_of_words : List (List ℕ) → List Field
numbers_of_words words = map number_of words

abbrev pub may_link : Standing → Bool
may_link at = has_nodes at && not at.begun

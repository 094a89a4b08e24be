use Rattle.std.proofs.Common.{[], ◌∷◌}
use Rattle.dg_frame.specs.Grammar.{entries_in}
use Rattle.dg_frame.proofs.reading.narrow_entries.Goals as goal

pub returns : goal.returns
unfolding entries_in
returns c = λ i. c.entry_at.ensures i ∷ c.entry_at-2.ensures i ∷ c.entry_at-3.ensures i ∷ []

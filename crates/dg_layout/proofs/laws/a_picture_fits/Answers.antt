use Rattle.dg_layout.proofs.LawLemmas.{rows, lanes, low, high, wide}
use Rattle.dg_layout.proofs.laws.a_picture_fits.Goals as goal

pub returns-clause-rows : goal.returns-clause-rows
returns-clause-rows c = rows

pub returns-clause-lanes : goal.returns-clause-lanes
returns-clause-lanes c = lanes

pub returns-clause-low : goal.returns-clause-low
returns-clause-low c = low

pub returns-clause-high : goal.returns-clause-high
returns-clause-high c = high

pub returns-clause-wide : goal.returns-clause-wide
returns-clause-wide c = wide

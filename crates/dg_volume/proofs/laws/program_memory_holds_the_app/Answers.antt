use Rattle.dg_volume.proofs.StoreLemmas.{app_stands}
use Rattle.dg_volume.proofs.laws.program_memory_holds_the_app.Goals as goal

pub returns : goal.returns
returns c = app_stands

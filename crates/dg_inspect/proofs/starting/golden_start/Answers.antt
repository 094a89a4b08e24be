use Rattle.std.proofs.Common.{sym, ap, ◌∙◌}
use Rattle.std.specs.Prelude.{◌||◌}
use Rattle.dg_volume.specs.Start.{sound}
use Rattle.dg_inspect.specs.Facts.{golden_if}
use Rattle.dg_inspect.proofs.StartingLemmas.{golden_runs_are}
use Rattle.dg_inspect.proofs.starting.golden_start.Goals as goal

pub returns : goal.returns
returns c t three facts =
    c.golden_if.ensures
    ∙ ap (λ b. golden_if (b || c.is_set_to-set.result)) facts.golden_sound
    ∙ ap (λ b. golden_if (sound t 0 || b)) (c.is_set_to-set.ensures t.app facts.program)
    ∙ sym (golden_runs_are t three)

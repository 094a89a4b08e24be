use Rattle.std.proofs.Common.{Bool, ap, sym, ◌∙◌}
use Rattle.dg_rules.specs.Events.{knows}
use Rattle.dg_shared.proofs.shared.Shared.knows.Goals as goal

pub returns : goal.returns
returns c = λ w is. ap (λ (wide : Bool). knows wide c.args.image) (sym (c.is_wide.ensures w is)) ∙ sym c.knows_by_width.ensures

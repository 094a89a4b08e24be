use Rattle.std.proofs.Common.{[], arith, sym, subst}
use Rattle.dg_ihex.specs.Blocks.{byte_at}
use Rattle.dg_ihex.specs.Cells.{Keeps}
use Rattle.dg_ihex.proofs.WindowLemmas.{keeps_nothing, none_given}
use Rattle.dg_ihex.proofs.window.Window.new.Goals as goal

pub returns : goal.returns
returns c =
    let n = none_given 0 in
    record {
      lowest = sym n.0;
      past = sym n.1;
      close = omega (arith, n.0, n.1);
      cells = subst (λ cells. Keeps 0 cells (byte_at [])) (sym c.new.ensures.items) (keeps_nothing 0);
    }

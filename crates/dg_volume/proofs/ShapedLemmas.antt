-- What a chip stands for has its shape.
use Rattle.std.proofs.Common.{ℕ, List, subst, IsTrue}
use Rattle.dg_control.specs.Ranges.{order_fits}
use Rattle.dg_control.specs.declared.snapshot.Order.{Order}
use Rattle.dg_control.proofs.PlaceLemmas.{in_range}
use Rattle.dg_volume.specs.Store.{Store}
use Rattle.dg_volume.specs.Stands.{Stands}
use Rattle.dg_volume.specs.Shaped.{IsShaped}

pub shaped : (c : List ℕ) (s : Store) → Stands c s → IsShaped s
shaped c s stands = record {
  count = stands.contains.count;
  order = subst (λ (o : Order). IsTrue (order_fits o)) stands.says.order (in_range stands.snapshot).order;
}

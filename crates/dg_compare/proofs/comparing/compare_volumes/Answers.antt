use Rattle.std.proofs.Common.{Bool, List, sym, subst}
use Rattle.std.specs.Prelude.{◌↔◌, IsTrue}
use Rattle.std.specs.List.{All}
use Rattle.dg_compare.specs.Alike.{AreAlike}
use Rattle.dg_compare.specs.declared.results.ImageCompared.{ImageCompared}
use Rattle.dg_compare.proofs.AlikeLemmas.{volumes_alike}
use Rattle.dg_compare.proofs.comparing.compare_volumes.Goals as goal

pub returns : goal.returns
returns c = record {
  compares = λ s t a b x y.
      let found = c.in_ok-images.ensures in
      let program = c.compare_programs-program.ensures s t a.contains.app b.contains.app x.program y.program in
      let order = c.compare_orders-order.ensures s t x y in
      let each = found.compares s t a b x y in
      let all = subst (λ (xs : List ImageCompared). IsTrue c.are_alike-images_alike.result ↔ All (λ z. IsTrue z.alike) xs) c.deref.ensures.value c.are_alike-images_alike.ensures in
      record {
        count = found.count;
        images = each;
        program = program;
        order = order;
        alike = subst (λ (v : Bool). IsTrue v ↔ AreAlike s t) (sym c.all_three-alike.ensures)
            (volumes_alike s t c.in_ok-images.images.items c.compare_programs-program.result c.compare_orders-order.result c.are_alike-images_alike.result found.count each all program order);
      };
}

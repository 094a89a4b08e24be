use Rattle.std.proofs.Common.{◌≡◌, ℕ, drop}
use Rattle.dg_object.specs.Object.{object}
use Rattle.dg_volume.specs.Store.{Store}
use Rattle.dg_volume.specs.Stands.{Mounted, is_lent}
use Rattle.dg_chain.specs.Checking.{first_break}
use Rattle.dg_volume.specs.Filling.{new_row}
use Rattle.dg_chain_tool.specs.inner.Filling.{fill_to}
use Rattle.dg_chain_tool.proofs.FillLemmas.{Going}
use Rattle.dg_chain_tool.proofs.filling.receive_data.Given as goal

abbrev pub invariant-loop-p : goal.invariant-loop-p
invariant-loop-p g l =
    let old = g.N.Nor.device l.fn.nor in
    let now = g.N.Nor.device l.nor in
    let pages = object (new_row l.new) in
    record {
      found : first_break l.fn.first l.done (drop l.done pages) ≡ first_break l.kept l.p (drop l.p pages);
      going : (s : Store) → Mounted old.image l.fn.volume s
          → Going (fill_to (first_break l.fn.first l.done (drop l.done pages)) l.done s l.new.image (drop l.done pages)) (first_break l.kept l.p (drop l.p pages)) l.p l.new.image (drop l.p pages) old now l.volume;
      lent : (i : ℕ) → is_lent l.volume i ≡ is_lent l.fn.volume i;
    }

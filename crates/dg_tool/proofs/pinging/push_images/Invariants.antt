use Rattle.std.proofs.Common.{◌≡◌, ◌++◌, ◌-◌, ◌≤◌}
use Rattle.std.specs.List.{flat_map, range_with_len}
use Rattle.dg_nor.specs.Reads.{Looked}
use Rattle.dg_volume.specs.Store.{Store, held}
use Rattle.dg_volume.specs.Stands.{Mounted}
use Rattle.dg_tool.specs.Verbs.{ping_line}
use Rattle.dg_tool.proofs.pinging.push_images.Given as goal

-- the lines so far are appended
abbrev pub invariant-loop-image : goal.invariant-loop-image
invariant-loop-image g l =
    let old = g.N.Nor.device l.initial.nor in
    record {
      told : (s : Store) → Mounted old.image l.volume s → l.text.items ≡ l.initial.text.items ++ flat_map (λ i. ping_line i (held s i)) (range_with_len 1 (l.image - 1));
      some : 1 ≤ l.image;
      looked : Looked old (g.N.Nor.device l.nor);
    }

use Rattle.std.proofs.Common.{◌≡◌, ◌+◌, ◌*◌, ◌≤◌, ◌++◌, List, length, map, vec_len}
use Rattle.std.specs.List.{flat_map, range_with_len}
use Rattle.std.specs.Vec.{vec_capacity}
use Rattle.dg_volume.specs.Sizes.{images}
use Rattle.dg_rules.specs.Changes.{site_lines}
use Rattle.dg_rules.specs.World.{World as RuleWorld, site}
use Rattle.dg_script.specs.declared.report.Report.{Report}
use Rattle.dg_world.specs.Counts.{AreSteady}
use Rattle.dg_world.specs.Worlds.{IsWorld}
use Rattle.dg_world.proofs.FinishLemmas.{ReadTo}
use Rattle.dg_world.proofs.world.World.push_sites.Given as goal

abbrev pub invariant-loop-mote : goal.invariant-loop-mote
invariant-loop-mote g l = record {
  reported : (w : RuleWorld) → IsWorld l.self (map g.N.Nor.device l.initial.boards) w → l.out.items ≡ l.initial.out.items ++ flat_map (λ m. site_lines m (site w m)) (range_with_len 0 l.mote);
  begun : (told : List Report) × (l.out.items ≡ l.initial.out.items ++ told);
  read : ReadTo l.mote (map g.N.Nor.device l.initial.boards) (map g.N.Nor.device l.boards);
  calm : AreSteady (map g.N.Nor.device l.initial.boards) (map g.N.Nor.device l.boards);
  room : vec_capacity l.out ≡ vec_capacity l.initial.out;
  few : vec_len l.out ≤ vec_len l.initial.out + images * l.mote;
  within : l.mote ≤ length l.self.motes.items;
}

use Rattle.std.proofs.Common.{◌<◌, Vec, Global, length, map, ap, arith}
use Rattle.dg_meter.specs.Meters.{metered_device}
use Rattle.dg_meter.specs.declared.meter.Metered.{Metered}
use Rattle.dg_world.proofs.CountLemmas.{worked_ran}
use Rattle.dg_world.proofs.FinishLemmas.{same_boards}
use Rattle.dg_cost.proofs.LookingLemmas.{board_read, mount_failed, read_past}
use Rattle.dg_cost.proofs.looking.look_again.Goals.{then-index-len+then-index-len-2+in-Ok, then-index-len+then-index-len-2+in_default, else-index-len}
use Rattle.dg_cost.proofs.looking.look_again.Goals as goal

pub loop-index-preserved : goal.loop-index-preserved
loop-index-preserved g c =
    let so = c.loop-index.invariant in
    let boards = c.loop-index.boards.items in
    let devices = λ (v : Vec (Metered g.row.N.Denot g.N.Nor) Global). map (metered_device g.N.Nor.device) v.items in
    elim c.if-index-len.branch [
      | then-index-len+then-index-len-2+in-Ok w ↦
          let there : c.loop-index.index < length boards = omega (arith, w.if-index-len.true, c.len.ensures) in
          record {
            read = board_read (metered_device g.N.Nor.device) c.loop-index.index _ _ boards _ _ _ so.read there w.index_mut.ensures.value
                (ap devices w.boards-is) (worked_ran w.in-Ok.ensures.looked.ran) w.mount.ensures.same_image;
          }
      | then-index-len+then-index-len-2+in_default w ↦
          let there : c.loop-index.index < length boards = omega (arith, w.if-index-len.true, c.len.ensures) in
          record {
            read = board_read (metered_device g.N.Nor.device) c.loop-index.index _ _ boards _ _ _ so.read there w.index_mut.ensures.value
                (ap devices w.boards-is)
                (mount_failed w.mount.result w.in_default.field-0 _ _ w.in_default.is w.mount.ensures.refused w.mount.ensures.stopped)
                w.mount.ensures.same_image;
          }
      | else-index-len w ↦ record { read = read_past _ _ _ _ so.read (ap devices w.boards-is) }
    ]

pub returns : goal.returns
returns g c = record { read = same_boards _ _ _ c.loop-index.invariant.read }

-- Worlds with their boards, and what was reported so far (docs/ARCHITECTURE.md, "The way of a script line").
use Rattle.std.specs.Prelude.{List}
use Rattle.dg_nor.specs.Device.{Device}
use Rattle.dg_script.specs.declared.report.Report.{Report}
use Rattle.dg_world.specs.declared.world.World.{World}

-- a world with its boards, and what was reported so far
pub record Deployment : Type 0 where
  pub world : World
  pub boards : List Device
  pub reported : List Report

abbrev pub deployed : World → List Device → List Report → Deployment
deployed world boards report = record { world = world; boards = boards; reported = report }

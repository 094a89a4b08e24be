-- Boards with what runs there.
use Rattle.std.specs.Prelude.{Option}
use Rattle.dg_nor.specs.Device.{Device}
use Rattle.dg_node.specs.declared.node.Node.{Node}

-- a board with its node, None if the node is off
pub record Host : Type 0 where
  pub board : Device
  pub runs : Option Node

abbrev pub host : Device → Option Node → Host
host board runs = record { board = board; runs = runs }

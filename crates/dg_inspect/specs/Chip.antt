-- What a chip that is only read shows (docs/COMMANDS.md, "Looking into chips").
use Rattle.std.specs.Prelude.{false, [], None}
use Rattle.dg_nor.specs.Device.{Device}
use Rattle.dg_inspect.specs.declared.chip.StillChip.{StillChip}

abbrev pub still_device : StillChip → Device
still_device c = record {
  image = c.cells.items;
  stopped = c.stopped;
  faults = c.faults;
  left = None;
  taken = None;
  blown = false;
  made = None;
  references = [];
  beneath = None;
}

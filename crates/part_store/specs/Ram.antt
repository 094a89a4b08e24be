-- What a chip in memory that never stops shows as a device (docs/PARTS.md, "The flash store").
use Rattle.std.specs.Prelude.{false, [], None}
use Rattle.dg_nor.specs.Device.{Device}
use Rattle.part_store.specs.declared.device.RamChip.{RamChip}

-- it never stops, counts nothing, and is a wrapper of nothing
abbrev pub ram_device : RamChip → Device
ram_device d = record {
  image = d.cells.items;
  stopped = false;
  faults = 0;
  left = None;
  taken = None;
  blown = false;
  made = None;
  references = [];
  beneath = None;
}

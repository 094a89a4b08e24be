-- What a meter exposes: all that its chip exposes, and the operations that were made on it.
use Rattle.std.specs.Prelude.{Some}
use Rattle.dg_nor.specs.Device.{Device}
use Rattle.dg_meter.specs.Tallies.{counts_of}
use Rattle.dg_meter.specs.declared.meter.Metered.{Metered}
use Rattle.dg_meter.specs.declared.tally.Tally.{Tally}

-- the chip
abbrev pub chip_of : {N : Type 0} {g : _} → Metered N g → N
chip_of m = m.inner

-- the operations that were made on it
abbrev pub tally_of : {N : Type 0} {g : _} → Metered N g → Tally
tally_of m = m.tally

-- what is known of it as a device: what is known of the chip, and how many operations were made in each part of it
abbrev pub metered_device : {N : Type 0} {g : _} → (N → Device) → Metered N g → Device
metered_device device m = record {
  image = (device m.inner).image;
  stopped = (device m.inner).stopped;
  faults = (device m.inner).faults;
  left = (device m.inner).left;
  taken = (device m.inner).taken;
  blown = (device m.inner).blown;
  made = Some (counts_of m.tally);
  references = (device m.inner).references;
  beneath = (device m.inner).beneath;
}

-- Base motes whose line brings honest frames (docs/PROMISES.md, "A base mote on a serial line").
use Rattle.std.specs.Prelude.{◌*◌, List, IsSomeAnd}
use Rattle.dg_object.specs.Object.{Row}
use Rattle.dg_mote.specs.Agreement.{IsHonest}
use Rattle.dg_mote.specs.Well.{IsWell}
use Rattle.dg_serial_base.specs.BaseEvents.{Base, At, BaseEvent, Hears, Ticks}

abbrev pub HonestBaseEvent : List Row → BaseEvent → Type 0
HonestBaseEvent table (Hears bytes) = IsHonest table bytes
HonestBaseEvent table Ticks = Unit {0}

-- the mote is on, and agrees with the table, and so does its chip
abbrev pub StandsWell : List Row → Base → At → Type 0
StandsWell table b there = IsSomeAnd there.mote (λ m. IsWell table m there.store (b.step * there.events))

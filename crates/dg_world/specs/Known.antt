-- Boards that are known: they may be mounted again by binary search (docs/IMAGES.md, "Mounting again").
use Rattle.std.specs.Prelude.{◌≡◌, ◌+◌, ◌*◌, ℕ, Bool, false, slice_index_or}
use Rattle.dg_nor.specs.Device.{Device, Took}
use Rattle.dg_control.specs.Sizes.{place_size}
use Rattle.dg_slot.specs.Layout.{page_size}
use Rattle.dg_volume.specs.Remount.{RemountBytes}
use Rattle.dg_rules.specs.World.{World as RuleWorld}
use Rattle.dg_rules.specs.Events.{Refuses, does}
use Rattle.dg_base.specs.declared.events.Event.{Event}
use Rattle.dg_base.specs.declared.events.Event.TheVariants.{Tick, Hear, Last, Reset, Inject, Order as OrderEvent, Frame}
use Rattle.dg_script.specs.declared.report.Cause.{Cause}
use Rattle.dg_script.specs.declared.report.Cause.TheVariants as cause
use Rattle.dg_world.specs.declared.world.World.{World}

-- the world knows the board of this mote
abbrev pub known_of : World → ℕ → Bool
known_of v m = slice_index_or v.known m false

-- the bytes that an injection with this refusal reads beyond mounting the board again
abbrev pub beyond : Cause → ℕ
beyond cause.Taken = page_size
beyond cause.Image = 0
beyond cause.Reserved = 0
beyond cause.Off = 0
beyond cause.Frame = 0
beyond cause.Link = 0
beyond cause.Empty = 0
beyond (cause.TooLarge length) = 0
beyond (cause.Stale version) = 0
beyond (cause.Worn room) = 0
beyond (cause.OldOrder number) = 0

abbrev pub IsInject : Event → Type 0
IsInject (Tick mote dt word) = ⊥
IsInject (Hear mote dt word frame) = ⊥
IsInject (Last from to dt word) = ⊥
IsInject (Frame mote dt word bytes) = ⊥
IsInject (Reset mote dt word) = ⊥
IsInject (Inject mote image version dt word) = Unit {0}
IsInject (OrderEvent mote number image version dt word) = ⊥

abbrev pub IsOrder : Event → Type 0
IsOrder (Tick mote dt word) = ⊥
IsOrder (Hear mote dt word frame) = ⊥
IsOrder (Last from to dt word) = ⊥
IsOrder (Frame mote dt word bytes) = ⊥
IsOrder (Reset mote dt word) = ⊥
IsOrder (Inject mote image version dt word) = ⊥
IsOrder (OrderEvent mote number image version dt word) = Unit {0}

-- What an event reads of a known board that is mounted again by n bytes. An order reads at most twice as many and 64 more,
-- since a cut that fired mounts once more. A refused injection mounts once.
pub record OrderTakes (event : Event) (a b : Device) : Type 0 where
  pub took : IsOrder event → (n : ℕ) → RemountBytes a.image n → Took (2 * n + place_size) a b

pub record InjectTakes (w : RuleWorld) (event : Event) (a b : Device) : Type 0 where
  pub took : IsInject event → (n : ℕ) (why : Cause) → does w event ≡ Refuses why → RemountBytes a.image n
      → Took (n + beyond why) a b

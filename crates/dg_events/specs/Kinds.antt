-- The numbers of kinds, in the order of their names in keys (docs/COMMANDS.md, "What a script costs").
use Rattle.std.specs.Prelude.{ℕ, List, [], ◌∷◌, codes}
use Rattle.dg_base.specs.declared.events.Event.{Event}
use Rattle.dg_base.specs.declared.events.Event.TheVariants.{Tick, Hear, Last, Reset, Inject, Order as OrderEvent, Frame}
use Rattle.dg_script.specs.declared.report.Cause.{Cause}
use Rattle.dg_script.specs.declared.report.Cause.TheVariants as cause

-- tick, hear, last, reset, inject, order, frame
abbrev pub event_number : Event → ℕ
event_number (Tick mote dt word) = 0
event_number (Hear mote dt word frame) = 1
event_number (Last from to dt word) = 2
event_number (Reset mote dt word) = 3
event_number (Inject mote image version dt word) = 4
event_number (OrderEvent mote number image version dt word) = 5
event_number (Frame mote dt word bytes) = 6

-- off, frame, link, image, empty, toolarge, reserved, stale, taken, worn, oldorder
abbrev pub cause_number : Cause → ℕ
cause_number cause.Off = 0
cause_number cause.Frame = 1
cause_number cause.Link = 2
cause_number cause.Image = 3
cause_number cause.Empty = 4
cause_number (cause.TooLarge length) = 5
cause_number cause.Reserved = 6
cause_number (cause.Stale version) = 7
cause_number cause.Taken = 8
cause_number (cause.Worn room) = 9
cause_number (cause.OldOrder number) = 10

-- ---- their names in keys

abbrev pub event_names : List (List ℕ)
event_names =
    codes "tick" ∷ codes "hear" ∷ codes "last" ∷ codes "reset" ∷ codes "inject" ∷ codes "order" ∷ codes "frame" ∷ []

abbrev pub cause_names : List (List ℕ)
cause_names =
    codes "off" ∷ codes "frame" ∷ codes "link" ∷ codes "image" ∷ codes "empty" ∷ codes "toolarge" ∷ codes "reserved"
    ∷ codes "stale" ∷ codes "taken" ∷ codes "worn" ∷ codes "oldorder" ∷ []

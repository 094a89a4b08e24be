-- The ranges of a command's values (the words of docs/COMMANDS.md).
use Rattle.std.specs.Prelude.{◌≡◌, ◌⊎◌, ◌≤◌, ⊤, true}
use Rattle.dg_command.specs.Asking.{Said, Replay, Serve, Format, Inject, Order, Boot, Ping, Dump, Migrate, Trial, Wrap, Check}
use Rattle.dg_command.specs.Asking.{Receive, Drip, Base, Asking, Asks, Helps, TellsVersion, Misuses, is_well_formed}
use Rattle.dg_command.specs.Sizes.{last_slot, most_turns, most_room, least_motes, most_motes, least_pages, most_pages, most_step}
use Rattle.dg_command.specs.Sizes.{most_id, old_form, new_form}

abbrev pub IsInBounds : Said → Type 0
IsInBounds (Replay flashes) = ⊤
IsInBounds (Serve turns seed flashes) = (1 ≤ turns) × (turns ≤ most_turns)
IsInBounds (Format name used form flash) = (used ≤ most_room) × ((form ≡ old_form) ⊎ (form ≡ new_form))
IsInBounds (Inject image version name flash) = (image ≤ last_slot) × (1 ≤ version)
IsInBounds (Order number image version flash) = (1 ≤ number) × (image ≤ last_slot) × (1 ≤ version)
IsInBounds (Boot flash) = ⊤
IsInBounds (Ping flash) = ⊤
IsInBounds (Dump image flash) = image ≤ last_slot
IsInBounds (Migrate flash) = ⊤
IsInBounds (Trial motes pages seed) = (least_motes ≤ motes) × (motes ≤ most_motes) × (least_pages ≤ pages) × (pages ≤ most_pages)
IsInBounds Wrap = ⊤
IsInBounds (Check image root flash) = image ≤ last_slot
IsInBounds (Receive image version name root flash) = (1 ≤ image) × (image ≤ last_slot) × (1 ≤ version)
IsInBounds Drip = ⊤
IsInBounds (Base id step seed flash) = (id ≤ most_id) × (1 ≤ step) × (step ≤ most_step)

-- a command's numbers are in their ranges, and its texts have their form
abbrev pub FitsRanges : Asking → Type 0
FitsRanges (Asks said) = IsInBounds said × (is_well_formed said ≡ true)
FitsRanges Helps = ⊤
FitsRanges TellsVersion = ⊤
FitsRanges Misuses = ⊤

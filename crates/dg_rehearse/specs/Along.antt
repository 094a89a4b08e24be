-- Frames go along links: what is heard was sent by a neighbour (docs/COMMANDS.md, "Rehearsing by the clock").
use Rattle.std.specs.Prelude.{◌≡◌, ℕ, ◌<◌, Bool, true, false, List, slice_index_or, IsSomeAnd}
use Rattle.dg_base.specs.declared.events.Event.{Event}
use Rattle.dg_base.specs.declared.events.Event.TheVariants.{Tick, Hear, Last, Reset, Inject, Order, Frame}
use Rattle.dg_netcfg.specs.declared.profile.NetProfile.{NetProfile}
use Rattle.dg_rules.specs.Runs.{Played}
use Rattle.dg_rules.specs.World.{World, frame_at}
use Rattle.dg_script.specs.Items.{Item, Declares, Applies}
use Rattle.dg_script.specs.Places.{is_linked}
use Rattle.dg_script.specs.Sizes.{most_motes}

-- The frame that an event delivers was sent before it, and a link of the profile joins the mote that sent it and the one that
-- hears it. Only such an event delivers a frame.
abbrev pub IsAlongEvent : NetProfile → World → Event → Type 0
IsAlongEvent n w (Tick mote dt word) = Unit {0}
IsAlongEvent n w (Hear mote dt word frame) = IsSomeAnd (frame_at w frame) (λ f. is_linked n.links f.by mote ≡ true)
IsAlongEvent n w (Last from to dt word) = ⊥
IsAlongEvent n w (Reset mote dt word) = Unit {0}
IsAlongEvent n w (Inject mote image version dt word) = Unit {0}
IsAlongEvent n w (Order mote number image version dt word) = Unit {0}
IsAlongEvent n w (Frame mote dt word bytes) = ⊥

abbrev pub IsAlongItem : NetProfile → World → Item → Type 0
IsAlongItem n w (Declares row) = Unit {0}
IsAlongItem n w (Applies step reported) = IsAlongEvent n w step.event

-- an item that was played delivered no frame except along a link
abbrev pub IsAlong : NetProfile → Played → Type 0
IsAlong n p = IsAlongItem n p.before p.item

-- of the motes that a script can have, those are marked that a link joins with this one
abbrev pub AreNeighbours : (marks : List Bool) → List (ℕ × ℕ) → ℕ → Type 0
AreNeighbours marks links mote = (other : ℕ) → other < most_motes → slice_index_or marks other false ≡ is_linked links mote other

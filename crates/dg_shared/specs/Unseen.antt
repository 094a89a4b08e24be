-- Refusals that look at no chip (docs/ARCHITECTURE.md, "The way of a script line").
use Rattle.std.specs.Prelude.{◌≡◌, Bool, true, false}
use Rattle.dg_rules.specs.Events.{Does, Refuses, Goes}
use Rattle.dg_script.specs.declared.report.Cause.{Cause}
use Rattle.dg_script.specs.declared.report.Cause.TheVariants.{Off, Frame, Link, Image, Empty, TooLarge, Reserved, Stale, Taken}
use Rattle.dg_script.specs.declared.report.Cause.TheVariants.{Worn, OldOrder}

-- What does not depend on the chip: whether the mote is on, what was sent and declared, who is a neighbour, which images the
-- mote knows, and that golden is not injected. All else depends on the volume, which is mounted first.
abbrev pub is_unseen : Cause → Bool
is_unseen Off = true
is_unseen Frame = true
is_unseen Link = true
is_unseen Image = true
is_unseen Reserved = true
is_unseen Empty = false
is_unseen (TooLarge length) = false
is_unseen (Stale version) = false
is_unseen Taken = false
is_unseen (Worn room) = false
is_unseen (OldOrder number) = false

-- an event is refused for such a cause
abbrev pub RefusesUnseen : Does → Type 0
RefusesUnseen (Refuses why) = is_unseen why ≡ true
RefusesUnseen (Goes effect) = ⊥

-- What the command that runs a base mote over the first board did (docs/COMMANDS.md, "Base").
use Rattle.std.specs.Prelude.{◌≡◌, List, [], ◌∷◌, codes}
use Rattle.dg_base.specs.declared.answers.Status.{Status}
use Rattle.dg_base.specs.declared.answers.Status.TheVariants.{NoBoard}
use Rattle.dg_nor.specs.Device.{Device}
use Rattle.dg_outside.specs.Outside.{Outside}
use Rattle.dg_end.specs.Texts.{line}
use Rattle.dg_serial_base.specs.BaseEvents.{Base}
use Rattle.dg_serial_base.specs.Done.{BasedOn}
use Rattle.dg_cli.specs.Words.{TextDone}

-- over the first of the boards, and the others are as before; or it is written that there is none
abbrev pub BasedOver : Base → Status → Outside → Outside → (old new : List Device) → Type 0
BasedOver base status a b [] [] = TextDone (line (codes "noboard 1 0")) NoBoard status a b
BasedOver base status a b (old ∷ others) (new ∷ rest) = BasedOn base status old new a b × (rest ≡ others)
BasedOver base status a b old new = ⊥

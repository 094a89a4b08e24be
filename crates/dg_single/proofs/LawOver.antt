-- The parts of a service of one mote are those of a service.
use Rattle.std.proofs.Common.{◌≡◌, ℕ, ◌<◌, Bool, true, false, List, [], ◌∷◌, ◌++◌, sym, subst}
use Rattle.std.specs.List.{AllByRecursion}
use Rattle.dg_serve.specs.Services.{Part}
use Rattle.dg_serve.proofs.RunLemmas.{PartFits, all_front, all_back}
use Rattle.dg_single.specs.Plans.{turns_of, plan_of}

turns_fit : (motes mote : ℕ) (ticks : List Bool) → mote < motes → AllByRecursion (PartFits motes) (turns_of mote ticks)
turns_fit motes mote [] known = tt
turns_fit motes mote (true ∷ ticks) known = (known, (known, turns_fit motes mote ticks known))
turns_fit motes mote (false ∷ ticks) known = (known, turns_fit motes mote ticks known)

pub done_fits : (motes mote : ℕ) (ticks : List Bool) (done left : List Part) → mote < motes → done ++ left ≡ plan_of mote ticks → AllByRecursion (PartFits motes) done
done_fits motes mote ticks done left known parts = all_front (PartFits motes) done left (subst (AllByRecursion (PartFits motes)) (sym parts) (known, turns_fit motes mote ticks known))

pub left_fits : (motes mote : ℕ) (ticks : List Bool) (done left : List Part) → mote < motes → done ++ left ≡ plan_of mote ticks → AllByRecursion (PartFits motes) left
left_fits motes mote ticks done left known parts = all_back (PartFits motes) done left (subst (AllByRecursion (PartFits motes)) (sym parts) (known, turns_fit motes mote ticks known))

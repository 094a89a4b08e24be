use Rattle.std.proofs.Common.{◌≡◌, ℕ, Some, None, get_or, subst}
use Rattle.dg_volume.proofs.LendingLemmas.{KeptFits, kept_fits}
use Rattle.dg_volume.proofs.volume.Volume.slot.Goals as goal

fits : (c : goal.After-kept-2-1) → KeptFits c.in_ok-kept.kept
fits c = kept_fits c.requires.mounted.0 c.args.self.now c.args.image c.in_ok-kept.kept c.requires.known_image c.requires.mounted.1
    (subst (λ (n : ℕ). get_or c.args.self.now.kept n None ≡ Some c.in_ok-kept.kept) c.from-index.ensures c.in_ok-kept.was)

pub open_slot-requires-clause-some_version : goal.open_slot-requires-clause-some_version
open_slot-requires-clause-some_version c = (fits c).some_version

pub open_slot-requires-clause-some_pages : goal.open_slot-requires-clause-some_pages
open_slot-requires-clause-some_pages c = (fits c).some_pages

pub open_slot-requires-clause-most_pages : goal.open_slot-requires-clause-most_pages
open_slot-requires-clause-most_pages c = (fits c).most_pages

pub open_slot-requires-clause-within : goal.open_slot-requires-clause-within
open_slot-requires-clause-within c = (fits c).within

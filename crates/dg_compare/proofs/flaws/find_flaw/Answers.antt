use Rattle.std.proofs.Common.{ℕ, ◌<◌, List, Option, None, get_or, sym, subst}
use Rattle.dg_volume.specs.Sizes.{images}
use Rattle.dg_volume.specs.Store.{held}
use Rattle.dg_inspect.specs.Pages.{ShowsKept}
use Rattle.dg_inspect.specs.declared.seen.ImageSeen.{ImageSeen}
use Rattle.dg_compare.specs.Sound.{IsSound, HasRoots, IsFirstFlaw}
use Rattle.dg_compare.proofs.FlawLemmas.{none_by, with_more}
use Rattle.dg_compare.proofs.flaws.find_flaw.Goals as goal

pub returns-in-Some : goal.returns-in-Some
returns-in-Some c c' s stands shown =
    let each = subst (λ (xs : List (Option ImageSeen)). (i : ℕ) → i < images → ShowsKept (held s i) (get_or xs i None)) (sym c.deref.ensures.value) shown.images in
    let found = rw c.in-Some.is at (c.first_image_flaw.ensures c' s c.args.rooted.now stands each) in
    found

pub returns-in-Some-program_flaw : goal.returns-in-Some-program_flaw
returns-in-Some-program_flaw c c' s stands shown =
    let each = subst (λ (xs : List (Option ImageSeen)). (i : ℕ) → i < images → ShowsKept (held s i) (get_or xs i None)) (sym c.deref.ensures.value) shown.images in
    let found = rw c.in-Some-program_flaw.is at (c.program_flaw.ensures c' s.app stands.contains.app shown.program) in
    (none_by _ _ _ c.in_default.not-Some (c.first_image_flaw.ensures c' s c.args.rooted.now stands each), found)

pub returns : goal.returns
returns c c' s stands shown =
    let each = subst (λ (xs : List (Option ImageSeen)). (i : ℕ) → i < images → ShowsKept (held s i) (get_or xs i None)) (sym c.deref.ensures.value) shown.images in
    let other = subst (λ (xs : List (Option ImageSeen)). (i : ℕ) → i < images → ShowsKept (held s i) (get_or xs i None)) (sym c.deref-2.ensures.value) shown.images in
    let sound : IsSound s = record {
      kept = none_by _ _ _ c.in_default.not-Some (c.first_image_flaw.ensures c' s c.args.rooted.now stands each);
      program = none_by _ _ _ c.in_default-program_flaw.not-Some (c.program_flaw.ensures c' s.app stands.contains.app shown.program);
    } in
    with_more c.root_flaw.result (IsSound s) (HasRoots s c.args.rooted.now) (IsFirstFlaw s c.args.rooted.now) sound (c.root_flaw.ensures c' s stands sound other)

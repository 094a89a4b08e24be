use Rattle.std.proofs.Common.{◌≢◌, ◌<◌, length, None, get_or, sym, ap, ◌∙◌, ⊎_elim, arith, get_or-set_other, get_or-set_same, set, subst, List, Option}
use Rattle.std.proofs.Math.ListN.{length-set}
use Rattle.std.proofs.lemmas.Bool.{cases_eq}
use Rattle.dg_volume.specs.Store.{held}
use Rattle.dg_inspect.specs.Pages.{ShowsKept}
use Rattle.dg_inspect.specs.declared.seen.ImageSeen.{ImageSeen}
use Rattle.dg_inspect.specs.Numbers.{next_version}
use Rattle.dg_inspect.proofs.numbers.next_numbers.Goals as goal

pub loop-image-preserved : goal.loop-image-preserved
loop-image-preserved c =
    let before = c.loop-image.invariant in
    let i = c.loop-image.image in
    let old = c.loop-image.versions in
    let new = c.next_version_at.result in
    let within : i < length old = omega (arith, before.long, c.loop-image-test.true) in
    let other : 0 ≢ i = omega arith in
    record {
      long = length-set old i new ∙ before.long;
      golden = get_or-set_other old i 0 new None other ∙ before.golden;
      some = omega arith;
      told = λ s shown j some low. ⊎_elim
          (λ same.
          ap (λ k. get_or (set old i new) k None) same ∙ get_or-set_same old i new None within
          ∙ c.next_version_at.ensures (held s i) (subst (λ (xs : List (Option ImageSeen)). ShowsKept (held s i) (get_or xs i None)) (sym c.deref.ensures.value) (shown.images i (omega arith)))
          ∙ ap (λ r. next_version r (held s i)) shown.room ∙ ap (λ k. next_version s.room (held s k)) (sym same))
          (λ differ. get_or-set_other old i j new None differ ∙ before.told s shown j some (omega arith))
          (cases_eq j i);
    }

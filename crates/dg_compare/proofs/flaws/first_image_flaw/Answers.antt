use Rattle.std.proofs.Common.{◌≡◌, ℕ, ◌<◌, Option, None, IfSome, sym, subst, arith, below_more, get_or}
use Rattle.std.proofs.lemmas.List.{get_or_read}
use Rattle.dg_volume.specs.Sizes.{images}
use Rattle.dg_volume.specs.Store.{held}
use Rattle.dg_volume.specs.Consistent.{IsSoundSoFar}
use Rattle.dg_inspect.specs.Pages.{ShowsKept}
use Rattle.dg_inspect.specs.declared.seen.ImageSeen.{ImageSeen}
use Rattle.dg_compare.proofs.FlawLemmas.{none_by}
use Rattle.dg_compare.proofs.flaws.first_image_flaw.Goals as goal

pub returns-in-Some : goal.returns-in-Some
returns-in-Some c c' s r stands shown =
    let i = c.loop-image.image in
    let low : i < images = omega (arith, c.loop-image-test.true) in
    let same : c.index-seen-image.result ≡ get_or c.args.seen.now i None = get_or_read c.args.seen.now i _ (omega (arith, c.requires, low)) c.index-seen-image.is None in
    let here = c.image_flaw.ensures c' i (held s i) (stands.contains.kept i low) (subst (λ (x : Option ImageSeen). ShowsKept (held s i) x) (sym same) (shown i low)) in
    (low, c.loop-image.invariant c' s stands shown, rw c.in-Some.is at here)

pub loop-image-preserved : goal.loop-image-preserved
loop-image-preserved c c' s stands shown =
    let i = c.loop-image.image in
    let low : i < images = omega (arith, c.loop-image-test.true) in
    let same : c.index-seen-image.result ≡ get_or c.args.seen.now i None = get_or_read c.args.seen.now i _ (omega (arith, c.requires, low)) c.index-seen-image.is None in
    let here = c.image_flaw.ensures c' i (held s i) (stands.contains.kept i low) (subst (λ (x : Option ImageSeen). ShowsKept (held s i) x) (sym same) (shown i low)) in
    below_more (λ j. IfSome (held s j) (IsSoundSoFar j)) i (c.loop-image.invariant c' s stands shown) (none_by _ _ _ c.in_default.not-Some here)

pub returns : goal.returns
returns c c' s r stands shown i low = c.loop-image.invariant c' s stands shown i (omega arith)

use Rattle.std.proofs.Common.{◌≡◌, ℕ, ◌+◌, List, [], ◌∷◌, ◌++◌, length, get_or, sym, ap, subst, ◌∙◌, arith, length-append}
use Rattle.dg_inspect.proofs.SeenLemmas.{each_more}
use Rattle.dg_compare.specs.Alike.{ComparesImage}
use Rattle.dg_compare.specs.declared.results.ImageCompared.{ImageCompared}
use Rattle.dg_compare.proofs.comparing.compare_images.Goals as goal

pub loop-image-preserved : goal.loop-image-preserved
loop-image-preserved c =
    let before = c.loop-image.invariant in
    let i = c.loop-image.image in
    let held_before : List ImageCompared = c.loop-image.found.items in
    let items : c.push.new.self.items ≡ held_before ++ c.compare_image.result ∷ [] = c.in_ok-push.ensures.items in
    record {
      compared = λ s t a b x y j d low. subst (λ (xs : List ImageCompared). ComparesImage s t j (get_or xs j d)) (sym items)
          (each_more (λ k z. ComparesImage s t k z) held_before c.compare_image.result d i before.count (λ k l. before.compared s t a b x y k d l) (c.compare_image.ensures s t a b x y) j low);
      count = ap length items ∙ length-append held_before (c.compare_image.result ∷ []) ∙ ap (λ n. n + 1) before.count;
    }

pub returns-clause-compares : goal.returns-clause-compares
returns-clause-compares c s t a b x y j d low = c.loop-image.invariant.compared s t a b x y j d (omega arith)

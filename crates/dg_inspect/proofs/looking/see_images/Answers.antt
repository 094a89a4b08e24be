use Rattle.std.proofs.Common.{◌≡◌, ℕ, ◌+◌, List, [], ◌∷◌, ◌++◌, length, Option, sym, ap, subst, ◌∙◌, None, get_or, length-append}
use Rattle.dg_inspect.specs.declared.seen.ImageSeen.{ImageSeen}
use Rattle.dg_nor.proofs.ReadLemmas.{Looked_then, ReadStopped_after}
use Rattle.dg_volume.specs.Store.{held}
use Rattle.dg_volume.specs.Stands.{Mounted, IsMounted}
use Rattle.dg_inspect.specs.Pages.{ShowsKept}
use Rattle.dg_inspect.proofs.SeenLemmas.{each_more, look_stopped}
use Rattle.dg_inspect.proofs.looking.see_images.Goals as goal

pub see_image-requires-clause-mounted : goal.see_image-requires-clause-mounted
see_image-requires-clause-mounted g c = subst (λ (x : List ℕ). IsMounted x c.args.volume.now) (sym c.loop-image.invariant.looked.same_image) c.requires.mounted

pub loop-image-preserved : goal.loop-image-preserved
loop-image-preserved g c =
    let before = c.loop-image.invariant in
    let i = c.loop-image.image in
    let held_before : List (Option ImageSeen) = c.loop-image.seen.items in
    let items : c.push.new.self.items ≡ held_before ++ c.in_ok-next.next ∷ [] = c.in-Ok.ensures.items in
    let long = length-append held_before (c.in_ok-next.next ∷ []) in
    record {
      shown = λ s mounted j low. subst (λ (xs : List (Option ImageSeen)). ShowsKept (held s j) (get_or xs j None)) (sym items)
          (each_more (λ k x. ShowsKept (held s k) x) held_before c.in_ok-next.next None i before.count (before.shown s mounted) (c.in_ok-next.ensures.shows s (subst (λ (x : List ℕ). Mounted x c.args.volume.now s) (sym before.looked.same_image) mounted)) j low);
      count = ap length items ∙ long ∙ ap (λ n. n + 1) before.count;
      looked = Looked_then before.looked c.in_ok-next.ensures.ends;
    }

pub returns-in_err-next-clause-ends : goal.returns-in_err-next-clause-ends
returns-in_err-next-clause-ends g c = look_stopped c.from_residual.result _ _ c.from_residual.ensures.1 (ReadStopped_after c.loop-image.invariant.looked c.in_err-next.ensures.ends)

pub returns-in-Err-clause-ends : goal.returns-in-Err-clause-ends
returns-in-Err-clause-ends g c = Looked_then c.loop-image.invariant.looked c.in_ok-next.ensures.ends

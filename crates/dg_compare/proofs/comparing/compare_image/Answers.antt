use Rattle.std.proofs.Common.{◌≡◌, ℕ, ◌<◌, List, Option, None, get_or, sym, ap, subst, ◌∙◌, arith}
use Rattle.std.proofs.lemmas.List.{get_or_read}
use Rattle.dg_volume.specs.Store.{held}
use Rattle.dg_inspect.specs.Pages.{ShowsKept}
use Rattle.dg_inspect.specs.declared.seen.ImageSeen.{ImageSeen}
use Rattle.dg_compare.specs.Alike.{leads}
use Rattle.dg_compare.proofs.comparing.compare_image.Goals as goal

pub returns : goal.returns
returns c s t stands other shown other_shown =
    let i = c.args.image in
    let xs : List (Option ImageSeen) = c.args.seen.now.images.items in
    let ys : List (Option ImageSeen) = c.args.other_seen.now.images.items in
    let x : c.index-kept.result.now ≡ get_or xs i None = get_or_read xs c.from.result _ (omega (arith, c.requires.count, c.requires.known_image, c.from.ensures)) c.index-kept.ensures None ∙ ap (λ n. get_or xs n None) c.from.ensures in
    let y : c.index-other_kept.result.now ≡ get_or ys i None = get_or_read ys c.from-2.result _ (omega (arith, c.requires.other_count, c.requires.known_image, c.from-2.ensures)) c.index-other_kept.ensures None ∙ ap (λ n. get_or ys n None) c.from-2.ensures in
    let mine : ShowsKept (held s i) c.index-kept.result.now = subst (ShowsKept (held s i)) (sym x) (shown.images i c.requires.known_image) in
    let their : ShowsKept (held t i) c.index-other_kept.result.now = subst (ShowsKept (held t i)) (sym y) (other_shown.images i c.requires.known_image) in
    let shared = c.shared_pages-shared.ensures (held s i) (held t i) (stands.contains.kept i c.requires.known_image) (other.contains.kept i c.requires.known_image) mine their in
    record {
      ahead = c.ahead.ensures (held s i) (held t i) mine their ∙ ap (λ n. leads (held s i) (held t i) n c.args.other_seen.now.room) shown.room ∙ ap (λ n. leads (held s i) (held t i) s.room n) other_shown.room;
      shared = shared;
      alike = c.is_kept_alike.ensures (held s i) (held t i) mine their shared;
    }

use Rattle.std.proofs.Common.{◌≡◌, sym, ◌∙◌, subst, refl, take, drop}
use Rattle.std.proofs.lemmas.Bool.{false≢true}
use Rattle.dg_object.proofs.HeadLemmas.{one_head, head_tag}
use Rattle.dg_object.proofs.RestLemmas.{descriptor_from_parts, rest_of_descriptor, tag_of_page}
use Rattle.dg_object.specs.Descriptor.{Details, IsHead, RestFits}
use Rattle.dg_object.specs.Records.{details_of}
use Rattle.dg_object.proofs.descriptor.Descriptor.read.Goals as goal

pub returns-then-rest_fits-clause-ok : goal.returns-then-rest_fits-clause-ok
returns-then-rest_fits-clause-ok c =
    let front : c.copy_from_slice.new.self ≡ take 28 c.args.page.now = c.copy_from_slice.ensures.after in
    let head : IsHead (take 28 c.args.page.now) (details_of c.in_ok-descriptor.descriptor) = rw front at c.in_ok-descriptor.ensures.ok in
    descriptor_from_parts c.args.page.now (details_of c.in_ok-descriptor.descriptor) c.told-page head (c.rest_fits.ensures.0 c.if-rest_fits.true)

pub returns-then-rest_fits-clause-range : goal.returns-then-rest_fits-clause-range
returns-then-rest_fits-clause-range c =
    (λ e. absurd (cc), λ no. absurd (no.1 (details_of c.in_ok-descriptor.descriptor) (returns-then-rest_fits-clause-ok c)))

pub returns-else-rest_fits-clause-found : goal.returns-else-rest_fits-clause-found
returns-else-rest_fits-clause-found c = λ d is.
    let front : c.copy_from_slice.new.self ≡ take 28 c.args.page.now = c.copy_from_slice.ensures.after in
    let read = details_of c.in_ok-descriptor.descriptor in
    let head : IsHead (take 28 c.args.page.now) read = rw front at c.in_ok-descriptor.ensures.ok in
    let P : Details → Type 0 = λ e. RestFits e.pages 28 (take 1076 (drop 28 c.args.page.now)) in
    let rest = subst P (sym (one_head (take 28 c.args.page.now) read d head is.head)) (rest_of_descriptor c.args.page.now d c.told-page is) in
    false≢true (sym c.if-rest_fits.false ∙ c.rest_fits.ensures.1 rest)

pub returns-else-rest_fits-clause-range : goal.returns-else-rest_fits-clause-range
returns-else-rest_fits-clause-range c =
    let front : c.copy_from_slice.new.self ≡ take 28 c.args.page.now = c.copy_from_slice.ensures.after in
    let head : IsHead (take 28 c.args.page.now) (details_of c.in_ok-descriptor.descriptor) = rw front at c.in_ok-descriptor.ensures.ok in
    (λ _. (tag_of_page c.args.page.now (head_tag head), returns-else-rest_fits-clause-found c), λ _. refl)

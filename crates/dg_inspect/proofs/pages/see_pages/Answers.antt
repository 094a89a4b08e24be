use Rattle.std.proofs.Common.{ℕ, List, sym, ap, subst, ◌∙◌, rules}
use Rattle.dg_object.specs.Descriptor.{IsDescriptor}
use Rattle.dg_object.specs.Records.{details_of}
use Rattle.dg_slot.specs.Pages.{page_in}
use Rattle.dg_inspect.specs.Pages.{pages_from, is_unsound, bytes_seen}
use Rattle.dg_nor.proofs.ReadLemmas.{Looked_then, read_after}
use Rattle.dg_inspect.proofs.PageLemmas.{said_is}
use Rattle.dg_inspect.proofs.pages.see_pages.Goals as goal

pub see_bytes_if_whole-requires-clause-described : goal.see_bytes_if_whole-requires-clause-described
see_bytes_if_whole-requires-clause-described g c =
    let found = rw c.in-Some.is at c.in_ok-descriptor.ensures.descriptor in
    let same = c.in_ok-unsound.ensures.ends.same_image ∙ c.in_ok-descriptor.ensures.ends.same_image in
    subst (λ (x : List ℕ). IsDescriptor (page_in x c.args.first) (details_of c.in-Some.descriptor)) (sym same) found

pub returns-clause-shows : goal.returns-clause-shows
returns-clause-shows g c = λ d is.
    let image = (g.N.Nor.device c.args.nor.now).image in
    let found = rw c.in-Some.is at c.in_ok-descriptor.ensures.descriptor in
    let one = c.in_ok-descriptor.ensures.ends.same_image in
    let two = c.in_ok-unsound.ensures.ends.same_image in
    record {
      said = sym (said_is image c.args.first c.args.done (details_of c.in-Some.descriptor) c.requires.some found);
      unsound = λ p. c.in_ok-unsound.ensures.unsound p ∙ ap (λ (x : List ℕ). is_unsound (pages_from x c.args.first c.args.done) p) one;
      bytes = c.in_ok-bytes.ensures.bytes ∙ ap (λ (x : List ℕ). bytes_seen (pages_from x c.args.first c.args.done)) (two ∙ one);
    }

pub returns-in_err-bytes-clause-ends : goal.returns-in_err-bytes-clause-ends
returns-in_err-bytes-clause-ends g c = read_after c.from_residual-in_err-bytes.result _ _ _ (Looked_then c.in_ok-descriptor.ensures.ends c.in_ok-unsound.ensures.ends) (search rules)

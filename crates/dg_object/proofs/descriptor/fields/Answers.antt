use Rattle.std.proofs.Common.{sym, ap, ◌∙◌, arith}
use Rattle.std.proofs.lemmas.Bool.{false≢true}
use Rattle.dg_object.specs.Object.{pages_for}
use Rattle.dg_object.proofs.HeadLemmas.{name_field_is, spelled_fields, head_image, head_pages, head_version, head_length, head_name}
use Rattle.dg_object.proofs.descriptor.fields.Goals as goal

pub returns-in_err-name-clause-none : goal.returns-in_err-name-clause-none
returns-in_err-name-clause-none c =
    rw c.from_residual.ensures (λ d is. c.in_err-name.ensures.none d.name is.range.name (name_field_is c.args.head.now c.told-head ∙ head_name is))

pub returns-then-in_range-clause-some : goal.returns-then-in_range-clause-some
returns-then-in_range-clause-some c =
    let named = c.in_ok-name.ensures.some in
    let range = c.in_range.ensures.0 c.if-in_range.true in
    let filled = sym (name_field_is c.args.head.now c.told-head) ∙ named.1 in
    let fields = spelled_fields c.args.head.now c.in_ok-name.name c.told-head c.fits-head (record { first = c.requires.first; second = c.requires.second }) filled in
    record {
      spelled = rw (c.word_at.ensures, c.word_at-2.ensures) fields;
      range = record {
        image = range.0;
        version = range.1;
        version_fits = c.word_at.type_inv;
        some = range.2;
        fits = range.3;
        pages = range.4;
        name = named.0;
      };
    }

pub returns-else-in_range-clause-none : goal.returns-else-in_range-clause-none
returns-else-in_range-clause-none c = λ d is.
    let image = head_image is in
    let pages = head_pages is in
    let version = c.word_at.ensures ∙ head_version is in
    let len = c.word_at-2.ensures ∙ head_length is in
    false≢true (sym c.if-in_range.false ∙ c.in_range.ensures.1 (omega (arith, is.range.image), omega (arith, is.range.version), omega (arith, is.range.some), omega (arith, is.range.fits), pages ∙ is.range.pages ∙ ap pages_for (sym len)))

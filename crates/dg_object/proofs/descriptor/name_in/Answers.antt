use Rattle.std.proofs.Common.{◌≡◌, take, sym, ap, ◌∙◌}
use Rattle.std.proofs.lemmas.Bool.{false≢true}
use Rattle.dg_base.specs.Texts.{spells_name}
use Rattle.dg_object.proofs.NameLemmas.{name_is_front, length_of_name, behind_is_filling, padded-from_parts}
use Rattle.dg_object.proofs.descriptor.name_in.Goals as goal

pub returns-then-not-is_name-clause-none : goal.returns-then-not-is_name-clause-none
returns-then-not-is_name-clause-none c = λ n h is.
    let len = c.name_len.ensures in
    let same : c.split_at.result.0.now ≡ n =
    c.split_at.ensures.front ∙ name_is_front c.args.field.now n c.name_len.result h is c.requires len.within len.before len.ended in
    false≢true (sym c.if-not-is_name.true ∙ c.is_name.ensures ∙ ap spells_name same ∙ h)

pub returns-then-not-is_padding-clause-none : goal.returns-then-not-is_padding-clause-none
returns-then-not-is_padding-clause-none c = λ n h is.
    let len = c.name_len.ensures in
    let long = length_of_name c.args.field.now n c.name_len.result h is c.requires len.within len.before len.ended in
    let filled = rw c.split_at.ensures.back at c.is_padding.ensures.1 in
    false≢true (sym c.if-not-is_padding.true ∙ filled (λ j low. behind_is_filling c.args.field.now n c.name_len.result j is long low c.requires))

pub returns-clause-some : goal.returns-clause-some
returns-clause-some c =
    let front : c.new.result ≡ take c.name_len.result c.args.field.now = c.new.ensures ∙ c.split_at.ensures.front in
    let filled = rw c.split_at.ensures.back at (c.is_padding.ensures.0 c.if-not-is_padding.false) in (
      ap spells_name c.new.ensures ∙ sym c.is_name.ensures ∙ c.if-not-is_name.false,
      rw front (padded-from_parts 16 0 c.name_len.result c.args.field.now c.requires (rw c.requires at c.name_len.ensures.within) filled),
    )

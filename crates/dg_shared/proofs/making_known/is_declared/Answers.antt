use Rattle.std.proofs.Common.{refl, ◌∙◌}
use Rattle.dg_base.specs.declared.events.ImageVersion.{ImageVersion}
use Rattle.dg_shared.specs.Images.{row_of_image}
use Rattle.dg_shared.proofs.ImageLemmas.{known_row, unknown_row}
use Rattle.dg_shared.proofs.MakesLemmas.{narrow_injects, golden_makes, unknown_makes, known_makes, not_zero}
use Rattle.dg_shared.proofs.making_known.is_declared.Goals as goal

pub returns-then-not-knows : goal.returns-then-not-knows
returns-then-not-knows c = λ w dt word is. (λ x. absurd cc, λ made. absurd (narrow_injects w c.args.mote c.args.image c.args.version dt word (c.knows.ensures w is ∙ c.if-not-knows.true) made))

pub returns-then-image-eq0 : goal.returns-then-image-eq0
returns-then-image-eq0 c = λ w dt word is. (λ x. absurd cc, λ made. absurd (golden_makes w c.args.mote c.args.image c.args.version dt word (c.knows.ensures w is ∙ c.if-not-knows.false) c.if-image-eq0.true made))

pub returns-in-None : goal.returns-in-None
returns-in-None c = λ w dt word is.
    let image_version : ImageVersion = record { image = c.args.image; version = c.args.version } in
    (λ x. absurd cc, λ made. absurd (unknown_makes w c.args.mote c.args.image c.args.version dt word (c.knows.ensures w is ∙ c.if-not-knows.false) (not_zero c.args.image c.if-image-eq0.false) (unknown_row c.args.shared.now.images w.declared image_version is.declared c.in-None.ensures) made))

pub returns-in-Some : goal.returns-in-Some
returns-in-Some c = λ w dt word is.
    let image_version : ImageVersion = record { image = c.args.image; version = c.args.version } in
    (λ x. known_makes w c.args.mote c.args.image c.args.version dt word (row_of_image image_version c.in-Some.field-0.now) (c.knows.ensures w is ∙ c.if-not-knows.false) (not_zero c.args.image c.if-image-eq0.false) refl (known_row c.args.shared.now.images w.declared image_version c.in-Some.field-0.now is.declared c.in-Some.ensures), λ made. refl)

use Rattle.dg_volume.specs.Table.{row_at}
use Rattle.dg_shared.specs.Images.{row_of_image}
use Rattle.dg_world.specs.inner.Outcomes.{as_outcome}
use Rattle.dg_shared.proofs.ImageLemmas.{known_row}
use Rattle.dg_shared.proofs.MakesLemmas.{not_zero}
use Rattle.dg_world.proofs.InjectLemmas.{known_image}
use Rattle.std.proofs.Common.{refl}
use Rattle.dg_shared.proofs.UnseenLemmas.{image_unseen}
use Rattle.dg_world.proofs.injecting.inject.Goals as goal

pub returns-in-Some-clause-ends : goal.returns-in-Some-clause-ends
returns-in-Some-clause-ends g c = λ w m declares stands.
    let image_version = c.args.image_version in
    known_image (as_outcome c.inject_image.result c.inject_image.new.outcome) w m c.args.context.now.moment c.args.word image_version.image (row_at w.declared image_version.image image_version.version) (row_of_image image_version c.in-Some.image.now) c.args.runs.now c.inject_image.new.runs _ _ (not_zero image_version.image c.if-image_version-eq0.false)
    (known_row c.args.context.now.shared.now.images w.declared image_version c.in-Some.image.now declares c.in-Some.ensures) (c.inject_image.ensures.ends w m stands)

pub returns-in-Some-clause-unseen : goal.returns-in-Some-clause-unseen
returns-in-Some-clause-unseen g c = λ w m declares unseen.
    let image_version = c.args.image_version in
    image_unseen w m c.args.context.now.moment c.args.word image_version.image (row_at w.declared image_version.image image_version.version) (row_of_image image_version c.in-Some.image.now) (not_zero image_version.image c.if-image_version-eq0.false) refl
    (known_row c.args.context.now.shared.now.images w.declared image_version c.in-Some.image.now declares c.in-Some.ensures) unseen

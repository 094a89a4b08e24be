use Rattle.dg_shared.proofs.ImageLemmas.{added}
use Rattle.dg_shared.proofs.images.Images.add.Goals as goal

pub returns-in-Ok-clause-added : goal.returns-in-Ok-clause-added
returns-in-Ok-clause-added c = λ rows declares. added c.args.self.now _ c.args.image_version c.args.image rows c.in-Ok.ensures.updates.0 c.requires declares

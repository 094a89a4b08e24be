use Rattle.dg_shared.proofs.LinkLemmas.{joined}
use Rattle.dg_shared.proofs.links.Links.join.Goals as goal

pub returns : goal.returns
returns c = λ pairs known. joined c.args.self.now.neighbours c.note.new.neighbours c.note-2.new.neighbours pairs c.args.a c.args.b known c.note.ensures c.note-2.ensures

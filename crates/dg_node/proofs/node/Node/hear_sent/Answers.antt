use Rattle.std.proofs.Common.{refl, Some}
use Rattle.dg_frame.specs.Spelling.{frame_of}
use Rattle.dg_node.specs.declared.node.Node.{Node}
use Rattle.dg_node.proofs.NodeLemmas.{hear_done, hear_stops}
use Rattle.dg_node.proofs.node.Node.hear_sent.Goals as goal

pub returns-in-Ok-clause-done : goal.returns-in-Ok-clause-done
returns-in-Ok-clause-done g c = λ m s mote.
    let u : Node = record { image_version = c.args.self.now.image_version; mote = c.hear_sent.new.self } in
    hear_done m s c.args.now c.args.word (frame_of c.args.message.now) c.args.self.now u _ _ c.in-Ok.heard refl (c.in-Ok.ensures.done m s mote)

pub returns-in-Err-clause-done : goal.returns-in-Err-clause-done
returns-in-Err-clause-done g c = λ m s mote.
    let u : Node = record { image_version = c.args.self.now.image_version; mote = c.hear_sent.new.self } in
    hear_stops m s c.args.now c.args.word (frame_of c.args.message.now) (Some c.args.self.now) (Some u) _ _ (c.in-Err.ensures.stopped m s mote)

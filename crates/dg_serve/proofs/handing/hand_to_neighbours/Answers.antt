use Rattle.std.proofs.Common.{◌∷◌, [], if◌then◌else◌, refl, ◌∙◌, arith}
use Rattle.dg_script.specs.Places.{is_linked}
use Rattle.dg_serve.proofs.HandLemmas.{handed_none, handed_more, handed_front, on_err}
use Rattle.dg_serve.proofs.handing.hand_to_neighbours.Goals as goal

pub loop-other-init : goal.loop-other-init
loop-other-init g c = record {
  addressees = c.requires.addressees;
  port = refl;
  failures = refl;
  handed = handed_none (λ k. if is_linked c.args.profile.now.links c.args.mote k then k ∷ [] else []) c.args.frame.now (g.L.Link.inboxes c.args.link.now);
}

pub loop-other-preserved : goal.loop-other-preserved
loop-other-preserved g c =
    let i = c.loop-other.invariant in
    record {
      addressees = c.hand_to.ensures.same_motes ∙ i.addressees;
      port = c.hand_to.ensures.same_port ∙ i.port;
      failures = c.in_ok-hand_to.ensures.counts ∙ i.failures;
      handed = handed_more (λ k. if is_linked c.args.profile.now.links c.args.mote k then k ∷ [] else []) c.loop-other.other c.args.frame.now (g.L.Link.inboxes c.args.link.now) _ _ i.handed c.in_ok-hand_to.ensures.ok;
    }

pub returns-in_err-hand_to-clause-err : goal.returns-in_err-hand_to-clause-err
returns-in_err-hand_to-clause-err g c =
    let i = c.loop-other.invariant in
    on_err c.from_residual.result (handed_front (λ k. if is_linked c.args.profile.now.links c.args.mote k then k ∷ [] else []) c.loop-other.other c.args.profile.now.motes c.args.frame.now (g.L.Link.inboxes c.args.link.now) (g.L.Link.inboxes c.loop-other.link) _ (omega arith) i.handed c.in_err-hand_to.ensures.err)

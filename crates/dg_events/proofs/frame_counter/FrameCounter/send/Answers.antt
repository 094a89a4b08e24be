use Rattle.std.proofs.Common.{◌∷◌, ◌++◌, [], List, sym, ap, subst, ◌∙◌}
use Rattle.dg_events.specs.FrameCounters.{with_sent_at, AreFromOutside}
use Rattle.dg_events.specs.declared.sent_frame.SentFrame.{SentFrame}
use Rattle.dg_events.specs.declared.frame_counter.FrameCounts.{FrameCounts}
use Rattle.dg_events.specs.declared.outside_counts.OutsideCounts.{OutsideCounts}
use Rattle.dg_events.proofs.FrameEvents.{sent_frame}
use Rattle.dg_events.proofs.OutsideLemmas.{none_outside}
use Rattle.dg_events.proofs.frame_counter.FrameCounter.send.Goals as goal

pub returns-clause-frames : goal.returns-clause-frames
returns-clause-frames c lines past p h has kept =
    let was = has (sym c.make_room.ensures.lost ∙ kept) in (
      sent_frame c.args.self.now.sent.items c.push_reserved.new.self.items c.args.self.now.motes c.add_sent.new.motes c.args.event.now lines c.args.kind
          c.args.mote c.new.result past p h c.requires.mote c.new.ensures
          (c.push_reserved.ensures.items ∙ ap (λ (xs : List SentFrame). xs ++ c.new.result ∷ []) c.make_room.ensures.sent)
          (c.add_sent.ensures ∙ ap (λ (ms : List FrameCounts). with_sent_at c.args.mote c.args.kind ms) c.make_room.ensures.motes) was.0,
      subst (λ (ms : List OutsideCounts). AreFromOutside ms (past ++ p ∷ [])) (sym c.make_room.ensures.outside)
          (none_outside c.args.self.now.outside c.args.event.now lines past p h.played h.none was.1),
    )

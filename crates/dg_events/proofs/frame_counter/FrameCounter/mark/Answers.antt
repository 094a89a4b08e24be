use Rattle.std.proofs.Common.{List, length, drop, sym, subst, ◌∙◌}
use Rattle.std.proofs.lemmas.List.{take_at}
use Rattle.dg_events.specs.FrameCounters.{AreFrames, KeepsKinds}
use Rattle.dg_events.specs.declared.sent_frame.SentFrame.{SentFrame}
use Rattle.dg_events.proofs.FrameEvents.{marked_frame, kinds_long}
use Rattle.dg_events.proofs.frame_counter.FrameCounter.mark.Goals as goal

pub returns : goal.returns
returns c played has kept =
    let log : List SentFrame = c.args.self.now.sent.items in
    let new : List SentFrame = c.mark_in.new.sent in
    let kinds : KeepsKinds log new = subst (λ (xs : List SentFrame). KeepsKinds xs new) c.deref_mut.ensures.value c.mark_in.ensures in
    let back = take_at new (drop (length new) log) c.args.self.now.sent.len (kinds_long log new kinds ∙ sym c.args.self.now.sent.ok.0) in (
      subst (λ (items : List SentFrame). AreFrames items c.args.self.now.motes played) (sym back)
          (marked_frame log new c.args.self.now.motes played kinds (has kept).0),
      (has kept).1,
    )

use Rattle.std.proofs.Common.{◌≡◌, ◌⊎◌, ◌∷◌, ◌++◌, ◌<◌, ℕ, [], List, length, drop, sym, ap, subst, ◌∙◌}
use Rattle.std.proofs.lemmas.List.{take_at}
use Rattle.dg_events.specs.FrameCounters.{AreFrames, HasNumbered}
use Rattle.dg_events.specs.declared.sent_frame.SentFrame.{SentFrame}
use Rattle.dg_events.specs.declared.frame_counter.FrameCounts.{FrameCounts}
use Rattle.dg_events.proofs.FrameEvents.{refused_frame, unknown_frame, heard_frame, kinds_long}
use Rattle.dg_events.proofs.OutsideLemmas.{heard_inside}
use Rattle.dg_events.proofs.frame_counter.FrameCounter.hear.Goals as goal

pub returns-then-is_refused : goal.returns-then-is_refused
returns-then-is_refused c past p h has kept =
    refused_frame c.args.self.now c.args.event.now c.args.reports.now c.args.number c.args.fault past p h (sym c.is_refused.ensures ∙ c.if-is_refused.true) has kept

pub returns-in-None : goal.returns-in-None
returns-in-None c past p h has kept =
    let log : List SentFrame = c.args.self.now.sent.items in
    let new : List SentFrame = c.hear_in.new.sent in
    let same : new ≡ log = c.in-None.ensures.1 ∙ c.deref_mut.ensures.value in
    let far : (c.args.number ≡ 0) ⊎ (length log < c.args.number) =
    subst (λ (xs : List SentFrame). (c.args.number ≡ 0) ⊎ (length xs < c.args.number)) c.deref_mut.ensures.value c.in-None.ensures.0 in
    let back = take_at new (drop (length new) log) c.args.self.now.sent.len (ap length same ∙ sym c.args.self.now.sent.ok.0) ∙ same in
    let framed = unknown_frame c.args.self.now c.args.event.now c.args.reports.now c.args.number c.args.fault past p h far has kept in
    (subst (λ (items : List SentFrame). AreFrames items c.args.self.now.motes (past ++ p ∷ [])) (sym back) framed.0, framed.1)

pub returns-in-Some : goal.returns-in-Some
returns-in-Some c past p h has kept =
    let log : List SentFrame = c.args.self.now.sent.items in
    let new : List SentFrame = c.hear_in.new.sent in
    let kind : ℕ = c.in-Some.heard.kind in
    let at : HasNumbered c.args.number log new kind =
    subst (λ (xs : List SentFrame). HasNumbered c.args.number xs new kind) c.deref_mut.ensures.value c.in-Some.ensures in
    let back = take_at new (drop (length new) log) c.args.self.now.sent.len (kinds_long log new at.kept ∙ sym c.args.self.now.sent.ok.0) in (
      subst (λ (items : List SentFrame). AreFrames items c.add_heard.new.motes (past ++ p ∷ [])) (sym back)
          (subst (λ (ms : List FrameCounts). AreFrames new ms (past ++ p ∷ [])) (sym c.add_heard.ensures)
          (heard_frame log new c.args.self.now.motes c.args.number kind c.args.fault c.args.event.now c.args.reports.now past p h at (has kept).0 c.args.mote
          (sym c.is_refused.ensures ∙ c.if-is_refused.false) c.requires.mote)),
      heard_inside c.args.self.now.outside c.args.event.now c.args.reports.now past p h.played h.hears (has kept).1,
    )

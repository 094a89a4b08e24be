use Rattle.std.proofs.Common.{Bool, sym, ap, ◌∙◌}
use Rattle.std.specs.Prelude.{if◌then◌else◌, Option}
use Rattle.dg_rules.specs.World.{Sent}
use Rattle.dg_rules.specs.Events.{Does, Refuses, heard_sent}
use Rattle.dg_script.specs.declared.report.Cause.TheVariants as cause
use Rattle.dg_frame.specs.Spelling.{frame_of}
use Rattle.dg_rules.specs.World.{site, store_at}
use Rattle.dg_rules.specs.Events.{hear_by}
use Rattle.dg_shared.proofs.finding.find_nth.Goals as goal

pub returns-in-None-clause-found : goal.returns-in-None-clause-found
returns-in-None-clause-found c = λ w word is.
    let D : Option Sent → Does = λ x. heard_sent w c.args.context.now.mote c.args.context.now.moment word x in
    ap D (sym (c.in-None.ensures w.sent is.sent))

pub returns-then-are_joined-clause-found : goal.returns-then-are_joined-clause-found
returns-then-are_joined-clause-found c = λ w word is.
    let m = c.args.context.now.mote in
    let D : Option Sent → Does = λ x. heard_sent w m c.args.context.now.moment word x in
    let L : Bool → Does = λ b. if b then hear_by w (store_at w m) (site w m).runs c.args.context.now.moment word (frame_of c.in-Some.sent.now.message) else Refuses cause.Link in
    ap D (sym (c.in-Some.ensures w.sent is.sent)) ∙ ap L (sym (c.are_joined.ensures w.links is.links) ∙ c.if-are_joined.true)

pub returns-else-are_joined-clause-found : goal.returns-else-are_joined-clause-found
returns-else-are_joined-clause-found c = λ w word is.
    let m = c.args.context.now.mote in
    let D : Option Sent → Does = λ x. heard_sent w m c.args.context.now.moment word x in
    let L : Bool → Does = λ b. if b then hear_by w (store_at w m) (site w m).runs c.args.context.now.moment word (frame_of c.in-Some.sent.now.message) else Refuses cause.Link in
    ap D (sym (c.in-Some.ensures w.sent is.sent)) ∙ ap L (sym (c.are_joined.ensures w.links is.links) ∙ c.if-are_joined.false)

use Rattle.std.proofs.Common.{Bool, sym, ap, ◌∙◌}
use Rattle.std.specs.Prelude.{if◌then◌else◌, Option}
use Rattle.dg_rules.specs.World.{Sent, last_frame}
use Rattle.dg_rules.specs.Events.{Does, Refuses, heard_last}
use Rattle.dg_script.specs.declared.report.Cause.TheVariants as cause
use Rattle.dg_shared.proofs.finding.find_last.Goals as goal

pub returns-then-not-are_joined-clause-found : goal.returns-then-not-are_joined-clause-found
returns-then-not-are_joined-clause-found c = λ w word is.
    let m = c.args.context.now.mote in
    let L : Bool → Does = λ b. if b then heard_last w c.args.from m c.args.context.now.moment word (last_frame w c.args.from) else Refuses cause.Link in
    ap L (sym (c.are_joined.ensures w.links is.links) ∙ c.if-not-are_joined.true)

pub returns-in-None-clause-found : goal.returns-in-None-clause-found
returns-in-None-clause-found c = λ w word is.
    let m = c.args.context.now.mote in
    let D : Option Sent → Does = λ x. heard_last w c.args.from m c.args.context.now.moment word x in
    let L : Bool → Does = λ b. if b then D (last_frame w c.args.from) else Refuses cause.Link in
    ap L (sym (c.are_joined.ensures w.links is.links) ∙ c.if-not-are_joined.false) ∙ ap D (sym (c.in-None.ensures w.sent is.sent))

pub returns-in-Some-clause-found : goal.returns-in-Some-clause-found
returns-in-Some-clause-found c = λ w word is.
    let m = c.args.context.now.mote in
    let D : Option Sent → Does = λ x. heard_last w c.args.from m c.args.context.now.moment word x in
    let L : Bool → Does = λ b. if b then D (last_frame w c.args.from) else Refuses cause.Link in
    ap L (sym (c.are_joined.ensures w.links is.links) ∙ c.if-not-are_joined.false) ∙ ap D (sym (c.in-Some.ensures w.sent is.sent))

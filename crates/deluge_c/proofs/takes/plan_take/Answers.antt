use Rattle.std.proofs.Common.{◌≡◌, List, ℕ, sym, subst, ◌∙◌}
use Rattle.dg_object.specs.Records.{outline_of}
use Rattle.dg_volume.specs.Stands.{Stands}
use Rattle.dg_volume.specs.Trails.{take_trail}
use Rattle.deluge_c.proofs.PlanLemmas.{when_ok, commands_named, bytes_named, act_of, begin_of}
use Rattle.deluge_c.proofs.takes.plan_take.Goals as goal

pub returns-clause-planned : goal.returns-clause-planned
returns-clause-planned c = when_ok c.take-told.result c.take-told.ensures.planned (λ f. λ s stands.
    let p = c.new-plan.result in
    let q = c.take-told.new.plan in
    let cs = c.commands-1.given.1.1 (sym (commands_named p q c.take-told.ensures.same_lists ∙ c.new-plan.ensures.same_commands)) in
    let bs = c.bytes-1.given.1.1 (sym (bytes_named p q c.take-told.ensures.same_lists ∙ c.new-plan.ensures.same_bytes)) in
    let here = subst (λ (x : List ℕ). Stands x s) (sym c.new-plan.ensures.same) stands in
    act_of (take_trail s (outline_of c.args.profile.now)) c.args.chip.now p q _ _ c.count.result cs bs c.count.ensures c.new-plan.ensures.none c.new-plan.ensures.chip c.take-told.ensures.same_chip (f s here))

pub returns-clause-no_volume : goal.returns-clause-no_volume
returns-clause-no_volume c = λ e s stands. c.take-told.ensures.no_volume e s (subst (λ (x : List ℕ). Stands x s) (sym c.new-plan.ensures.same) stands)

pub returns-clause-refused : goal.returns-clause-refused
returns-clause-refused c = λ e is other s stands. c.take-told.ensures.refused e is other s (subst (λ (x : List ℕ). Stands x s) (sym c.new-plan.ensures.same) stands)

pub returns-clause-room : goal.returns-clause-room
returns-clause-room c = λ e s stands.
    let p = c.new-plan.result in
    let q = c.take-told.new.plan in
    let cs = c.commands-1.given.1.1 (sym (commands_named p q c.take-told.ensures.same_lists ∙ c.new-plan.ensures.same_commands)) in
    let bs = c.bytes-1.given.1.1 (sym (bytes_named p q c.take-told.ensures.same_lists ∙ c.new-plan.ensures.same_bytes)) in
    let here = subst (λ (x : List ℕ). Stands x s) (sym c.new-plan.ensures.same) stands in
    begin_of (take_trail s (outline_of c.args.profile.now)) c.args.chip.now p q _ _ c.count.result cs bs c.count.ensures c.new-plan.ensures.none c.new-plan.ensures.chip c.take-told.ensures.same_chip (c.take-told.ensures.stopped e s here)

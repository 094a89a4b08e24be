use Rattle.std.proofs.Common.{◌≡◌, List, ℕ, sym, subst, ◌∙◌}
use Rattle.dg_volume.specs.Stands.{Stands}
use Rattle.dg_volume.specs.Start.{boot}
use Rattle.deluge_c.proofs.PlanLemmas.{on_ok, if_ok, when_ok, commands_named, bytes_named, act_of, act_ran, begin_of}
use Rattle.deluge_c.proofs.starts.plan_start.Goals as goal

pub returns-clause-planned : goal.returns-clause-planned
returns-clause-planned c = on_ok c.start-told.result c.start-told.ensures.started (λ told f. λ s stands.
    let p = c.new-plan.result in
    let q = c.start-told.new.plan in
    let cs = c.commands-1.given.1.1 (sym (commands_named p q c.start-told.ensures.same_lists ∙ c.new-plan.ensures.same_commands)) in
    let bs = c.bytes-1.given.1.1 (sym (bytes_named p q c.start-told.ensures.same_lists ∙ c.new-plan.ensures.same_bytes)) in
    let here = subst (λ (x : List ℕ). Stands x s) (sym c.new-plan.ensures.same) stands in
    act_of (boot c.args.kind s).trail c.args.chip.now p q _ _ c.count.result cs bs c.count.ensures c.new-plan.ensures.none c.new-plan.ensures.chip c.start-told.ensures.same_chip (f s here).1)

pub returns-clause-started : goal.returns-clause-started
returns-clause-started c = if_ok c.start-told.result c.start-told.ensures.started (λ told f. λ s stands.
    let here = subst (λ (x : List ℕ). Stands x s) (sym c.new-plan.ensures.same) stands in
    let x = (f s here).0 in
    (x.runs, x.chosen, record { image = x.image; version = x.version; pages = x.pages; length = x.length; crc = x.crc }))

pub returns-clause-no_volume : goal.returns-clause-no_volume
returns-clause-no_volume c = λ e s stands. c.start-told.ensures.no_volume e s (subst (λ (x : List ℕ). Stands x s) (sym c.new-plan.ensures.same) stands)

pub returns-clause-no_image : goal.returns-clause-no_image
returns-clause-no_image c = λ e s stands.
    let p = c.new-plan.result in
    let q = c.start-told.new.plan in
    let cs = c.commands-1.given.1.1 (sym (commands_named p q c.start-told.ensures.same_lists ∙ c.new-plan.ensures.same_commands)) in
    let bs = c.bytes-1.given.1.1 (sym (bytes_named p q c.start-told.ensures.same_lists ∙ c.new-plan.ensures.same_bytes)) in
    let here = subst (λ (x : List ℕ). Stands x s) (sym c.new-plan.ensures.same) stands in
    let l = c.start-told.ensures.no_image e s here in
    (l.none, act_ran (boot c.args.kind s).trail c.args.chip.now p q _ _ c.count.result cs bs c.count.ensures c.new-plan.ensures.none c.new-plan.ensures.chip c.start-told.ensures.same_chip l.ran l.stands)

pub returns-clause-room : goal.returns-clause-room
returns-clause-room c = λ e s stands.
    let p = c.new-plan.result in
    let q = c.start-told.new.plan in
    let cs = c.commands-1.given.1.1 (sym (commands_named p q c.start-told.ensures.same_lists ∙ c.new-plan.ensures.same_commands)) in
    let bs = c.bytes-1.given.1.1 (sym (bytes_named p q c.start-told.ensures.same_lists ∙ c.new-plan.ensures.same_bytes)) in
    let here = subst (λ (x : List ℕ). Stands x s) (sym c.new-plan.ensures.same) stands in
    begin_of (boot c.args.kind s).trail c.args.chip.now p q _ _ c.count.result cs bs c.count.ensures c.new-plan.ensures.none c.new-plan.ensures.chip c.start-told.ensures.same_chip (c.start-told.ensures.stopped e s here)

use Rattle.std.proofs.Common.{◌≡◌, ◌≢◌, List, ℕ, false, sym, subst, ◌∙◌}
use Rattle.std.specs.Prelude.{Some}
use Rattle.dg_base.specs.Crc.{crc_of}
use Rattle.dg_slot.specs.Kept.{Held, kept_crc}
use Rattle.dg_slot.specs.Fits.{may_seal}
use Rattle.dg_volume.specs.Stands.{Stands}
use Rattle.dg_volume.specs.Trails.{sealing_trail}
use Rattle.dg_plan.specs.Plans.{planned}
use Rattle.dg_plan.specs.Packets.{its_page, IsSealed}
use Rattle.deluge_c.specs.Plans.{AreActOf, BeginActOf}
use Rattle.deluge_c.proofs.PlanLemmas.{when_ok, commands_named, bytes_named, act_of, begin_of}
use Rattle.deluge_c.proofs.seals.plan_seal.Goals as goal

pub returns-clause-planned : goal.returns-clause-planned
returns-clause-planned c = when_ok c.seal-told.result c.seal-told.ensures.planned (λ f. λ s stands.
    let p = c.new-plan.result in
    let q = c.seal-told.new.plan in
    let cs = c.commands-1.given.1.1 (sym (commands_named p q c.seal-told.ensures.same_lists ∙ c.new-plan.ensures.same_commands)) in
    let bs = c.bytes-1.given.1.1 (sym (bytes_named p q c.seal-told.ensures.same_lists ∙ c.new-plan.ensures.same_bytes)) in
    let here = subst (λ (x : List ℕ). Stands x s) (sym c.new-plan.ensures.same) stands in
    let x = f s here in
    let name = c.args.name in
    let sealed = subst (λ (y : List ℕ). IsSealed name x.0 (its_page y name) s) c.new-plan.ensures.same x.1 in
    let act = act_of (sealing_trail s name.image x.0 (its_page (planned p) name)) c.args.chip.now p q _ _ c.count.result cs bs c.count.ensures c.new-plan.ensures.none c.new-plan.ensures.chip c.seal-told.ensures.same_chip x.2 in
    (x.0, sealed, subst (λ (y : List ℕ). AreActOf (sealing_trail s name.image x.0 (its_page y name)) c.args.chip.now c.commands-1.given.0 c.bytes-1.given.0 c.count.result) c.new-plan.ensures.same act))

pub returns-clause-no_volume : goal.returns-clause-no_volume
returns-clause-no_volume c = λ e s stands. c.seal-told.ensures.no_volume e s (subst (λ (x : List ℕ). Stands x s) (sym c.new-plan.ensures.same) stands)

pub returns-clause-not_kept : goal.returns-clause-not_kept
returns-clause-not_kept c = λ e s h stands held. c.seal-told.ensures.not_kept e s h (subst (λ (x : List ℕ). Stands x s) (sym c.new-plan.ensures.same) stands) held

pub returns-clause-not_next : goal.returns-clause-not_next
returns-clause-not_next c = λ next e s h stands held. c.seal-told.ensures.not_next next e s h (subst (λ (x : List ℕ). Stands x s) (sym c.new-plan.ensures.same) stands) held

pub returns-clause-bad : goal.returns-clause-bad
returns-clause-bad c = λ kept found e s h stands held.
    let b = c.seal-told.ensures.bad kept found e s h (subst (λ (x : List ℕ). Stands x s) (sym c.new-plan.ensures.same) stands) held in
    subst (λ (y : List ℕ). crc_of (its_page y c.args.name) ≢ kept_crc h) c.new-plan.ensures.same (λ is. b.2 (b.1 ∙ is ∙ sym b.0))

pub returns-clause-unfit : goal.returns-clause-unfit
returns-clause-unfit c = λ e s h stands held.
    let b = c.seal-told.ensures.unfit e s h (subst (λ (x : List ℕ). Stands x s) (sym c.new-plan.ensures.same) stands) held in
    (b.0, subst (λ (y : List ℕ). may_seal c.args.name.image h (its_page y c.args.name) ≡ false) c.new-plan.ensures.same b.1)

pub returns-clause-room : goal.returns-clause-room
returns-clause-room c = λ e s h stands held.
    let p = c.new-plan.result in
    let q = c.seal-told.new.plan in
    let cs = c.commands-1.given.1.1 (sym (commands_named p q c.seal-told.ensures.same_lists ∙ c.new-plan.ensures.same_commands)) in
    let bs = c.bytes-1.given.1.1 (sym (bytes_named p q c.seal-told.ensures.same_lists ∙ c.new-plan.ensures.same_bytes)) in
    let here = subst (λ (x : List ℕ). Stands x s) (sym c.new-plan.ensures.same) stands in
    let name = c.args.name in
    subst (λ (y : List ℕ). BeginActOf (sealing_trail s name.image h (its_page y name)) c.args.chip.now c.commands-1.given.0 c.bytes-1.given.0 c.count.result) c.new-plan.ensures.same
    (begin_of (sealing_trail s name.image h (its_page (planned p) name)) c.args.chip.now p q _ _ c.count.result cs bs c.count.ensures c.new-plan.ensures.none c.new-plan.ensures.chip c.seal-told.ensures.same_chip (c.seal-told.ensures.stopped e s h here held))

use Rattle.std.proofs.Common.{◌≡◌, List, ℕ, sym, subst, refl, ap, ◌∙◌, Some, Ok, Err}
use Rattle.dg_object.specs.Object.{Row, row_of}
use Rattle.dg_volume.specs.Changes.{inject_refusal}
use Rattle.dg_rules.specs.World.{site, store_at}
use Rattle.dg_rules.specs.Events.{inject_row, inject_unless}
use Rattle.dg_node.specs.Hosts.{host}
use Rattle.dg_world.specs.inner.ActOutcomes.{injected_outcome}
use Rattle.dg_world.specs.inner.Outcomes.{outcome_of, halt_of}
use Rattle.dg_shared.specs.Images.{row_of_image}
use Rattle.dg_world.specs.inner.OutcomeEndings.{OutcomeEnds}
use Rattle.dg_world.proofs.ActingLemmas.{node_running, stands_in, inject_ends, inject_reads}
use Rattle.dg_world.proofs.OutcomeLemmas.{told_as}
use Rattle.dg_world.proofs.injecting.inject_image.Goals as goal

pub returns-in-Ok-clause-ends : goal.returns-in-Ok-clause-ends
returns-in-Ok-clause-ends g c = λ w m stands.
    let a = g.N.Nor.device c.args.board.now in
    let b = g.N.Nor.device c.inject.new.board in
    let s = store_at w m in
    let at = c.args.context.now.moment in
    let v = c.args.runs.now in
    let made : List ℕ → List ℕ → Row = λ name bytes. row_of c.args.image_version.image c.args.image_version.version name bytes in
    let row = made c.as_slice.result.now c.as_slice-2.result.now in
    let same : row ≡ row_of_image c.args.image_version c.args.image.now = ap (λ name. made name c.as_slice-2.result.now) c.as_slice.ensures ∙ ap (λ bytes. made c.args.image.now.name bytes) c.as_slice-2.ensures in
    subst (λ x. OutcomeEnds (Ok (outcome_of c.note_injected.new.outcome)) w m (inject_row w m (Some x) at c.args.word) (host a v) (host b c.inject.new.runs)) same
    (told_as w m (inject_unless (inject_refusal s row) w m row at c.args.word) v c.inject.new.runs a b _ (injected_outcome row c.in-Ok.injected) (c.note_injected.ensures.outcome row refl)
    (inject_ends w m at c.args.word v c.inject.new.runs a b stands.mote (Ok c.in-Ok.injected) (inject_refusal s row) row (c.in-Ok.ensures.done (node_running (site w m).runs) s stands.stands (stands_in a.image v s (site w m).runs stands.mote))))

pub returns-in-Ok-clause-reads : goal.returns-in-Ok-clause-reads
returns-in-Ok-clause-reads g c =
    let row : Row = row_of c.args.image_version.image c.args.image_version.version c.as_slice.result.now c.as_slice-2.result.now in
    inject_reads c.in-Ok.injected row c.args.context.now.known c.note_injected.new.outcome.refused (g.N.Nor.device c.args.board.now) (g.N.Nor.device c.inject.new.board) (c.note_injected.ensures.refused row refl) c.in-Ok.ensures.reads

pub returns-in-Err-clause-ends : goal.returns-in-Err-clause-ends
returns-in-Err-clause-ends g c = λ w m stands.
    let a = g.N.Nor.device c.args.board.now in
    let b = g.N.Nor.device c.inject.new.board in
    let s = store_at w m in
    let at = c.args.context.now.moment in
    let v = c.args.runs.now in
    let made : List ℕ → List ℕ → Row = λ name bytes. row_of c.args.image_version.image c.args.image_version.version name bytes in
    let row = made c.as_slice.result.now c.as_slice-2.result.now in
    let same : row ≡ row_of_image c.args.image_version c.args.image.now = ap (λ name. made name c.as_slice-2.result.now) c.as_slice.ensures ∙ ap (λ bytes. made c.args.image.now.name bytes) c.as_slice-2.ensures in
    subst (λ x. OutcomeEnds (Err (halt_of c.act_fault.result c.act_fault.new.outcome.before)) w m (inject_row w m (Some x) at c.args.word) (host a v) (host b c.inject.new.runs)) same
    (subst (λ h. OutcomeEnds (Err h) w m (inject_unless (inject_refusal s row) w m row at c.args.word) (host a v) (host b c.inject.new.runs)) (sym c.act_fault.ensures)
    (inject_ends w m at c.args.word v c.inject.new.runs a b stands.mote (Err c.in-Err.fault) (inject_refusal s row) row (c.in-Err.ensures.done (node_running (site w m).runs) s stands.stands (stands_in a.image v s (site w m).runs stands.mote))))
